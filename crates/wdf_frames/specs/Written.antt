-- What is written: the wave of the load waves that the networks give, run from rest on the samples that are read.
use Rattle.std.specs.Prelude.{◌≡◌, ℕ, ℤ, List, ◌++◌, length, map, filter, replicate}
use Rattle.wdf_law.specs.OutputRule.{output_of}
use Rattle.wdf_lattice.specs.Waves.{GivesWaves}
use Rattle.wdf_loop.specs.Limiting.{is_limited}
use Rattle.wdf_wav.specs.Header.{head_bytes_of, pad_size}
use Rattle.wdf_wav.specs.PcmStream.{data_of}
use Rattle.wdf_frames.specs.Setting.{Setting, runs_of, samples_in, written_head, down_of}

-- the samples in body give these load waves
abbrev pub GivesFrames : Setting → List ℕ → List ℤ → Type 0
GivesFrames s body waves = GivesWaves s.networks s.plan.guard (runs_of s) (samples_in s body) waves

-- the bytes of the output samples that load waves come to
abbrev pub coded : Setting → List ℤ → List ℕ
coded s waves = data_of s.head.bits (map (output_of (down_of s) s.head.bits) waves)

-- how many of them are limited
abbrev pub limited_among : Setting → List ℤ → ℕ
limited_among s waves = length (filter (is_limited (down_of s) s.head.bits) waves)

-- the header, which states all frames of the input, and the output samples for those of body
pub record IsResult (s : Setting) (body bytes : List ℕ) : Type 0 where
  pub waves : List ℤ
  pub gives : GivesFrames s body waves
  pub parts : bytes ≡ head_bytes_of (written_head s) ++ coded s waves

-- the same of all frames, and the pad byte after data of odd size
pub record IsWritten (s : Setting) (body bytes : List ℕ) : Type 0 where
  pub unpadded : List ℕ
  pub result : IsResult s body unpadded
  pub padded : bytes ≡ unpadded ++ replicate (pad_size (written_head s)) 0

-- the output samples for body of which so many are limited
pub record CountsLimited (s : Setting) (body : List ℕ) (count : ℕ) : Type 0 where
  pub waves : List ℤ
  pub gives : GivesFrames s body waves
  pub counted : count ≡ limited_among s waves
