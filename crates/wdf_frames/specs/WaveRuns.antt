-- A run of a wave that was done.
use Rattle.std.specs.Prelude.{◌≡◌, ℕ, List, length, Option}
use Rattle.std.specs.Io.KnownBytes.{Consumes, Appends}
use Rattle.wdf_wav.specs.Header.{data_size}
use Rattle.wdf_frames.specs.Setting.{Setting, AreWithin}
use Rattle.wdf_frames.specs.Written.{IsWritten}

-- The input lost the bytes of all its frames, whose samples are within amp, and no more; the output gained the wave
-- of their load waves.
pub record WritesWave (s : Setting) (left left' written written' : Option (List ℕ)) : Type 0 where
  pub body : List ℕ
  pub size : length body ≡ data_size s.head
  pub input : Consumes left left' body
  pub within : AreWithin s body
  pub bytes : List ℕ
  pub wave : IsWritten s body bytes
  pub output : Appends written written' bytes
