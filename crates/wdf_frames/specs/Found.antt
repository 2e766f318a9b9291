-- The first sample over amp of a block.
use Rattle.std.specs.Prelude.{◌≡◌, ℕ, ◌+◌, ◌*◌, ◌<◌, ◌≤◌, ℤ, pos, List, length, slice_index_or, Option, Some, None}
use Rattle.wdf_frames.specs.declared.over.Over.{Over}

-- it is the one at this place, of so many channels
pub record IsPlace (channels place : ℕ) (samples : List ℤ) (o : Over) : Type 0 where
  pub one_channel : o.channel < channels
  pub at : place ≡ o.frame * channels + o.channel
  pub value : o.sample ≡ slice_index_or samples place (pos 0)

-- the one behind so many of the samples, if it is one of them
abbrev pub IsFound : (channels small : ℕ) → List ℤ → Option Over → Type 0
IsFound channels small samples None = length samples ≤ small
IsFound channels small samples (Some o) = (small < length samples) × IsPlace channels small samples o
