-- What a run of a wave is set to: the networks that it drives, its plan, and the head of the wave that it reads.
use Rattle.std.specs.Prelude.{◌≡◌, ℕ, ◌+◌, ◌*◌, ◌<◌, ◌≤◌, ℤ, List, length, take, All, unsigned_abs}
use Rattle.wdf_bounds.specs.Plans.{PlanOf}
use Rattle.wdf_lattice.specs.declared.networks.Networks.{Networks}
use Rattle.wdf_lattice.specs.Sides.{run_count, down_shift_of}
use Rattle.wdf_wav.specs.declared.head.Head.{Head}
use Rattle.wdf_wav.specs.Header.{block_align}
use Rattle.wdf_wav.specs.PcmStream.{samples_of, sample_at}

pub record Setting : Type 0 where
  pub networks : Networks
  pub plan : PlanOf
  -- that of the input
  pub head : Head

abbrev pub setting : Networks → PlanOf → Head → Setting
setting ns plan head = record { networks = ns; plan = plan; head = head }

-- ---- frames

-- how many runs the channels drive; the output has a channel for each
abbrev pub runs_of : Setting → ℕ
runs_of s = run_count s.networks s.head.channels

-- the head of the output: that of the input, with a channel for each run
abbrev pub written_head : Setting → Head
written_head s = record s.head { channels = runs_of s }

-- the bytes of a frame that is read, and of one that is written
abbrev pub read_size : Setting → ℕ
read_size s = block_align s.head

abbrev pub write_size : Setting → ℕ
write_size s = block_align (written_head s)

-- an output value is the load wave by 2^down
abbrev pub down_of : Setting → ℕ
down_of s = down_shift_of s.networks s.plan.guard s.plan.shift

-- ---- samples

-- those in the bytes of frames
abbrev pub samples_in : Setting → List ℕ → List ℤ
samples_in s body = samples_of s.head.bits body

-- no magnitude is over amp
abbrev pub AreSmall : Setting → List ℤ → Type 0
AreSmall s samples = All (λ (z : ℤ). unsigned_abs z ≤ s.plan.amp) samples

abbrev pub AreWithin : Setting → List ℕ → Type 0
AreWithin s body = AreSmall s (samples_in s body)

-- the first sample over amp, frame after frame and in each frame channel after channel, is this one, in a whole frame
pub record IsFirstOver (s : Setting) (body : List ℕ) (frame channel : ℕ) (sample : ℤ) : Type 0 where
  pub one_channel : channel < s.head.channels
  pub whole_frame : (frame + 1) * read_size s ≤ length body
  pub value : sample_at s.head body frame channel ≡ sample
  pub over : s.plan.amp < unsigned_abs sample
  pub before : AreSmall s (take (frame * s.head.channels + channel) (samples_in s body))
