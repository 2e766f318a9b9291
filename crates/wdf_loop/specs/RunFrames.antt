-- How one of several runs goes on by frames: what it is driven by, what it puts out, and what is noted of it.
use Rattle.std.specs.Prelude.{◌≡◌, ℕ, ◌+◌, ◌*◌, ◌<◌, ◌≤◌, ℤ, pos, unsigned_abs, List, length, map, take, drop, slice_index_or}
use Rattle.wdf_law.specs.Network.{Network, elements, source_numbers}
use Rattle.wdf_law.specs.Step.{Frame, IsStep, after, sent_in}
use Rattle.wdf_law.specs.Run.{states}
use Rattle.wdf_law.specs.OutputRule.{drive, load_wave}
use Rattle.wdf_bounds.specs.Plans.{PlanOf}
use Rattle.wdf_bounds.specs.WordBound.{word_limit}
use Rattle.wdf_energy.specs.Accounts.{AccountOf, noted}
use Rattle.wdf_sched.specs.Meaning.{Starts}

-- Of whole frames, in each of which the samples of one run stand behind those of the other, those of a run in a frame: one for
-- each source, source 0 first.
abbrev pub samples_of : (runs sources run frame : ℕ) → List ℤ → List ℤ
samples_of runs sources run frame input = take sources (drop ((frame * runs + run) * sources) input)

-- a frame of a run, from the state zs to the state behind it: the step driven by the samples, with the load wave w
pub record IsFrame (n : Network) (plan : PlanOf) (samples zs behind : List ℤ) (w : ℤ) : Type 0 where
  pub frame : Frame
  pub step : IsStep n (states n zs) (drive plan.guard n samples) frame
  pub wave : w ≡ load_wave n frame
  pub state : behind ≡ after n frame

-- One of so many runs goes on by so many frames from the state zs to ys, each from the state that the one before left, driven by
-- its samples. In the last the elements reflect and are sent these waves. An account has each frame noted.
pub record RunsOn (n : Network) (plan : PlanOf) (runs count : ℕ) (input output : List ℤ) (run : ℕ) (zs ys : List ℤ) (ups last : ℕ → ℤ) (opens closes : AccountOf) : Type 0 where
  -- the states by how many frames are done
  pub state : ℕ → List ℤ
  pub begins : state 0 ≡ zs
  pub frames : (f : ℕ) → f < count
      → IsFrame n plan (samples_of runs (length (source_numbers n)) run f input) (state f) (state (f + 1)) (slice_index_or output (f * runs + run) (pos 0))
  pub ends : state count ≡ ys
  pub words : (f : ℕ) → f < count → unsigned_abs (slice_index_or output (f * runs + run) (pos 0)) ≤ word_limit plan
  pub starts : (f : ℕ) → f < count → f + 1 ≡ count → Starts n (states n (state f)) (drive plan.guard n (samples_of runs (length (source_numbers n)) run f input)) ups
  pub sent : (f : ℕ) (h : f < count) → f + 1 ≡ count → (i : ℕ) → i < length (elements n) → last i ≡ sent_in n (frames f h).frame i
  -- the account by how many frames are noted
  pub account : ℕ → AccountOf
  pub opened : account 0 ≡ opens
  pub notes : (f : ℕ) (h : f < count)
      → account (f + 1) ≡ noted n (map (drive plan.guard n (samples_of runs (length (source_numbers n)) run f input)) (source_numbers n)) (sent_in n (frames f h).frame) (account f)
  pub closed : account count ≡ closes
