-- What one frame of the engine does to the down waves by element.
use Rattle.std.specs.Prelude.{◌≡◌, ℕ, ◌+◌, ◌<◌, ◌≤◌, ℤ, unsigned_abs, List, length, All}
use Rattle.wdf_law.specs.Trees.{AdaptorTree}
use Rattle.wdf_law.specs.Network.{Network, elements, source_numbers}
use Rattle.wdf_law.specs.Step.{Frame, IsStep, sent_in}
use Rattle.wdf_law.specs.Run.{states}
use Rattle.wdf_law.specs.OutputRule.{drive}
use Rattle.wdf_bounds.specs.Plans.{PlanOf}
use Rattle.wdf_bounds.specs.WordBound.{word_limit, Fits}
use Rattle.wdf_bounds.specs.HeldWords.{IsReached}
use Rattle.wdf_tree.specs.Places.{at_place, gathered}

-- A frame may be made of these samples, after done others: the lists and the trees are the network's, there is one sample
-- for each source and none is larger than the plan's amp, and the stored energy is within what was sent in.
pub record CanPass (n : Network) (plan : PlanOf) (done : ℕ) (left right : AdaptorTree) (sources : List ℕ) (samples before : List ℤ) : Type 0 where
  pub fits : Fits n plan
  pub left_tree : left ≡ n.left
  pub right_tree : right ≡ n.right
  pub numbers : sources ≡ source_numbers n
  pub each : length samples ≡ length (source_numbers n)
  pub amplitude : All (λ (z : ℤ). unsigned_abs z ≤ plan.amp) samples
  pub frames : done < plan.frames
  pub energy : IsReached n plan done (gathered n before)

-- The frame from the down waves before to those behind it, done frames being done before it: it is the step from the
-- states before, and the stored energy stays what the sources can have sent in.
pub record IsPass (n : Network) (plan : PlanOf) (done : ℕ) (samples before behind : List ℤ) : Type 0 where
  pub frame : Frame
  pub step : IsStep n (states n (gathered n before)) (drive plan.guard n samples) frame
  pub downs : (i : ℕ) → i < length (elements n) → at_place behind i ≡ sent_in n frame i
  pub small : (i : ℕ) → unsigned_abs (sent_in n frame i) ≤ word_limit plan
  pub energy : IsReached n plan (done + 1) (gathered n behind)
