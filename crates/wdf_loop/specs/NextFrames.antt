-- Frame after frame of a run, as values of a schedule's slots.
use Rattle.std.specs.Prelude.{◌≡◌, ℕ, zero, suc, ◌+◌, ◌<◌, ℤ, List, length, map}
use Rattle.wdf_law.specs.Network.{unit_of, elements, reactances}
use Rattle.wdf_law.specs.Run.{source_values, states}
use Rattle.wdf_law.specs.Step.{Frame, IsStep, sent_in}
use Rattle.wdf_bounds.specs.HeldWords.{IsReached}
use Rattle.wdf_bounds.specs.Plans.{PlanOf}
use Rattle.wdf_bounds.specs.WordBound.{word_limit}
use Rattle.wdf_sched.specs.Carrying.{HasValues, after_ops}
use Rattle.wdf_sched.specs.Meaning.{slot_at}
use Rattle.wdf_sched.specs.Operations.{AreWithin, HoldAll, Slots}
use Rattle.wdf_sched.specs.Schedules.{ScheduleValue}
use Rattle.wdf_loop.specs.Shows.{Follows}

-- the state that the values left: those of the reactances' down slots, in netlist order
abbrev pub state_in : ScheduleValue → Slots → List ℤ
state_in s g = map (λ (i : ℕ). g (slot_at s.down_slots i)) (reactances s.net)

-- Values that hold of the operations, no word of which is too large, and whose state so many frames may have reached.
pub record Stands (s : ScheduleValue) (plan : PlanOf) (done : ℕ) (g : Slots) : Type 0 where
  pub holds : HoldAll (unit_of s.net) g s.ops
  pub within : AreWithin (unit_of s.net) (word_limit plan) g s.ops
  pub reached : IsReached s.net plan done (state_in s g)

-- One frame more, with the sources' values zs: the reference step from the state that was left sends each element the wave in
-- its down slot.
pub record IsNext (s : ScheduleValue) (plan : PlanOf) (done : ℕ) (zs : List ℤ) (before after : Slots) : Type 0 where
  pub frame : Frame
  pub step : IsStep s.net (states s.net (state_in s before)) (source_values s.net zs) frame
  pub sent : (i : ℕ) → i < length (elements s.net) → after (slot_at s.down_slots i) ≡ sent_in s.net frame i
  pub follows : Follows s (word_limit plan) (states s.net (state_in s before)) zs before after
  pub stands : Stands s plan (done + 1) after

-- The values by how many frames are done, where those of each frame come of the operations carried out on what its elements
-- reflect; zs are the sources' values by the frames.
abbrev pub next_slots : (s : ScheduleValue) → HasValues s → List ℤ → Slots → Slots
next_slots s values zs before = after_ops (unit_of s.net) s.ops (values.starts (states s.net (state_in s before)) (source_values s.net zs)).0

abbrev pub slots_from : (s : ScheduleValue) → HasValues s → (ℕ → List ℤ) → Slots → ℕ → Slots
slots_from s values zs before zero = before
slots_from s values zs before (suc f) = next_slots s values (zs f) (slots_from s values zs before f)
