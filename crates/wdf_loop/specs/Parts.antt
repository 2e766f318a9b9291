-- The parts of stages that are elements: which wave of its stage a part is sent, and whose it is.
use Rattle.std.specs.Prelude.{◌≡◌, ℕ, ◌+◌, ◌*◌, ◌<◌, ◌≤◌, false, ℤ, if◌then◌else◌, List, [], length, slice_index_or}
use Rattle.wdf_law.specs.Elements.{signed}
use Rattle.wdf_law.specs.Network.{Network, absorbing_numbers, elements}
use Rattle.wdf_law.specs.OutputRule.{is_flipped, outlet_element}
use Rattle.wdf_sched.specs.Meaning.{slot_at}
use Rattle.wdf_sched.specs.Schedules.{ScheduleValue}
use Rattle.wdf_loop.specs.declared.cell.Cell.{Cell}
use Rattle.wdf_loop.specs.declared.mark.Mark.{Mark}
use Rattle.wdf_loop.specs.declared.outlet.Outlet.{Outlet}
use Rattle.wdf_loop.specs.declared.part.Part.{Part}
use Rattle.wdf_loop.specs.Layouts.{mark_at}
use Rattle.wdf_loop.specs.RunCells.{wave_in}
use Rattle.wdf_loop.specs.Runs.{cell_at}

abbrev pub part_at : List Part → ℕ → Part
part_at parts i = slice_index_or parts i (record { stage = 0; beside = false })

-- what a part is sent: the slot of the wave, and the wave in a cell of its stage
abbrev pub sent_slot : Part → Mark → ℕ
sent_slot p k = if p.beside then k.down else k.onward

abbrev pub sent_to : Part → Cell → ℤ
sent_to p c = if p.beside then c.down else c.onward

-- in the run c, by the number of the part
abbrev pub sent_last : List Part → List (List Cell) → (c number : ℕ) → ℤ
sent_last parts cells c i = sent_to (part_at parts i) (cell_at cells (part_at parts i).stage c)

-- the parts are of so many stages
abbrev pub AreWithin : ℕ → List Part → Type 0
AreWithin stages parts = (i : ℕ) → i < length parts → (part_at parts i).stage < stages

-- the part is sent what the element with the number is
pub record IsPart (s : ScheduleValue) (root : ℕ) (marks : List Mark) (p : Part) (number : ℕ) : Type 0 where
  pub inside : p.stage ≤ root
  pub slot : sent_slot p (mark_at marks p.stage) ≡ slot_at s.down_slots number

-- so many parts, and the numbers of their elements
pub record AreParts (s : ScheduleValue) (root : ℕ) (marks : List Mark) (count : ℕ) (number : ℕ → ℕ) (parts : List Part) : Type 0 where
  pub count_is : length parts ≡ count
  pub each : (i : ℕ) → i < count → IsPart s root marks (part_at parts i) (number i)

-- the number of an element that absorbs
abbrev pub absorbing_at : Network → ℕ → ℕ
absorbing_at n i = slice_index_or (absorbing_numbers n) i 0

-- the parts of all elements by their numbers, and of those that absorb, in netlist order
pub record HasParts (s : ScheduleValue) (root : ℕ) (marks : List Mark) (every absorbing : List Part) : Type 0 where
  pub all : AreParts s root marks (length (elements s.net)) (λ i. i) every
  pub absorb : AreParts s root marks (length (absorbing_numbers s.net)) (absorbing_at s.net) absorbing

-- the outlet's place among the elements that absorb
pub record IsOutlet (n : Network) (o : Outlet) : Type 0 where
  pub inside : o.place < length (absorbing_numbers n)
  pub element : absorbing_at n o.place ≡ outlet_element n
  pub flip : o.flip ≡ is_flipped (elements n) (outlet_element n)

-- ---- rows of waves, `width` in each frame

-- the wave in the row of a place in the run c, and the load wave
abbrev pub watched_in : (width : ℕ) → List (List ℤ) → (place frame c : ℕ) → ℤ
watched_in width waves place frame c = wave_in (slice_index_or waves (frame * width + place) []) c

abbrev pub load_in : (width : ℕ) → Outlet → List (List ℤ) → (frame c : ℕ) → ℤ
load_in width o waves frame c = signed o.flip (watched_in width waves o.place frame c)
