-- A schedule as clauses see it, and what the type of every schedule keeps.
use Rattle.std.specs.Prelude.{◌≡◌, ℕ, ◌+◌, ◌<◌, ◌≤◌, List, length}
use Rattle.wdf_law.specs.Network.{Network, unit_of, elements, numbers, times_in}
use Rattle.wdf_sched.specs.declared.op.Op.{Op}
use Rattle.wdf_sched.specs.Operations.{Each, HasShare, InOrder, part_slots, own_slots}
use Rattle.wdf_sched.specs.Junctions.{IsJoined}
use Rattle.wdf_sched.specs.Meaning.{Computes, slot_at}

pub record ScheduleValue : Type 0 where
  pub net : Network
  pub ops : List Op
  -- by the elements' numbers
  pub down_slots : List ℕ
  pub slot_count : ℕ

-- The slots below the count of the elements are their up slots; each further one is written once, and read after its write.
pub record IsSchedule (s : ScheduleValue) : Type 0 where
  pub order : InOrder (length (elements s.net)) s.ops s.slot_count
  pub joined : IsJoined s.ops s.down_slots
  -- each element and each junction is a part of one junction, or of the root
  pub parts : (i : ℕ) → times_in (part_slots s.ops) i ≡ times_in (numbers s.net) i + times_in (own_slots s.ops) i
  pub few : s.slot_count ≤ 1024
  pub multipliers : Each (HasShare (unit_of s.net)) s.ops
  pub each : length s.down_slots ≡ length (elements s.net)
  pub in_range : (i : ℕ) → i < length (elements s.net) → slot_at s.down_slots i < s.slot_count
  pub computes : Computes s.net s.ops s.down_slots
