-- How large the values are that a schedule's operations form.
use Rattle.std.specs.Prelude.{ℕ, ◌*◌}
use Rattle.wdf_law.specs.Network.{unit_of}
use Rattle.wdf_sched.specs.Operations.{Slots, Each, AreWithin, FormsWithin}
use Rattle.wdf_sched.specs.Schedules.{ScheduleValue}

-- Where no slot of an operation exceeds the limit, no value before truncation exceeds four times q times the limit: with q·limit at
-- most 2^60 it is below 2^63.
pub record HasSmallSums (s : ScheduleValue) : Type 0 where
  pub forms : (limit : ℕ) (v : Slots) → AreWithin (unit_of s.net) limit v s.ops → Each (FormsWithin (unit_of s.net) (4 * (unit_of s.net * limit)) v) s.ops
