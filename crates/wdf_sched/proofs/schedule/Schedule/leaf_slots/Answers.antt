-- An element's number is below the count of the slots.
use Rattle.std.proofs.Common.{ℕ, ◌<◌, length, sym, subst, arith}
use Rattle.wdf_law.specs.Network.{elements}
use Rattle.wdf_sched.specs.Schedules.{ScheduleValue, IsSchedule}
use Rattle.wdf_sched.proofs.ListLemmas.{grows}
use Rattle.wdf_sched.proofs.schedule.Schedule.leaf_slots.Goals as goal

up_below : (s : ScheduleValue) (i : ℕ) → IsSchedule s → i < length (elements s.net) → i < s.slot_count
up_below s i rules h =
    let more = grows s.ops (length (elements s.net)) s.slot_count rules.order in
    omega arith

pub overflow_cast-result : goal.overflow_cast-result
overflow_cast-result c =
    let few = c.rules.ensures.few in
    let below = up_below c.args.self.now c.args.elem c.rules.ensures c.requires in
    omega arith

pub returns-clause-in_range : goal.returns-clause-in_range
returns-clause-in_range c = (
  up_below c.args.self.now c.args.elem c.rules.ensures c.requires,
  subst (λ (j : ℕ). j < c.args.self.now.slot_count) (sym c.down_slot-down.ensures) (c.rules.ensures.in_range c.args.elem c.requires),
)
