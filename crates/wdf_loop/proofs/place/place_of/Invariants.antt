use Rattle.std.proofs.Common.{ℕ, ◌<◌}
use Rattle.wdf_loop.specs.Layouts.{mark_at, share_at, ShowsSlot}
use Rattle.wdf_loop.proofs.place.place_of.Given as goal

abbrev pub invariant-loop-stage : goal.invariant-loop-stage
invariant-loop-stage l = (j : ℕ) → j < l.stage → ShowsSlot (share_at l.shares j) (mark_at l.marks j) l.slot → ⊥
