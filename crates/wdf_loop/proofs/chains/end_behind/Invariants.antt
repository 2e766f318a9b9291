use Rattle.std.proofs.Common.{ℕ, ◌<◌, ◌≤◌}
use Rattle.wdf_loop.specs.Layouts.{mark_at}
use Rattle.wdf_loop.proofs.chains.end_behind.Given as goal

abbrev pub invariant-loop-stage : goal.invariant-loop-stage
invariant-loop-stage l = (j : ℕ) → l.first < j → j < l.stage → l.count ≤ (mark_at l.marks j).below
