use Rattle.std.proofs.Common.{◌≡◌, ℕ, ◌<◌}
use Rattle.wdf_loop.specs.Layouts.{mark_at}
use Rattle.wdf_loop.proofs.chains.hook_of.Given as goal

abbrev pub invariant-loop-stage : goal.invariant-loop-stage
invariant-loop-stage l = (j : ℕ) → j < l.stage → (mark_at l.marks j).up ≡ l.out → ⊥
