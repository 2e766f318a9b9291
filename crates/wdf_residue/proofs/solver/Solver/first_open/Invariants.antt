use Rattle.std.proofs.Common.{◌≡◌, ℕ, ◌<◌}
use Rattle.wdf_residue.specs.Solving.{own_entry}
use Rattle.wdf_residue.proofs.solver.Solver.first_open.Given as goal

abbrev pub invariant-loop-c : goal.invariant-loop-c
invariant-loop-c l = (b : ℕ) → b < l.c → own_entry l.self.unseen b ≡ 0
