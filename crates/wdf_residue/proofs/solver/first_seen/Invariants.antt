use Rattle.std.proofs.Common.{◌≡◌, ℕ, ◌<◌, ◌%◌}
use Rattle.wdf_residue.specs.Residue.{prime, dot}
use Rattle.wdf_residue.specs.Solving.{column}
use Rattle.wdf_residue.proofs.solver.first_seen.Given as goal

abbrev pub invariant-loop-c : goal.invariant-loop-c
invariant-loop-c l = (b : ℕ) → b < l.c → dot l.row (column l.columns.rows b) % prime ≡ 0
