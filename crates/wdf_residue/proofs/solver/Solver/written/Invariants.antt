use Rattle.std.proofs.Common.{◌≡◌}
use Rattle.wdf_residue.specs.Solving.{written}
use Rattle.wdf_residue.proofs.solver.Solver.written.Given as goal

abbrev pub invariant-loop-i : goal.invariant-loop-i
invariant-loop-i l = l.entries.items ≡ written l.self.solved l.i
