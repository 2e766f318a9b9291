use Rattle.wdf_residue.specs.Solving.{IsReduction}
use Rattle.wdf_residue.proofs.Reduced.{IsReduced}
use Rattle.wdf_residue.proofs.elimination.eliminate.Given as goal

abbrev pub invariant-loop-i : goal.invariant-loop-i
invariant-loop-i l = record {
  reduced : IsReduced l.matrix l.i l.solver;
  rules : IsReduction l.solver;
}
