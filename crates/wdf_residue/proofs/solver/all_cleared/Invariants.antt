use Rattle.std.proofs.Common.{◌≡◌, map, take}
use Rattle.wdf_residue.specs.Solving.{cleared}
use Rattle.wdf_residue.proofs.solver.all_cleared.Given as goal

abbrev pub invariant-loop-c : goal.invariant-loop-c
invariant-loop-c l = record {
  width : l.all.columns ≡ l.columns.columns;
  whole : l.all.rows ≡ map (cleared l.row l.g) (take l.c l.columns.rows);
}
