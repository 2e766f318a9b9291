use Rattle.std.proofs.Common.{◌≡◌, map}
use Rattle.std.specs.List.{range_with_len}
use Rattle.wdf_residue.specs.Solving.{identity_column}
use Rattle.wdf_residue.proofs.solver.identity.Given as goal

abbrev pub invariant-loop-c : goal.invariant-loop-c
invariant-loop-c l = record {
  width : l.columns.columns ≡ l.n;
  whole : l.columns.rows ≡ map (identity_column l.n) (range_with_len 0 l.c);
}
