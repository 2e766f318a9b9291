use Rattle.std.proofs.Common.{◌≡◌, map}
use Rattle.std.specs.List.{range_with_len}
use Rattle.wdf_residue.specs.Matrix.{identity_entry}
use Rattle.wdf_residue.proofs.solver.identity_column.Given as goal

abbrev pub invariant-loop-i : goal.invariant-loop-i
invariant-loop-i l = l.column.items ≡ map (identity_entry l.c) (range_with_len 0 l.i)
