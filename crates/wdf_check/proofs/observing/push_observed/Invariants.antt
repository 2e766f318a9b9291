use Rattle.std.proofs.Common.{◌≡◌, ◌++◌, map}
use Rattle.std.specs.Prelude.{filter}
use Rattle.std.specs.List.{range_with_len}
use Rattle.wdf_law.specs.Network.{elements, has_absorbing}
use Rattle.wdf_residue.specs.Matrix.{column_entries}
use Rattle.wdf_check.proofs.observing.push_observed.Given as goal

abbrev pub invariant-loop-i : goal.invariant-loop-i
invariant-loop-i l = record {
  width : l.matrix.columns ≡ l.initial.matrix.columns;
  whole : l.matrix.rows ≡ l.initial.matrix.rows ++ map (column_entries l.states.rows) (filter (has_absorbing (elements l.net)) (range_with_len 0 l.i));
}
