use Rattle.std.proofs.Common.{◌≡◌, take}
use Rattle.wdf_residue.specs.Matrix.{column_entries}
use Rattle.wdf_residue.proofs.matrix.Matrix.column.Given as goal

abbrev pub invariant-loop-row : goal.invariant-loop-row
invariant-loop-row l = l.entries.items ≡ column_entries (take l.row l.self.rows) l.col
