use Rattle.std.proofs.Common.{◌≡◌, ℕ, ◌<◌}
use Rattle.wdf_residue.specs.Matrix.{product_entry, identity_entry}
use Rattle.wdf_residue.proofs.products.first_wrong.Given as goal

abbrev pub invariant-loop-row : goal.invariant-loop-row
invariant-loop-row l = (i j : ℕ) → i < l.row → j < l.matrix.columns → product_entry l.matrix.rows l.numbers l.inverse i j ≡ identity_entry i j
