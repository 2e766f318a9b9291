use Rattle.std.proofs.Common.{◌≡◌, ℕ, ◌<◌}
use Rattle.wdf_residue.specs.Matrix.{product_entry, identity_entry}
use Rattle.wdf_residue.proofs.products.wrong_in.Given as goal

abbrev pub invariant-loop-col : goal.invariant-loop-col
invariant-loop-col l = (j : ℕ) → j < l.col → product_entry l.matrix.rows l.numbers l.inverse l.row j ≡ identity_entry l.row j
