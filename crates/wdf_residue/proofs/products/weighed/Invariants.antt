use Rattle.std.proofs.Common.{◌≡◌, ◌<◌, ◌%◌, take}
use Rattle.wdf_residue.specs.Residue.{prime, dot}
use Rattle.wdf_residue.specs.Matrix.{column_of}
use Rattle.wdf_residue.proofs.products.weighed.Given as goal

abbrev pub invariant-loop-at : goal.invariant-loop-at
invariant-loop-at l = record {
  below : l.sum < prime;
  value : l.sum ≡ dot (take l.at l.weights) (take l.at (column_of l.matrix.rows l.numbers l.col)) % prime;
}
