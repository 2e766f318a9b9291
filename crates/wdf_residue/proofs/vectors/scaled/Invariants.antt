use Rattle.std.proofs.Common.{◌≡◌, take}
use Rattle.wdf_residue.specs.Vectors.{scaled_by}
use Rattle.wdf_residue.proofs.vectors.scaled.Given as goal

abbrev pub invariant-loop-x : goal.invariant-loop-x
invariant-loop-x l = l.products.items ≡ scaled_by l.by (take l.x-index l.xs)
