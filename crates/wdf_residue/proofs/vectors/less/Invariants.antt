use Rattle.std.proofs.Common.{◌≡◌, take}
use Rattle.wdf_residue.specs.Vectors.{less}
use Rattle.wdf_residue.proofs.vectors.less.Given as goal

abbrev pub invariant-loop-at : goal.invariant-loop-at
invariant-loop-at l = l.rest.items ≡ less l.by (take l.at l.xs) (take l.at l.ys)
