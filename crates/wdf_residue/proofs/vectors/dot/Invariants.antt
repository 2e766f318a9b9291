use Rattle.std.proofs.Common.{◌≡◌, ◌<◌, ◌%◌, take}
use Rattle.wdf_residue.specs.Residue.{prime, dot}
use Rattle.wdf_residue.proofs.vectors.dot.Given as goal

abbrev pub invariant-loop-at : goal.invariant-loop-at
invariant-loop-at l = record {
  below : l.sum < prime;
  value : l.sum ≡ dot (take l.at l.xs) (take l.at l.ys) % prime;
}
