use Rattle.wdf_residue.proofs.LeftInverses.{sees_each}
use Rattle.wdf_residue.proofs.laws.left_inverse.Goals as goal

pub returns : goal.returns
returns c = sees_each
