use Rattle.wdf_residue.proofs.Inverses.{has_inverse}
use Rattle.wdf_residue.proofs.laws.inverse.Goals as goal

pub returns : goal.returns
returns c = has_inverse c.args.a c.requires.some c.requires.residue
