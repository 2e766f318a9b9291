use Rattle.wdf_cert.proofs.OneMaking.{one_making}
use Rattle.wdf_cert.proofs.laws.one_making.Goals as goal

pub returns : goal.returns
returns c = one_making c.residues.ensures c.one_elimination.ensures
