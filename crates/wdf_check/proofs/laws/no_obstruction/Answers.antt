use Rattle.wdf_check.proofs.Obstructions.{no_obstruction}
use Rattle.wdf_check.proofs.laws.no_obstruction.Goals as goal

pub returns : goal.returns
returns c = no_obstruction c.args.net.now c.args.cert.now c.left_inverse.ensures c.requires
