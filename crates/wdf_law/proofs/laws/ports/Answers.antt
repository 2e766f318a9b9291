use Rattle.wdf_law.proofs.PortLemmas.{has_ports}
use Rattle.wdf_law.proofs.laws.ports.Goals as goal

pub returns : goal.returns
returns c = has_ports c.args.net.now c.rules.ensures
