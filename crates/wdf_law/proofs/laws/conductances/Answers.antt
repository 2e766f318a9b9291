use Rattle.wdf_law.proofs.ConductanceLemmas.{has_conductances}
use Rattle.wdf_law.proofs.laws.conductances.Goals as goal

pub returns : goal.returns
returns c = has_conductances c.args.net.now c.rules.ensures
