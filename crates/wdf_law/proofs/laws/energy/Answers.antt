use Rattle.wdf_law.proofs.EnergyLemmas.{keeps_energy}
use Rattle.wdf_law.proofs.laws.energy.Goals as goal

pub returns : goal.returns
returns c = keeps_energy c.args.net.now c.rules.ensures
