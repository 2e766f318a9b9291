use Rattle.wdf_law.proofs.ConductanceLemmas.{sound_trees}
use Rattle.wdf_law.proofs.laws.multipliers.Goals as goal

pub returns : goal.returns
returns c = sound_trees c.args.net.now c.rules.ensures
