use Rattle.wdf_law.proofs.StepLemmas.{has_one_step}
use Rattle.wdf_law.proofs.laws.one_step.Goals as goal

pub returns : goal.returns
returns c = has_one_step c.args.net.now c.rules.ensures
