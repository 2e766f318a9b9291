use Rattle.wdf_law.proofs.StepLemmas.{has_one_output}
use Rattle.wdf_law.proofs.laws.one_output.Goals as goal

pub returns : goal.returns
returns c = has_one_output c.args.net.now c.rules.ensures
