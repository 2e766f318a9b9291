use Rattle.wdf_law.proofs.StateLemmas.{has_numbers}
use Rattle.wdf_law.proofs.laws.numbers.Goals as goal

pub returns : goal.returns
returns c = has_numbers c.args.net.now c.rules.ensures
