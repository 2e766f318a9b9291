use Rattle.wdf_quant.proofs.WholeLemmas.{whole-walk}
use Rattle.wdf_quant.proofs.laws.whole_walk.Goals as goal

pub returns : goal.returns
returns c = whole-walk c.args.net.now c.rules.ensures.some_source
