use Rattle.wdf_quant.proofs.CoverLemmas.{covers-sources}
use Rattle.wdf_quant.proofs.laws.sources_covered.Goals as goal

pub returns : goal.returns
returns c = covers-sources c.args.net.now c.multipliers.ensures c.numbers.ensures
