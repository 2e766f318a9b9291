use Rattle.wdf_bounds.proofs.WithinLemmas.{holds-words}
use Rattle.wdf_bounds.proofs.laws.every_word.Goals as goal

pub returns : goal.returns
returns c =
    holds-words c.args.net.now c.args.plan.now c.ports.ensures c.numbers.ensures c.energy.ensures c.every_wave.ensures c.sources_covered.ensures c.whole_walk.ensures c.requires
