use Rattle.wdf_energy.proofs.FrameLemmas.{follows-frames}
use Rattle.wdf_energy.proofs.laws.frames_followed.Goals as goal

pub returns : goal.returns
returns c =
    follows-frames c.args.net.now c.args.plan.now c.rules.ensures c.ports.ensures c.numbers.ensures c.energy.ensures c.sources_covered.ensures c.whole_walk.ensures c.requires
