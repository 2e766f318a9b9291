use Rattle.wdf_law.proofs.WaveLemmas.{bounds_every_wave}
use Rattle.wdf_law.proofs.laws.every_wave.Goals as goal

pub returns : goal.returns
returns c = bounds_every_wave c.args.net.now c.rules.ensures
