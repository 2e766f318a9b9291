use Rattle.wdf_energy.proofs.RunLemmas.{tells-runs}
use Rattle.wdf_energy.proofs.laws.runs_told.Goals as goal

pub returns : goal.returns
returns c = tells-runs c.args.net.now c.ports.ensures c.numbers.ensures c.energy.ensures c.sources_covered.ensures
