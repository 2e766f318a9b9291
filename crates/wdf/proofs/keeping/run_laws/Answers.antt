use Rattle.wdf_frames.specs.Setting.{setting}
use Rattle.wdf.proofs.KeptLemmas.{keeps_runs}
use Rattle.wdf.proofs.keeping.run_laws.Goals as goal

pub returns : goal.returns
returns c =
    keeps_runs (setting c.args.networks.now c.args.plan.now c.args.head.now) c.network_laws.ensures.energy c.network_laws.ensures.words c.network_laws.ensures.conductances c.network_laws.ensures.certified c.data_append.ensures.samples
    c.requires.head.format c.network_laws.ensures.sources c.requires.sources c.requires.frames
