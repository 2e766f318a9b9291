use Rattle.wdf_soak.proofs.OneSoak.{one_soak}
use Rattle.wdf_soak.proofs.laws.one_soak.Goals as goal

pub returns : goal.returns
returns c = one_soak c.one_design.ensures c.one_bound.ensures c.one_making.ensures
