use Rattle.std.proofs.Common.{refl}
use Rattle.wdf_quant.proofs.laws.worked_walks.Goals as goal

pub returns : goal.returns
returns c = record { one = refl; two = refl; inner = refl }
