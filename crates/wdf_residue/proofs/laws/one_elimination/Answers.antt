use Rattle.wdf_residue.proofs.OneElimination.{one_elimination}
use Rattle.wdf_residue.proofs.laws.one_elimination.Goals as goal

pub returns : goal.returns
returns c = one_elimination
