use Rattle.wdf_sp.proofs.ReductionLemmas.{fully_reduced_stops}
use Rattle.wdf_sp.proofs.laws.reduction_ends.Goals as goal

pub returns : goal.returns
returns c = fully_reduced_stops
