use Rattle.wdf_reporting.proofs.WorkedLemmas.{worked}
use Rattle.wdf_reporting.proofs.laws.worked_notes.Goals as goal

pub returns : goal.returns
returns c = worked
