use Rattle.wdf_certificates.proofs.OneChecking.{one_checking}
use Rattle.wdf_certificates.proofs.laws.one_checking.Goals as goal

pub returns : goal.returns
returns c = one_checking c.one_check.ensures
