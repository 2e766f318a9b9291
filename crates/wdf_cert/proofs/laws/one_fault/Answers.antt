use Rattle.wdf_cert.proofs.OneFile.{one_fault}
use Rattle.wdf_cert.proofs.laws.one_fault.Goals as goal

pub returns : goal.returns
returns c = one_fault
