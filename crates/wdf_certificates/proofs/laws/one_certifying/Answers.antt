use Rattle.wdf_certificates.proofs.OneCertifying.{one_certifying}
use Rattle.wdf_certificates.proofs.laws.one_certifying.Goals as goal

pub returns : goal.returns
returns c = one_certifying c.one_making.ensures
