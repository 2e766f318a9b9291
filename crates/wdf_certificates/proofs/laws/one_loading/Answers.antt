use Rattle.wdf_certificates.proofs.OneLoading.{one_loading}
use Rattle.wdf_certificates.proofs.laws.one_loading.Goals as goal

pub returns : goal.returns
returns c = one_loading c.one_file.ensures c.round_trip.ensures.one c.round_trip.ensures.accepted c.one_fault.ensures
