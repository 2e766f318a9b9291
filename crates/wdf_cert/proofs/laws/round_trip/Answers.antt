use Rattle.wdf_cert.proofs.OneFile.{one-file, accepted}
use Rattle.wdf_cert.proofs.laws.round_trip.Goals as goal

pub returns : goal.returns
returns c = record { one = one-file; accepted = accepted }
