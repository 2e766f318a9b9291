use Rattle.wdf_wav.proofs.RoundTripLemmas.{headed, is_stream, no_front}
use Rattle.wdf_wav.proofs.laws.round_trip.Goals as goal

pub returns : goal.returns
returns c = record { head = headed c.args.head.now c.requires; front = no_front c.args.head.now c.requires; stream = is_stream c.args.head.now c.requires }
