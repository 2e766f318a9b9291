use Rattle.wdf_wav.proofs.PcmStreamLemmas.{sample_at_is}
use Rattle.wdf_wav.proofs.laws.sample_place.Goals as goal

pub returns : goal.returns
returns c = λ body frame channel whole inside. sample_at_is c.args.head.now body frame channel c.requires whole inside
