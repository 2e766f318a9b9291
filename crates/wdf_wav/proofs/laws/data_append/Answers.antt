use Rattle.wdf_wav.proofs.PcmStreamLemmas.{length-data_of, length-samples_of, samples_of-append}
use Rattle.wdf_wav.proofs.laws.data_append.Goals as goal

pub returns-clause-read : goal.returns-clause-read
returns-clause-read c = λ body more whole. samples_of-append c.args.bits body more c.requires whole

pub returns-clause-samples : goal.returns-clause-samples
returns-clause-samples c = length-samples_of c.args.bits

pub returns-clause-bytes : goal.returns-clause-bytes
returns-clause-bytes c = length-data_of c.args.bits
