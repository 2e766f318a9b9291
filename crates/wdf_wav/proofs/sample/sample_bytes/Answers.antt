-- The bytes are read as the value.
use Rattle.std.proofs.Common.{rules}
use Rattle.wdf_wav.specs.SampleCoding.{sample_coding}
use Rattle.wdf_wav.proofs.SampleLemmas.{read_coding}
use Rattle.wdf_wav.proofs.sample.sample_bytes.Goals as goal

pub returns-in-8-clause-value : goal.returns-in-8-clause-value
unfolding sample_coding
returns-in-8-clause-value c = read_coding c.args.bits _ c.args.value c.requires.width c.requires.range (search rules)

pub returns-in-16-clause-value : goal.returns-in-16-clause-value
unfolding sample_coding
returns-in-16-clause-value c = read_coding c.args.bits _ c.args.value c.requires.width c.requires.range (search rules)

pub returns-in-24-clause-value : goal.returns-in-24-clause-value
unfolding sample_coding
returns-in-24-clause-value c = read_coding c.args.bits _ c.args.value c.requires.width c.requires.range (search rules)

pub returns-in_default-clause-value : goal.returns-in_default-clause-value
unfolding sample_coding
returns-in_default-clause-value c = read_coding c.args.bits _ c.args.value c.requires.width c.requires.range (search rules)
