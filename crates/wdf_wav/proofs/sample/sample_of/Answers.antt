-- The bytes are the coding of what is read in them.
use Rattle.std.proofs.Common.{rules}
use Rattle.wdf_wav.specs.SampleCoding.{sample_value}
use Rattle.wdf_wav.proofs.SampleLemmas.{coded_reading}
use Rattle.wdf_wav.proofs.sample.sample_of.Goals as goal

pub returns-in-8-clause-coding : goal.returns-in-8-clause-coding
unfolding sample_value
returns-in-8-clause-coding c = coded_reading c.args.bits c.args.bytes.now _ c.requires.width c.requires.whole c.type_inv.bytes (search rules)

pub returns-in-16-clause-coding : goal.returns-in-16-clause-coding
unfolding sample_value
returns-in-16-clause-coding c = coded_reading c.args.bits c.args.bytes.now _ c.requires.width c.requires.whole c.type_inv.bytes (search rules)

pub returns-in-24-clause-coding : goal.returns-in-24-clause-coding
unfolding sample_value
returns-in-24-clause-coding c = coded_reading c.args.bits c.args.bytes.now _ c.requires.width c.requires.whole c.type_inv.bytes (search rules)

pub returns-in_default-clause-coding : goal.returns-in_default-clause-coding
unfolding sample_value
returns-in_default-clause-coding c = coded_reading c.args.bits c.args.bytes.now _ c.requires.width c.requires.whole c.type_inv.bytes (search rules)
