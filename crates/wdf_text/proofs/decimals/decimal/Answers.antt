use Rattle.wdf_text.specs.declared.decimal_error.DecimalError.TheVariants.{TooLong, BadByte, Empty, TooManyDigits}
use Rattle.wdf_text.proofs.DecimalTests.{tested}
use Rattle.wdf_text.proofs.RefusalLemmas.{accepted, exactly, only, valued}
use Rattle.wdf_text.proofs.decimals.decimal.Goals as goal

pub returns-clause-read : goal.returns-clause-read
returns-clause-read c = accepted c.args.text.now c.read_decimal.result c.read_decimal.ensures.answer

pub returns-clause-value : goal.returns-clause-value
returns-clause-value c = valued c.args.text.now c.read_decimal.result c.read_decimal.ensures.answer

pub returns-clause-too_long : goal.returns-clause-too_long
returns-clause-too_long c = exactly c.args.text.now c.read_decimal.result c.read_decimal.ensures.answer TooLong

pub returns-clause-bad_byte : goal.returns-clause-bad_byte
returns-clause-bad_byte c = λ at. exactly c.args.text.now c.read_decimal.result c.read_decimal.ensures.answer (BadByte at)

pub returns-clause-empty : goal.returns-clause-empty
returns-clause-empty c = exactly c.args.text.now c.read_decimal.result c.read_decimal.ensures.answer Empty

pub returns-clause-too_many_digits : goal.returns-clause-too_many_digits
returns-clause-too_many_digits c = exactly c.args.text.now c.read_decimal.result c.read_decimal.ensures.answer TooManyDigits

pub returns-clause-one_form : goal.returns-clause-one_form
returns-clause-one_form c = only c.args.text.now c.read_decimal.result c.read_decimal.ensures.answer c.read_decimal.ensures.normal

pub returns-clause-test : goal.returns-clause-test
returns-clause-test c = tested c.args.text.now c.read_decimal.result c.read_decimal.ensures.answer
