use Rattle.std.proofs.Common.{◌≤◌, sym, arith}
use Rattle.wdf_text.specs.Decimals.{HasNoStray, significant_digits}
use Rattle.wdf_text.proofs.DecimalLemmas.{digits_in, value_read, zeros_few}
use Rattle.wdf_text.proofs.DecimalTests.{number_read, small_read}
use Rattle.wdf_text.proofs.SignificanceLemmas.{significant_all}
use Rattle.wdf_text.proofs.decimals.read_decimal.Goals as goal

pub quantity-requires-clause-zeros : goal.quantity-requires-clause-zeros
quantity-requires-clause-zeros c =
    let read = c.in-Some-significant.read in
    let few = zeros_few c.args.text.now read.digits read.count read.zeros c.in-Some-significant.ensures in
    omega (arith, few)

pub returns-in-Some-significant-clause-answer : goal.returns-in-Some-significant-clause-answer
returns-in-Some-significant-clause-answer c =
    let text = c.args.text.now in
    let read = c.in-Some-significant.read in
    let s = c.in-Some-significant.ensures in
    let few : significant_digits text ≤ 9 = omega (arith, significant_all (digits_in text) read.digits read.count read.zeros s, s.few) in
    let none : HasNoStray text = c.in_default.ensures in (
      (omega arith, none, sym c.if-not-has_digit.ensures, few),
      value_read text read.digits read.count read.zeros c.quantity.result s c.quantity.ensures.digits (rw c.places.ensures at c.quantity.ensures.exp) c.quantity.ensures.zero,
    )

pub returns-in-Some-significant-clause-number : goal.returns-in-Some-significant-clause-number
returns-in-Some-significant-clause-number c =
    let read = c.in-Some-significant.read in
    number_read c.args.text.now read.digits read.count read.zeros c.quantity.result c.in-Some-significant.ensures c.quantity.ensures.digits (rw c.places.ensures at c.quantity.ensures.exp) c.quantity.ensures.zero

pub returns-in-Some-significant-clause-small : goal.returns-in-Some-significant-clause-small
returns-in-Some-significant-clause-small c =
    let read = c.in-Some-significant.read in
    rw c.quantity.ensures.digits (small_read (digits_in c.args.text.now) read.digits read.count read.zeros c.in-Some-significant.ensures)
