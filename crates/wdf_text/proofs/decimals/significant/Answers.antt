use Rattle.std.proofs.Common.{length-take-le, take, sym, arith}
use Rattle.wdf_text.proofs.DecimalLemmas.{digits_in, digits_more, digits_same, too_many, zeros_few}
use Rattle.wdf_text.proofs.decimals.significant.Goals as goal
use Rattle.wdf_text.proofs.decimals.significant.Goals.{then-is_ascii_digit+in_ok-read, else-is_ascii_digit}

pub with-requires-clause-zeros : goal.with-requires-clause-zeros
with-requires-clause-zeros c =
    let few = zeros_few (take c.loop-byte.byte-index c.args.text.now) c.loop-byte.read.digits c.loop-byte.read.count c.loop-byte.read.zeros c.loop-byte.invariant in
    omega (arith, few, length-take-le c.loop-byte.byte-index c.args.text.now)

pub loop-byte-preserved : goal.loop-byte-preserved
loop-byte-preserved c =
    let text = c.args.text.now in
    let i = c.loop-byte.byte-index in
    let within = c.loop-byte-test.true in
    elim c.if-is_ascii_digit.branch [
      | then-is_ascii_digit+in_ok-read w ↦ rw (w.read-is, digits_more text i within (sym w.if-is_ascii_digit.ensures.value)) (w.in_ok-read.ensures (digits_in (take i text)) c.loop-byte.invariant)
      | else-is_ascii_digit w ↦ rw (w.read-is, digits_same text i within (sym w.if-is_ascii_digit.ensures.value)) c.loop-byte.invariant
    ]

pub returns-in_err-read : goal.returns-in_err-read
returns-in_err-read c =
    let text = c.args.text.now in
    let i = c.loop-byte.byte-index in
    let read = c.loop-byte.read in
    let many = c.in_err-read.ensures (digits_in (take i text)) c.loop-byte.invariant in
    rw c.from_residual.ensures
    (too_many text i read.digits read.count read.zeros c.loop-byte-test.true (sym c.if-is_ascii_digit.ensures.value) many.0 c.loop-byte.invariant many.1)
