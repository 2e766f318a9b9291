use Rattle.std.proofs.Common.{◌<◌, inl, inr, arith}
use mathlib.Core.Logic.{◌⊎◌}
use Rattle.wdf_cert.proofs.TakenTokens.{number_taken, number_out, number_missed}
use Rattle.wdf_cert.proofs.tokens.take_number.Goals as goal
use Rattle.wdf_cert.proofs.tokens.take_number.Goals.{then-n-from-via-then-n-from, then-n-from-via-else-n-from+then-n-from-2}

pub returns-in_default : goal.returns-in_default
returns-in_default c =
    number_missed c.args.text.now c.args.at c.word_end-end.result c.args.low c.args.high c.word_end-end.ensures.order c.word_end-end.ensures.bytes c.word_end-end.ensures.end c.in_default.ensures

pub returns-then-n-from : goal.returns-then-n-from
returns-then-n-from c =
    let n = c.in-Some.n in
    let out : (n < c.args.low) ⊎ (c.args.high < n) = elim c.then-n-from.branch [
      | then-n-from-via-then-n-from w ↦ inl (omega (arith, w.if-n-from.true, c.from.ensures))
      | then-n-from-via-else-n-from+then-n-from-2 w ↦ inr (omega (arith, w.if-n-from-2.true, w.from-else-n-from.ensures))
    ] in
    number_out c.args.text.now c.args.at c.word_end-end.result c.args.low c.args.high n c.word_end-end.ensures.order c.in-Some.ensures.1 c.word_end-end.ensures.end c.in-Some.ensures.0 out

pub returns : goal.returns
returns c =
    number_taken c.args.text.now c.args.at c.word_end-end.result c.args.low c.args.high c.in-Some.n c.word_end-end.ensures.order c.word_end-end.ensures.within c.in-Some.ensures.1
    c.word_end-end.ensures.end c.in-Some.ensures.0 (omega (arith, c.if-n-from.false, c.from.ensures)) (omega (arith, c.if-n-from-2.false, c.from-else-n-from.ensures))
