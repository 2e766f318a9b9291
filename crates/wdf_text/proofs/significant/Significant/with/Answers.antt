use Rattle.std.proofs.Common.{arith}
use Rattle.wdf_text.proofs.SignificanceLemmas.{significant_behind, significant_digit, significant_leading}
use Rattle.wdf_text.proofs.significant.Significant.with.Goals as goal

pub returns-then-self-eq0 : goal.returns-then-self-eq0
returns-then-self-eq0 c = λ ds s.
    let read = c.args.self in
    rw c.if-digit-eq0.true (significant_leading ds read.digits read.count read.zeros s c.if-self-eq0.true)

pub returns-else-self-eq0 : goal.returns-else-self-eq0
returns-else-self-eq0 c = λ ds s.
    let read = c.args.self in
    rw c.if-digit-eq0.true (significant_behind ds read.digits read.count read.zeros s (grind arith))

pub returns : goal.returns
returns c = λ ds s.
    let read = c.args.self in
    rw (c.pow.ensures, c.from.ensures) (significant_digit ds read.digits read.count read.zeros c.args.digit s (grind arith) c.requires.digit (omega arith))
