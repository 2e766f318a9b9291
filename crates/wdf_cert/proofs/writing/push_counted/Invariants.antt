use Rattle.wdf_cert.proofs.WritingLemmas.{CountedSoFar}
use Rattle.wdf_cert.proofs.writing.push_counted.Given as goal

abbrev pub invariant-loop-number : goal.invariant-loop-number
invariant-loop-number l = CountedSoFar l.fn.out.items l.out.items l.word l.numbers l.number-index
