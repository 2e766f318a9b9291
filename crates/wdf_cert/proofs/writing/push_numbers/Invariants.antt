use Rattle.wdf_cert.proofs.WritingLemmas.{LineSoFar}
use Rattle.wdf_cert.proofs.writing.push_numbers.Given as goal

abbrev pub invariant-loop-i : goal.invariant-loop-i
invariant-loop-i l = LineSoFar l.fn.out.items l.out.items l.numbers l.i
