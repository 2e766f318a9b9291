use Rattle.std.proofs.Common.{◌≡◌, ◌-◌, ◌*◌, length}
use Rattle.wdf_cert.proofs.WritingLemmas.{LinesSoFar}
use Rattle.wdf_cert.proofs.writing.push_square.Given as goal

abbrev pub invariant-loop-i : goal.invariant-loop-i
invariant-loop-i l = record {
  count : length l.left ≡ (l.n - l.i) * l.n;
  written : LinesSoFar l.fn.out.items l.out.items l.left l.entries l.n l.i;
}
