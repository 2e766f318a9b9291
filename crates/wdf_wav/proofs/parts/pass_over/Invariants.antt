-- What was passed over so far was taken.
use Rattle.std.proofs.Common.{◌-◌, ◌≤◌}
use Rattle.wdf_wav.specs.HeadReading.{TakesBytes}
use Rattle.wdf_wav.proofs.parts.pass_over.Given as goal

abbrev pub invariant-loop-done : goal.invariant-loop-done
invariant-loop-done g l = record {
  within : l.done ≤ l.count;
  taken : TakesBytes l.done (g.S.Source.left l.initial.src) (g.S.Source.left l.src);
  later : g.S.Source.faults l.initial.src ≤ g.S.Source.faults l.src;
}

abbrev pub decreases-loop-done : goal.decreases-loop-done
decreases-loop-done g l = l.count - l.done
