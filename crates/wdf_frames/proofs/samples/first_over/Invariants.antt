-- None so far is over amp.
use Rattle.std.proofs.Common.{◌≤◌, take}
use Rattle.std.specs.Prelude.{unsigned_abs, All}
use Rattle.wdf_frames.proofs.samples.first_over.Given as goal

abbrev pub invariant-loop-at : goal.invariant-loop-at
invariant-loop-at l = All (λ z. unsigned_abs z ≤ l.fn.amp) (take l.at l.samples)
