-- None so far is over amp, if the answer is still yes.
use Rattle.std.proofs.Common.{◌≡◌, ◌≤◌, take}
use Rattle.std.specs.Prelude.{true, unsigned_abs, All}
use Rattle.wdf_frames.proofs.samples.are_small.Given as goal

abbrev pub invariant-loop-at : goal.invariant-loop-at
invariant-loop-at l = l.all ≡ true → All (λ z. unsigned_abs z ≤ l.fn.amp) (take l.at l.samples)
