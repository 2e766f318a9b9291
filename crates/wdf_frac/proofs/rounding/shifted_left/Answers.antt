use Rattle.std.proofs.Common.{◌*◌, ◌^◌}
use Rattle.std.proofs.Math.Nat.{mod-lt}
use Rattle.wdf_frac.proofs.Digits.{whole-step, rest-step}
use Rattle.wdf_frac.proofs.rounding.shifted_left.Goals as goal

pub tens-preserved : goal.tens-preserved
tens-preserved c = record {
  whole = rw (c.min-whole-in-tens.ensures, c.tens.invariant.whole, c.tens.invariant.rest) (whole-step c.args.value c.args.den c.tens.counter (2 ^ 64) c.requires.nonzero);
  rest = rw c.tens.invariant.rest (rest-step c.args.value c.args.den c.tens.counter);
  below = mod-lt (10 * c.tens.rest) c.requires.nonzero;
}
