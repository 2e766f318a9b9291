use Rattle.std.proofs.Common.{ℕ, ◌/◌, ap, ◌∙◌}
use Rattle.wdf_frac.proofs.Digits.{right-step}
use Rattle.wdf_frac.proofs.rounding.shifted_right.Goals as goal

pub tens-preserved : goal.tens-preserved
tens-preserved c = ap (λ (x : ℕ). x / 10) c.tens.invariant ∙ right-step c.args.whole c.tens.counter
