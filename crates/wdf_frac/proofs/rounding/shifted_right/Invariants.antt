use Rattle.std.proofs.Common.{◌≡◌, ◌/◌, ◌^◌}
use Rattle.wdf_frac.proofs.rounding.shifted_right.Given as goal

abbrev pub invariant-tens : goal.invariant-tens
invariant-tens l = l.whole ≡ l.fn.whole / 10 ^ l.counter
