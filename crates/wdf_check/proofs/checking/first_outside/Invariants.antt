use Rattle.std.proofs.Common.{ℕ, ◌<◌, get_or}
use Rattle.wdf_check.proofs.checking.first_outside.Given as goal

abbrev pub invariant-loop-i : goal.invariant-loop-i
invariant-loop-i l = (j : ℕ) → j < l.i → get_or l.rows j 0 < l.limit
