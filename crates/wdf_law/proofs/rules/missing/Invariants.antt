use Rattle.std.proofs.Common.{◌≡◌, ℕ, ◌<◌, slice_index_or, true, false}
use Rattle.wdf_law.proofs.rules.missing.Given as goal

-- every number so far is marked
abbrev pub invariant-loop-i : goal.invariant-loop-i
invariant-loop-i l = (j : ℕ) → j < l.i → slice_index_or l.marks j false ≡ true
