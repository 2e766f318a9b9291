use Rattle.std.proofs.Common.{◌≡◌, ℕ, ◌<◌}
use mathlib.Core.Logic.{◌⊎◌}
use Rattle.wdf_loop.specs.Layouts.{mark_at}
use Rattle.wdf_loop.proofs.parts.part_sent.Given as goal

abbrev pub invariant-loop-i : goal.invariant-loop-i
invariant-loop-i l = (j : ℕ) → j < l.i → ((mark_at l.marks j).down ≡ l.slot) ⊎ ((mark_at l.marks j).onward ≡ l.slot) → ⊥
