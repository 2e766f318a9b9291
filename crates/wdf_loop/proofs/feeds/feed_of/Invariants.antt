use Rattle.std.proofs.Common.{◌≡◌, ℕ, ◌<◌}
use Rattle.wdf_loop.specs.Layouts.{mark_at}
use Rattle.wdf_loop.proofs.feeds.feed_of.Given as goal

abbrev pub invariant-loop-i : goal.invariant-loop-i
invariant-loop-i l = record {
  up : (j : ℕ) → j < l.i → (mark_at l.marks j).up ≡ l.number → ⊥;
  below : (j : ℕ) → j < l.i → (mark_at l.marks j).below ≡ l.number → ⊥;
}
