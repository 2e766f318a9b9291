use Rattle.std.proofs.Common.{◌≡◌, ◌<◌, ℕ, false}
use Rattle.wdf_words.specs.Orders.{gives, texts, word_at}
use Rattle.wdf_words.proofs.given.place_given.Given as goal

abbrev pub invariant-loop-at : goal.invariant-loop-at
invariant-loop-at l = (j : ℕ) → j < l.at → gives l.name (word_at (texts l.words) j) ≡ false
