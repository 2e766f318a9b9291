use Rattle.std.proofs.Common.{◌≡◌, ◌+◌, ◌≤◌, ◌-◌, ℕ, drop, length}
use Rattle.wdf_text.specs.Placing.{words_after}
use Rattle.wdf_text.proofs.cursor.word_len.Given as goal

abbrev pub invariant-loop-len : goal.invariant-loop-len
invariant-loop-len l = record {
  some : 1 ≤ l.len;
  within : l.at + l.len ≤ length l.text;
  same : (line column : ℕ) → words_after (drop l.at l.text) line l.at column 0 ≡ words_after (drop (l.at + l.len) l.text) line l.at column l.len;
}

abbrev pub decreases-loop-len : goal.decreases-loop-len
decreases-loop-len l = length l.text - (l.at + l.len)
