use Rattle.std.proofs.Common.{length, ◌-◌, ◌≡◌, drop}
use Rattle.wdf_text.specs.Placing.{IsPlaced, words_after}
use Rattle.wdf_text.proofs.cursor.next_place.Given as goal

abbrev pub invariant-loop-place : goal.invariant-loop-place
invariant-loop-place l = record {
  placed : IsPlaced l.text l.place;
  same : words_after (drop l.place.at l.text) l.place.line l.place.at l.place.column 0
      ≡ words_after (drop l.fn.from.at l.text) l.fn.from.line l.fn.from.at l.fn.from.column 0;
}

abbrev pub decreases-loop-place : goal.decreases-loop-place
decreases-loop-place l = length l.text - l.place.at
