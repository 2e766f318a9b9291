use Rattle.std.proofs.Common.{◌∙◌, sym, arith}
use Rattle.wdf_text.proofs.PlacingLemmas.{over_between, over_line}
use Rattle.wdf_text.proofs.cursor.next_place.Goals as goal
use Rattle.wdf_text.proofs.cursor.next_place.Goals.{then-text-place-eq10, else-text-place-eq10}

pub loop-place-preserved : goal.loop-place-preserved
loop-place-preserved c =
    let text = c.args.text.now in
    let place = c.loop-place.place in
    elim c.if-text-place-eq10.branch [
      | then-text-place-eq10 w ↦ rw w.place-is (record {
        placed = record { within = omega arith; line = omega arith; column = omega arith };
        same = over_line text place.line place.at place.column c.loop-place-test.true w.if-text-place-eq10.true ∙ c.loop-place.invariant.same;
      })
      | else-text-place-eq10 w ↦ rw w.place-is (record {
        placed = record { within = omega arith; line = omega arith; column = omega arith };
        same = over_between text place.line place.at place.column c.loop-place-test.true w.if-text-place-eq10.false (sym c.is_word_byte.ensures ∙ c.if-is_word_byte.false) ∙ c.loop-place.invariant.same;
      })
    ]
