use Rattle.std.proofs.Common.{◌≡◌, ◌-◌, List, ℕ, None, Some, length, take, refl, sym, ap, ◌∙◌}
use Rattle.wdf_words.specs.Orders.{fault_at, texts, word_fault}
use Rattle.wdf_words.proofs.PlaceLemmas.{fault_of, first_found, length_texts, none_here}
use Rattle.wdf_words.proofs.reading.first_fault.Goals as goal

pub returns-in-Some : goal.returns-in-Some
returns-in-Some c =
    let words = c.args.words.now in
    let at = c.loop-at.at in
    let here : fault_at c.args.command (texts words) at ≡ Some c.in-Some.kind =
    fault_of c.args.command words at c.index-words-at.result c.loop-at-test.true c.index-words-at.is
    ∙ ap (λ (w : List ℕ). word_fault c.args.command (texts (take at words)) w) (sym c.deref.ensures) ∙ sym c.word_fault.ensures ∙ c.in-Some.is in
    rw (length_texts words, first_found (fault_at c.args.command (texts words)) at (length words) (length words - 1) c.in-Some.kind c.loop-at-test.true c.loop-at.invariant here) refl

pub loop-at-preserved : goal.loop-at-preserved
loop-at-preserved c =
    let words = c.args.words.now in
    let at = c.loop-at.at in
    let here : fault_at c.args.command (texts words) at ≡ None =
    fault_of c.args.command words at c.index-words-at.result c.loop-at-test.true c.index-words-at.is
    ∙ ap (λ (w : List ℕ). word_fault c.args.command (texts (take at words)) w) (sym c.deref.ensures) ∙ sym c.word_fault.ensures ∙ c.in_default.is in
    none_here (fault_at c.args.command (texts words)) at (length words) (length words - 1) c.loop-at-test.true c.loop-at.invariant here
