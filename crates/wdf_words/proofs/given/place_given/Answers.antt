use Rattle.std.proofs.Common.{◌≡◌, ℕ, false, sym, ◌∙◌, subst, ⊎_elim, arith}
use Rattle.std.proofs.lemmas.Bool.{cases_lt}
use Rattle.wdf_words.specs.Orders.{gives, texts, word_at}
use Rattle.wdf_words.proofs.PlaceLemmas.{first_place, length_texts, no_place, text_at}
use Rattle.wdf_words.proofs.given.place_given.Goals as goal

pub returns-then-gives-clause-place : goal.returns-then-gives-clause-place
returns-then-gives-clause-place c =
    let here = text_at c.args.words.now c.loop-at.at c.index-words-at.result c.loop-at-test.true c.index-words-at.is ∙ sym c.deref.ensures in
    sym (first_place (gives c.args.name.now) (texts c.args.words.now) c.loop-at.at (omega (arith, length_texts c.args.words.now)) c.loop-at.invariant
    (rw here (sym c.gives.ensures ∙ c.if-gives.true)))

pub loop-at-preserved : goal.loop-at-preserved
loop-at-preserved c =
    let here = text_at c.args.words.now c.loop-at.at c.index-words-at.result c.loop-at-test.true c.index-words-at.is ∙ sym c.deref.ensures in
    λ j l. ⊎_elim (λ less. c.loop-at.invariant j less)
    (λ more. let same : c.loop-at.at ≡ j = omega arith in subst (λ (i : ℕ). gives c.args.name.now (word_at (texts c.args.words.now) i) ≡ false) same (rw here (sym c.gives.ensures ∙ c.if-gives.false)))
    (cases_lt j c.loop-at.at)

pub returns-clause-place : goal.returns-clause-place
returns-clause-place c = sym (no_place (gives c.args.name.now) (texts c.args.words.now) (λ j l. c.loop-at.invariant j (omega (arith, length_texts c.args.words.now))))
