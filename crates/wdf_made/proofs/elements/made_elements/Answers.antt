use Rattle.std.proofs.Common.{◌≡◌, List, [], ◌∷◌, ◌++◌, sym, ap, ◌∙◌}
use Rattle.wdf_netlist.specs.declared.element.Element.{Element}
use Rattle.wdf_made.specs.Generator.{behind_word, next_word}
use Rattle.wdf_made.specs.Ladder.{rung, the_source, value_from}
use Rattle.wdf_made.proofs.WordLemmas.{behind_more, rungs_more}
use Rattle.wdf_made.proofs.elements.made_elements.Goals as goal

pub loop-place-preserved : goal.loop-place-preserved
loop-place-preserved c =
    let pushed : c.push-in-loop-place.new.self.items ≡ c.loop-place.elements.items ++ c.rung.result ∷ [] = c.in_ok-push-2.ensures.items in
    let word : c.next_word.result ≡ next_word c.loop-place.generator = c.next_word.ensures.word in (
      pushed
          ∙ (λ i. c.loop-place.invariant.0 i ++ c.rung.ensures i ∷ [])
          ∙ (λ i. c.loop-place.invariant.0 1 ++ rung c.loop-place.place (value_from c.loop-place.place (word i)) ∷ [])
          ∙ (λ i. c.loop-place.invariant.0 1 ++ rung c.loop-place.place (value_from c.loop-place.place (next_word (c.loop-place.invariant.1 i))) ∷ [])
          ∙ ap (λ (l : List Element). the_source ∷ l) (sym (rungs_more c.args.seed c.loop-place.place)),
      c.next_word.ensures.behind ∙ ap behind_word c.loop-place.invariant.1 ∙ sym (behind_more c.args.seed c.loop-place.place),
    )
