use Rattle.std.proofs.Common.{◌≡◌, true, false, ◌++◌, ◌∷◌, [], ℕ, List, map, sym, ap, ◌∙◌}
use Rattle.std.proofs.lemmas.List.{append_assoc}
use Rattle.std.specs.Prelude.{filter}
use Rattle.std.specs.List.{range_with_len}
use Rattle.wdf_law.specs.Network.{Network, elements, has_absorbing}
use Rattle.wdf_residue.specs.Matrix.{Entries, column_entries}
use Rattle.wdf_check.proofs.ObservingLemmas.{map-kept-yes, map-kept-no}
use Rattle.wdf_check.proofs.observing.push_observed.Goals as goal
use Rattle.wdf_check.proofs.observing.push_observed.Goals.{then-has_absorbing+in_ok-column+in_ok-push, else-has_absorbing}

-- the rows of the observed elements below i
abbrev kept : Network → List (List ℕ) → ℕ → List (List ℕ)
kept n rows i = map (column_entries rows) (filter (has_absorbing (elements n)) (range_with_len 0 i))

pub loop-i-preserved : goal.loop-i-preserved
loop-i-preserved c =
    elim c.if-has_absorbing.branch [
      | then-has_absorbing+in_ok-column+in_ok-push w ↦
          let passes : has_absorbing (elements c.args.net.now) c.loop-i.i ≡ true = sym c.has_absorbing.ensures ∙ w.if-has_absorbing.true in
          let made = w.in_ok-column.ensures.value in
          let pushed = w.in_ok-push.ensures.ok in
          record {
            width = ap (λ (m : Entries). m.columns) w.matrix-is ∙ (w.in_ok-push.ensures.columns ∙ c.loop-i.invariant.width);
            whole = ap (λ (m : Entries). m.rows) w.matrix-is
                ∙ (pushed ∙ ((λ j. c.loop-i.invariant.whole j ++ made j ∷ [])
                ∙ (append_assoc c.args.matrix.now.rows (kept c.args.net.now c.args.states.now.rows c.loop-i.i) (column_entries c.args.states.now.rows c.loop-i.i ∷ [])
                ∙ ap (λ (rows : List (List ℕ)). c.args.matrix.now.rows ++ rows)
                (sym (map-kept-yes (column_entries c.args.states.now.rows) (has_absorbing (elements c.args.net.now)) c.loop-i.i passes)))));
          }
      | else-has_absorbing w ↦
          let fails : has_absorbing (elements c.args.net.now) c.loop-i.i ≡ false = sym c.has_absorbing.ensures ∙ w.if-has_absorbing.false in
          record {
            width = ap (λ (m : Entries). m.columns) w.matrix-is ∙ c.loop-i.invariant.width;
            whole = ap (λ (m : Entries). m.rows) w.matrix-is
                ∙ (c.loop-i.invariant.whole
                ∙ ap (λ (rows : List (List ℕ)). c.args.matrix.now.rows ++ rows)
                (sym (map-kept-no (column_entries c.args.states.now.rows) (has_absorbing (elements c.args.net.now)) c.loop-i.i fails)));
          }
    ]
