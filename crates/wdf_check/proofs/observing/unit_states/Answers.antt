use Rattle.std.proofs.Common.{◌≡◌, true, false, ◌++◌, ◌∷◌, [], ℕ, sym, subst, ap, ◌∙◌}
use Rattle.wdf_law.specs.Network.{elements, has_reactance}
use Rattle.wdf_residue.specs.Matrix.{Entries, IsRow}
use Rattle.wdf_check.specs.Observability.{unit_state}
use Rattle.wdf_check.specs.Stepping.{residues_of, trajectory}
use Rattle.wdf_check.proofs.ObservingLemmas.{residues-row, map-kept-yes, map-kept-no}
use Rattle.wdf_check.proofs.observing.unit_states.Goals as goal
use Rattle.wdf_check.proofs.observing.unit_states.Goals.{then-has_reactance+in_ok-unit_state+in_ok-push, else-has_reactance}

pub push-requires : goal.push-requires
push-requires c =
    let made = c.in_ok-unit_state.ensures in
    subst (λ (n : ℕ). IsRow n c.in_ok-unit_state.field-0.items) (c.element_count-count.ensures.count ∙ sym c.loop-i.invariant.width)
    (subst (IsRow c.element_count-count.result) (sym made) (residues-row c.element_count-count.result (unit_state c.loop-i.i)))

pub loop-i-preserved : goal.loop-i-preserved
loop-i-preserved c =
    elim c.if-has_reactance.branch [
      | then-has_reactance+in_ok-unit_state+in_ok-push w ↦
          let passes : has_reactance (elements c.args.net.now) c.loop-i.i ≡ true = sym c.has_reactance.ensures ∙ w.if-has_reactance.true in
          let made = w.in_ok-unit_state.ensures in
          let pushed = w.in_ok-push.ensures.ok in
          let row : w.in_ok-unit_state.field-0.items ≡ trajectory c.args.net.now 0 c.loop-i.i =
          made ∙ ap (λ (n : ℕ). residues_of n (unit_state c.loop-i.i)) c.element_count-count.ensures.count in
          record {
            width = ap (λ (m : Entries). m.columns) w.states-is ∙ (w.in_ok-push.ensures.columns ∙ c.loop-i.invariant.width);
            whole = ap (λ (m : Entries). m.rows) w.states-is
                ∙ (pushed ∙ ((λ j. c.loop-i.invariant.whole j ++ row j ∷ []) ∙ sym (map-kept-yes (trajectory c.args.net.now 0) (has_reactance (elements c.args.net.now)) c.loop-i.i passes)));
          }
      | else-has_reactance w ↦
          let fails : has_reactance (elements c.args.net.now) c.loop-i.i ≡ false = sym c.has_reactance.ensures ∙ w.if-has_reactance.false in
          record {
            width = ap (λ (m : Entries). m.columns) w.states-is ∙ c.loop-i.invariant.width;
            whole = ap (λ (m : Entries). m.rows) w.states-is
                ∙ (c.loop-i.invariant.whole ∙ sym (map-kept-no (trajectory c.args.net.now 0) (has_reactance (elements c.args.net.now)) c.loop-i.i fails));
          }
    ]
