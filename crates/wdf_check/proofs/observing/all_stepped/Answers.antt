use Rattle.std.proofs.Common.{◌++◌, ◌∷◌, [], ℕ, ◌<◌, length, sym, subst, ap, ◌∙◌, arith}
use Rattle.std.proofs.lemmas.List.{map_more}
use Rattle.wdf_law.specs.Network.{elements}
use Rattle.wdf_residue.specs.Matrix.{IsRow}
use Rattle.wdf_check.specs.ResidueStep.{next}
use Rattle.wdf_check.specs.Stepping.{state_of, stepped}
use Rattle.wdf_check.proofs.ObservingLemmas.{residues-row}
use Rattle.wdf_check.proofs.observing.all_stepped.Goals as goal

pub push-requires : goal.push-requires
push-requires c =
    let made = c.in_ok-step.ensures in
    subst (λ (n : ℕ). IsRow n c.in_ok-step.field-0.items) (sym (c.loop-i.invariant.width ∙ c.requires))
    (subst (IsRow (length (elements c.args.net.now))) (sym made) (residues-row (length (elements c.args.net.now)) (next c.args.net.now (state_of c.row.result.now))))

pub loop-i-preserved : goal.loop-i-preserved
loop-i-preserved c =
    let made = c.in_ok-step.ensures in
    let pushed = c.in_ok-push.ensures.ok in
    let within : c.loop-i.i < length c.args.states.now.rows = omega (arith, c.rows-i-end.ensures) in
    record {
      width = c.in_ok-push.ensures.columns ∙ c.loop-i.invariant.width;
      whole = pushed
          ∙ ((λ j. c.loop-i.invariant.whole j ++ (made ∙ ap (stepped c.args.net.now) c.row.ensures.value) j ∷ [])
          ∙ sym (map_more (stepped c.args.net.now) c.args.states.now.rows c.loop-i.i [] within));
    }
