use Rattle.std.proofs.Common.{◌≡◌, ◌++◌, ◌∷◌, [], ◌+◌, ℕ, Some, length, get_or, sym, ◌∙◌, arith}
use Rattle.std.proofs.lemmas.Bool.{cases_lt}
use Rattle.std.proofs.lemmas.List.{take_more}
use Rattle.std.proofs.lemmas.Option.{slice_get_within, slice_get-get_or}
use mathlib.Core.Logic.{inl, inr}
use Rattle.wdf_law.specs.Network.{elements, multipliers}
use Rattle.wdf_check.proofs.checking.multipliers.Goals as goal

pub loop-i-preserved : goal.loop-i-preserved
loop-i-preserved c =
    let is = c.in-Some.ensures.value in
    let within = slice_get_within (multipliers c.args.net.now) c.loop-i.i c.in-Some.m (sym is) in
    let at = slice_get-get_or (multipliers c.args.net.now) c.loop-i.i 0 within in
    let same : c.in-Some.m ≡ get_or (multipliers c.args.net.now) c.loop-i.i 0 = some-one c.in-Some.m (get_or (multipliers c.args.net.now) c.loop-i.i 0) (is ∙ at) in
    let pushed = c.in_ok-push-in-Some.ensures.items in
    record {
      some = elim (cases_lt (c.loop-i.i + 1) (length (elements c.args.net.now))) [
        | inl less ↦ less
        | inr past ↦ absurd (cc (c.in-Some.ensures.none.1 (omega arith)))
      ];
      whole = pushed ∙ ((λ j. c.loop-i.invariant.whole j ++ same j ∷ []) ∙ sym (take_more (multipliers c.args.net.now) c.loop-i.i 0 within));
    }
  where
    some-one : (a b : ℕ) → Some a ≡ Some b → a ≡ b
    some-one a b e = cc
