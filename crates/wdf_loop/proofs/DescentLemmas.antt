-- The way down a chain among all chains.
use Rattle.std.proofs.Common.{◌≡◌, ℕ, ◌+◌, ◌<◌, ◌≤◌, List, length, refl, ap, sym, ◌∙◌, subst, arith}
use Rattle.std.specs.Prelude.{ℤ}
use Rattle.std.proofs.lemmas.Bool.{cases_lt}
use mathlib.Core.Logic.{◌⊎◌, inl, inr}
use Rattle.wdf_loop.specs.declared.cell.Cell.{Cell}
use Rattle.wdf_loop.specs.declared.chain.Chain.{Chain}
use Rattle.wdf_loop.specs.declared.share.Share.{Share}
use Rattle.wdf_loop.specs.Frames.{AllHaveTurned, HasDowns, HasRaw, HasTurned, HasUps, HaveFallenTo, IsDown, IsRun, KeepsFed, RunValues, end_of, first_of, to_of}
use Rattle.wdf_loop.specs.Layouts.{IsRowOfChains, share_at}
use Rattle.wdf_loop.specs.RunCells.{cell_in, wave_in}
use Rattle.wdf_loop.specs.Runs.{AllCanDescend, CanDescend, HasFallen, HaveDescended, KeepsOthers, cell_at}
use Rattle.wdf_loop.proofs.LineLemmas.{end-root}

-- the root has turned, and no chain is done
pub down-none : (root : ℕ) (shares : List Share) (r : RunValues) (cells : List (List Cell)) (waves : List ℤ) (c : ℕ) → HasTurned root shares r cells waves c → IsDown root shares root r cells cells c
down-none root shares r cells waves c turned = record {
  ups = turned.ups;
  raws = turned.raws;
  downs = λ j low high. let at : root ≡ j = omega arith in subst (λ (k : ℕ). HasDowns (r.stage k) (cell_at cells k c)) at turned.downs;
  kept = λ j h. record { fed = refl; under = refl };
}

pub can-descend : (q root : ℕ) (shares : List Share) (chains : List Chain) (t : ℕ) (r : RunValues) (before cells : List (List Cell)) (waves : List ℤ) (c : ℕ) → IsRowOfChains root chains → t < length chains
    → IsRun q root shares chains r → IsDown root shares (end_of chains t) r before cells c → wave_in waves c ≡ r.depth t (end_of chains t)
    → CanDescend q shares (first_of chains t) (end_of chains t) r.stage (r.depth t) cells waves c
can-descend q root shares chains t r before cells waves c row h run down wave =
    let top = end-root root chains row t h in record {
      descent = run.descends t h;
      up = λ j least most. (down.ups j (omega arith)).up;
      below = λ j least most. (down.ups j (omega arith)).below;
      raw = λ j least most. down.raws j (omega arith);
      wave = wave;
    }

-- behind the chain
pub descended-down : (root : ℕ) (shares : List Share) (first end : ℕ) (r : RunValues) (before cells after : List (List Cell)) (c : ℕ) → IsDown root shares end r before cells c
    → ((j : ℕ) → first ≤ j → j < end → HasFallen (r.stage j) (cell_at cells j c) (cell_at after j c)) → KeepsOthers first end cells after
    → IsDown root shares first r before after c
descended-down root shares first end r before cells after c down fallen others = record {
  ups = λ j h. ups j h (cases_lt j first) (cases_lt j end);
  raws = λ j h. raws j h (cases_lt j first) (cases_lt j end);
  downs = λ j low h. downs j low h (cases_lt j end);
  kept = λ j h. kept j h (cases_lt j first) (cases_lt j end);
}
  where
    same : (j : ℕ) → (j < first) ⊎ (end ≤ j) → cell_at after j c ≡ cell_at cells j c
    same j h = ap (λ (row : List Cell). cell_in row c) (others j h)

    ups : (j : ℕ) → j ≤ root → (j < first) ⊎ (first ≤ j) → (j < end) ⊎ (end ≤ j) → HasUps (r.stage j) (cell_at after j c)
    ups j h (inl less) side = subst (HasUps (r.stage j)) (sym (same j (inl less))) (down.ups j h)
    ups j h (inr more) (inr over) = subst (HasUps (r.stage j)) (sym (same j (inr over))) (down.ups j h)
    ups j h (inr more) (inl less) = let f = fallen j more less in let s = down.ups j h in record { up = f.up ∙ s.up; below = f.below ∙ s.below }

    raws : (j : ℕ) → j < root → (j < first) ⊎ (first ≤ j) → (j < end) ⊎ (end ≤ j) → HasRaw (share_at shares j) (r.stage j) (cell_at after j c)
    raws j h (inl less) side = subst (HasRaw (share_at shares j) (r.stage j)) (sym (same j (inl less))) (down.raws j h)
    raws j h (inr more) (inr over) = subst (HasRaw (share_at shares j) (r.stage j)) (sym (same j (inr over))) (down.raws j h)
    raws j h (inr more) (inl less) = λ p. (fallen j more less).raw ∙ down.raws j h p

    downs : (j : ℕ) → first ≤ j → j ≤ root → (j < end) ⊎ (end ≤ j) → HasDowns (r.stage j) (cell_at after j c)
    downs j low h (inl less) = let f = fallen j low less in record { down = f.down; onward = f.onward }
    downs j low h (inr over) = subst (HasDowns (r.stage j)) (sym (same j (inr over))) (down.downs j over h)

    as_before : (j : ℕ) → j ≤ root → cell_at after j c ≡ cell_at cells j c → KeepsFed (cell_at before j c) (cell_at after j c)
    as_before j h e = subst (KeepsFed (cell_at before j c)) (sym e) (down.kept j h)

    kept : (j : ℕ) → j ≤ root → (j < first) ⊎ (first ≤ j) → (j < end) ⊎ (end ≤ j) → KeepsFed (cell_at before j c) (cell_at after j c)
    kept j h (inl less) side = as_before j h (same j (inl less))
    kept j h (inr more) (inr over) = as_before j h (same j (inr over))
    kept j h (inr more) (inl less) = let f = fallen j more less in let k = down.kept j h in record { fed = f.fed ∙ k.fed; under = f.under ∙ k.under }

-- ---- all runs: the last chain, from the root,

pub fall_last_can : (count q root : ℕ) (shares : List Share) (chains : List Chain) (t : ℕ) (cells : List (List Cell)) (waves : List ℤ) → IsRowOfChains root chains → t + 1 ≡ length chains
    → AllHaveTurned count q root shares chains cells waves → AllCanDescend count q shares (first_of chains t) (end_of chains t) cells waves
fall_last_can count q root shares chains t cells waves line h all c small =
    let one = all c small in
    let r = one.0 in
    let top : root ≡ end_of chains t = sym (line.last t h).1 in
    let down = subst (λ (from : ℕ). IsDown root shares from one.0 cells cells c) top (down-none root shares one.0 cells waves c one.2) in
    (one.0.stage, one.0.depth t, can-descend q root shares chains t one.0 cells cells waves c line (omega arith) one.1 down (one.2.wave ∙ sym (one.1.returns t h)))

pub fall_last : (count q root : ℕ) (shares : List Share) (chains : List Chain) (t : ℕ) (cells after : List (List Cell)) (waves waves' : List ℤ) → IsRowOfChains root chains → t + 1 ≡ length chains
    → HaveDescended count q shares (first_of chains t) (end_of chains t) (first_of chains t) cells waves after waves' → KeepsOthers (first_of chains t) (end_of chains t) cells after
    → HaveFallenTo count q root shares chains (first_of chains t) cells waves after
fall_last count q root shares chains t cells after waves waves' line h descended others c small r run turned =
    let top : root ≡ end_of chains t = sym (line.last t h).1 in
    let down = subst (λ (from : ℕ). IsDown root shares from r cells cells c) top (down-none root shares r cells waves c turned) in
    let fallen = descended c small r.stage (r.depth t) (can-descend q root shares chains t r cells cells waves c line (omega arith) run down (turned.wave ∙ sym (run.returns t h))) in
    descended-down root shares (first_of chains t) (end_of chains t) r cells cells after c down fallen.0 others

-- and each other, from the part beside the stage where it hangs
collected : (q root : ℕ) (shares : List Share) (chains : List Chain) (t : ℕ) (r : RunValues) (before cells : List (List Cell)) (waves : List ℤ) (c : ℕ) → IsRowOfChains root chains → t + 1 < length chains
    → IsRun q root shares chains r → IsDown root shares (first_of chains (t + 1)) r before cells c → wave_in waves c ≡ (cell_at cells (to_of chains t) c).down
    → CanDescend q shares (first_of chains t) (end_of chains t) r.stage (r.depth t) cells waves c
collected q root shares chains t r before cells waves c line h run down wave =
    let at = line.next t h in
    let hung = line.to t h in
    let beside = (down.downs (to_of chains t) (omega (arith, hung.0)) hung.1).down in
    can-descend q root shares chains t r before cells waves c line (omega arith) run (subst (λ (from : ℕ). IsDown root shares from r before cells c) at down)
    (wave ∙ (beside ∙ sym (run.collected t h)))

pub fall_can : (count q root : ℕ) (shares : List Share) (chains : List Chain) (t : ℕ) (before cells : List (List Cell)) (held waves : List ℤ) → IsRowOfChains root chains → t + 1 < length chains
    → AllHaveTurned count q root shares chains before held → HaveFallenTo count q root shares chains (first_of chains (t + 1)) before held cells
    → ((c : ℕ) → c < count → wave_in waves c ≡ (cell_at cells (to_of chains t) c).down)
    → AllCanDescend count q shares (first_of chains t) (end_of chains t) cells waves
fall_can count q root shares chains t before cells held waves line h all so_far sent c small =
    let one = all c small in
    (one.0.stage, one.0.depth t, collected q root shares chains t one.0 before cells waves c line h one.1 (so_far c small one.0 one.1 one.2) (sent c small))

pub fall_more : (count q root : ℕ) (shares : List Share) (chains : List Chain) (t : ℕ) (before cells after : List (List Cell)) (held waves waves' : List ℤ) → IsRowOfChains root chains → t + 1 < length chains
    → HaveFallenTo count q root shares chains (first_of chains (t + 1)) before held cells → ((c : ℕ) → c < count → wave_in waves c ≡ (cell_at cells (to_of chains t) c).down)
    → HaveDescended count q shares (first_of chains t) (end_of chains t) (first_of chains t) cells waves after waves' → KeepsOthers (first_of chains t) (end_of chains t) cells after
    → HaveFallenTo count q root shares chains (first_of chains t) before held after
fall_more count q root shares chains t before cells after held waves waves' line h so_far sent descended others c small r run turned =
    let down = so_far c small r run turned in
    let fallen = descended c small r.stage (r.depth t) (collected q root shares chains t r before cells waves c line h run down (sent c small)) in
    descended-down root shares (first_of chains t) (end_of chains t) r before cells after c (subst (λ (from : ℕ). IsDown root shares from r before cells c) (line.next t h) down) fallen.0 others
