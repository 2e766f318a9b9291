-- A way up or down a chain that is made in parts, one behind the other.
use Rattle.std.proofs.Common.{◌≡◌, ℕ, zero, suc, ◌<◌, ◌≤◌, List, refl, ap, sym, ◌∙◌, subst, arith, w64, to_z, of_z}
use Rattle.std.specs.Prelude.{ℤ, pos, negsuc, ◌-ℤ◌, neg_ℤ, unsigned_abs}
use Rattle.std.proofs.lemmas.Bool.{cases_lt}
use mathlib.Core.Logic.{◌⊎◌, inl, inr}
use Rattle.wdf_loop.specs.declared.cell.Cell.{Cell}
use Rattle.wdf_loop.specs.declared.share.Share.{Share}
use Rattle.wdf_loop.specs.Cells.{IsWord, reflects}
use Rattle.wdf_loop.specs.Layouts.{share_at}
use Rattle.wdf_loop.specs.RunCells.{cell_in, wave_in}
use Rattle.wdf_loop.specs.Runs.{AllCanClimb, AllCanDescend, CanClimb, CanDescend, HasFallen, HasRisen, HaveClimbed, HaveDescended, IsClimb, IsDescent, KeepsOthers, Values, cell_at, row_at}

-- the rows from the stage `mid` on are as before
abbrev KeepsFrom : ℕ → List (List Cell) → List (List Cell) → Type 0
KeepsFrom mid before cells = (j : ℕ) → mid ≤ j → row_at cells j ≡ row_at before j

abbrev KeepsUpTo : ℕ → List (List Cell) → List (List Cell) → Type 0
KeepsUpTo mid before cells = (j : ℕ) → j < mid → row_at cells j ≡ row_at before j

cell-same : (before cells : List (List Cell)) (j c : ℕ) → row_at cells j ≡ row_at before j → cell_at cells j c ≡ cell_at before j c
cell-same before cells j c same = ap (λ (r : List Cell). cell_in r c) same

-- ---- signs

pub sign-kept : (z : ℤ) → unsigned_abs z ≤ 1 → to_z w64 (of_z w64 z) ≡ z
sign-kept (pos zero) h = refl
sign-kept (pos (suc zero)) h = refl
sign-kept (pos (suc (suc n))) h = absurd (omega arith)
sign-kept (negsuc zero) h = refl
sign-kept (negsuc (suc n)) h = absurd (omega arith)

pub sign-turned : (z : ℤ) → unsigned_abs z ≤ 1 → to_z w64 (of_z w64 (pos 0 -ℤ to_z w64 (of_z w64 z))) ≡ neg_ℤ z
sign-turned (pos zero) h = refl
sign-turned (pos (suc zero)) h = refl
sign-turned (pos (suc (suc n))) h = absurd (omega arith)
sign-turned (negsuc zero) h = refl
sign-turned (negsuc (suc n)) h = absurd (omega arith)

-- ---- which stages stay

pub keeps_none : (cells : List (List Cell)) (j : ℕ) → row_at cells j ≡ row_at cells j
keeps_none cells j = refl

pub others_joined : (first mid end to : ℕ) (before cells after : List (List Cell)) → KeepsOthers first mid before cells → KeepsOthers end to cells after
    → (low : ℕ) (high : ℕ) → low ≤ first → low ≤ end → mid ≤ high → to ≤ high → KeepsOthers low high before after
others_joined first mid end to before cells after one two low high a b c d j (inl h) = two j (inl (omega arith)) ∙ one j (inl (omega arith))
others_joined first mid end to before cells after one two low high a b c d j (inr h) = two j (inr (omega arith)) ∙ one j (inr (omega arith))

-- ---- up

part-climb : (q : ℕ) (shares : List Share) (first end low high : ℕ) (v : ℕ → Values) (height : ℕ → ℤ) → first ≤ low → high ≤ end
    → IsClimb q shares first end v height → IsClimb q shares low high v height
part-climb q shares first end low high v height l h climb = record {
  junctions = λ j a b. climb.junctions j (omega arith) (omega arith);
  below = λ j a b. climb.below j (omega arith) (omega arith);
  out = λ j a b. climb.out j (omega arith) (omega arith);
}

-- behind the stages before `mid`, those from there to `to` can rise
climb-on : (q : ℕ) (shares : List Share) (first end mid to : ℕ) (v : ℕ → Values) (height : ℕ → ℤ) (before cells : List (List Cell)) (held waves : List ℤ) (c : ℕ) → first ≤ mid → to ≤ end
    → CanClimb q shares first end v height before held c → wave_in waves c ≡ height mid → KeepsFrom mid before cells → CanClimb q shares mid to v height cells waves c
climb-on q shares first end mid to v height before cells held waves c low high can wave same = record {
  climb = part-climb q shares first end mid to v height low high can.climb;
  up = λ j a b. ap (reflects (share_at shares j)) (cell-same before cells j c (same j a)) ∙ can.up j (omega arith) (omega arith);
  states = λ j a b. subst (λ (d : Cell). IsWord q d.down) (sym (cell-same before cells j c (same j a))) (can.states j (omega arith) (omega arith));
  wave = wave;
}

pub climb_part : (count q : ℕ) (shares : List Share) (first end mid to : ℕ) (before cells : List (List Cell)) (held waves : List ℤ) → first ≤ mid → to ≤ end
    → AllCanClimb count q shares first end before held → HaveClimbed count q shares first end mid before held cells waves → KeepsOthers first mid before cells
    → AllCanClimb count q shares mid to cells waves
climb_part count q shares first end mid to before cells held waves low high all so_far others c h =
    let one = all c h in
    (one.0, one.1, climb-on q shares first end mid to one.0 one.1 before cells held waves c low high one.2 (so_far c h one.0 one.1 one.2).1 (λ j a. others j (inr a)))

pub climb_joined : (count q : ℕ) (shares : List Share) (first end mid to : ℕ) (before cells after : List (List Cell)) (held waves waves' : List ℤ) → first ≤ mid → to ≤ end
    → HaveClimbed count q shares first end mid before held cells waves → KeepsOthers first mid before cells
    → HaveClimbed count q shares mid to to cells waves after waves' → KeepsOthers mid to cells after
    → HaveClimbed count q shares first end to before held after waves'
climb_joined count q shares first end mid to before cells after held waves waves' low high so_far others more others' c h v height can =
    let now = so_far c h v height can in
    let next = more c h v height (climb-on q shares first end mid to v height before cells held waves c low high can now.1 (λ j a. others j (inr a))) in
    (λ j a b. by j a b (cases_lt j mid), next.1)
  where
    by : (j : ℕ) → first ≤ j → j < to → (j < mid) ⊎ (mid ≤ j) → HasRisen (share_at shares j) (v j) (cell_at before j c) (cell_at after j c)
    by j a b (inl less) =
        let now = so_far c h v height can in
        subst (λ (d : Cell). HasRisen (share_at shares j) (v j) (cell_at before j c) d) (sym (cell-same cells after j c (others' j (inl less)))) (now.0 j a less)
    by j a b (inr most) =
        let now = so_far c h v height can in
        let next = more c h v height (climb-on q shares first end mid to v height before cells held waves c low high can now.1 (λ j a. others j (inr a))) in
        subst (λ (d : Cell). HasRisen (share_at shares j) (v j) d (cell_at after j c)) (cell-same before cells j c (others j (inr most))) (next.0 j most b)

-- before any stage
pub climb_none : (count q : ℕ) (shares : List Share) (first end : ℕ) (cells : List (List Cell)) (waves : List ℤ) → HaveClimbed count q shares first end first cells waves cells waves
climb_none count q shares first end cells waves c h v height can = (λ j a b. absurd (omega arith), can.wave)

-- ---- down

part-descent : (q : ℕ) (shares : List Share) (first end low high : ℕ) (v : ℕ → Values) (depth : ℕ → ℤ) → first ≤ low → high ≤ end
    → IsDescent q shares first end v depth → IsDescent q shares low high v depth
part-descent q shares first end low high v depth l h descent = record {
  junctions = λ j a b. descent.junctions j (omega arith) (omega arith);
  sent = λ j a b. descent.sent j (omega arith) (omega arith);
  onward = λ j a b. descent.onward j (omega arith) (omega arith);
}

-- behind the stages from `mid` on, those below can fall
descend-on : (q : ℕ) (shares : List Share) (first end mid to : ℕ) (v : ℕ → Values) (depth : ℕ → ℤ) (before cells : List (List Cell)) (held waves : List ℤ) (c : ℕ) → first ≤ to → mid ≤ end
    → CanDescend q shares first end v depth before held c → wave_in waves c ≡ depth mid → KeepsUpTo mid before cells → CanDescend q shares to mid v depth cells waves c
descend-on q shares first end mid to v depth before cells held waves c low high can wave same = record {
  descent = part-descent q shares first end to mid v depth low high can.descent;
  up = λ j a b. ap (λ (d : Cell). d.up) (cell-same before cells j c (same j b)) ∙ can.up j (omega arith) (omega arith);
  below = λ j a b. ap (λ (d : Cell). d.below) (cell-same before cells j c (same j b)) ∙ can.below j (omega arith) (omega arith);
  raw = λ j a b p. ap (λ (d : Cell). d.raw) (cell-same before cells j c (same j b)) ∙ can.raw j (omega arith) (omega arith) p;
  wave = wave;
}

pub descend_part : (count q : ℕ) (shares : List Share) (first end mid to : ℕ) (before cells : List (List Cell)) (held waves : List ℤ) → first ≤ to → mid ≤ end
    → AllCanDescend count q shares first end before held → HaveDescended count q shares first end mid before held cells waves → KeepsOthers mid end before cells
    → AllCanDescend count q shares to mid cells waves
descend_part count q shares first end mid to before cells held waves low high all so_far others c h =
    let one = all c h in
    (one.0, one.1, descend-on q shares first end mid to one.0 one.1 before cells held waves c low high one.2 (so_far c h one.0 one.1 one.2).1 (λ j a. others j (inl a)))

pub descend_joined : (count q : ℕ) (shares : List Share) (first end mid to : ℕ) (before cells after : List (List Cell)) (held waves waves' : List ℤ) → first ≤ to → mid ≤ end
    → HaveDescended count q shares first end mid before held cells waves → KeepsOthers mid end before cells
    → HaveDescended count q shares to mid to cells waves after waves' → KeepsOthers to mid cells after
    → HaveDescended count q shares first end to before held after waves'
descend_joined count q shares first end mid to before cells after held waves waves' low high so_far others more others' c h v depth can =
    let now = so_far c h v depth can in
    let next = more c h v depth (descend-on q shares first end mid to v depth before cells held waves c low high can now.1 (λ j a. others j (inl a))) in
    (λ j a b. by j a b (cases_lt j mid), next.1)
  where
    by : (j : ℕ) → to ≤ j → j < end → (j < mid) ⊎ (mid ≤ j) → HasFallen (v j) (cell_at before j c) (cell_at after j c)
    by j a b (inl less) =
        let now = so_far c h v depth can in
        let next = more c h v depth (descend-on q shares first end mid to v depth before cells held waves c low high can now.1 (λ j a. others j (inl a))) in
        subst (λ (d : Cell). HasFallen (v j) d (cell_at after j c)) (cell-same before cells j c (others j (inl less))) (next.0 j a less)
    by j a b (inr most) =
        let now = so_far c h v depth can in
        subst (λ (d : Cell). HasFallen (v j) (cell_at before j c) d) (sym (cell-same cells after j c (others' j (inr most)))) (now.0 j most b)

pub descend_none : (count q : ℕ) (shares : List Share) (first end : ℕ) (cells : List (List Cell)) (waves : List ℤ) → HaveDescended count q shares first end end cells waves cells waves
descend_none count q shares first end cells waves c h v depth can = (λ j a b. absurd (omega arith), can.wave)
