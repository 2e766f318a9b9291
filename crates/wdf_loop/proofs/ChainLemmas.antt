-- The chains that begin before a stage, one stage on.
use Rattle.std.proofs.Common.{◌≡◌, ℕ, ◌+◌, ◌<◌, ◌≤◌, List, [], ◌∷◌, ◌++◌, length, refl, ap, sym, ◌∙◌, subst, arith, length-append}
use Rattle.std.specs.Prelude.{pos}
use mathlib.Core.Logic.{◌⊎◌, inl, inr}
use Rattle.std.proofs.lemmas.Bool.{cases_lt, cases_order}
use Rattle.std.proofs.lemmas.List.{get_or_append_left, get_or_at}
use Rattle.wdf_law.specs.Network.{Network, elements}
use Rattle.wdf_loop.specs.declared.chain.Chain.{Chain}
use Rattle.wdf_loop.specs.declared.mark.Mark.{Mark}
use Rattle.wdf_loop.specs.Layouts.{mark_at, chain_at}
use Rattle.wdf_loop.specs.Chains.{IsEnd, IsChainFrom, AreChainsBefore}

pub no_chains : (n : Network) (marks : List Mark) → AreChainsBefore n marks 0 []
no_chains n marks = record {
  each = λ i h. absurd (omega arith);
  begins = λ i h. absurd (omega arith);
  from = λ h. absurd (omega arith);
  next = λ i h. absurd (omega arith);
  behind = λ i e. absurd (omega arith);
}

at_old : (cs : List Chain) (c : Chain) (i : ℕ) → i < length cs → chain_at (cs ++ c ∷ []) i ≡ chain_at cs i
at_old cs c i small = get_or_append_left cs (c ∷ []) (record { first = 0; end = 0; to = 0; sign = pos 0 }) i small

at_new : (cs : List Chain) (c : Chain) → chain_at (cs ++ c ∷ []) (length cs) ≡ c
at_new cs c = get_or_at cs c [] (record { first = 0; end = 0; to = 0; sign = pos 0 }) (length cs) refl

-- what holds of each chain holds of one more
each_more : (P : Chain → Type 0) (cs : List Chain) (c : Chain) → ((i : ℕ) → i < length cs → P (chain_at cs i)) → P c
    → (i : ℕ) → i < length (cs ++ c ∷ []) → P (chain_at (cs ++ c ∷ []) i)
each_more P cs c old new i small = by (cases_lt i (length cs))
  where
    by : (i < length cs) ⊎ (length cs ≤ i) → P (chain_at (cs ++ c ∷ []) i)
    by (inl h) = subst P (sym (at_old cs c i h)) (old i h)
    by (inr h) =
        let same : i ≡ length cs = omega (arith, h, small, length-append cs (c ∷ [])) in
        subst P (sym (ap (chain_at (cs ++ c ∷ [])) same ∙ at_new cs c)) new

-- the last chain ends where the next begins
ends_at : (count : ℕ) (marks : List Mark) (s first end : ℕ) → IsEnd count marks first end → s < length marks → first < s → (mark_at marks s).below < count
    → ((j : ℕ) → first < j → j < s → count ≤ (mark_at marks j).below) → end ≡ s
ends_at count marks s first end h small less begins none = by (cases_order end s) h.stop
  where
    by : (end ≡ s) ⊎ ((end < s) ⊎ (s < end))
        → ((first < end) × ((mark_at marks end).below < count)) ⊎ ((end + 1 ≡ length marks) × (first < end → count ≤ (mark_at marks end).below)) → end ≡ s
    by (inl same) stop = same
    by (inr (inl before)) (inl stop) = let high = none end stop.0 before in absurd (omega (arith, high, stop.1))
    by (inr (inl before)) (inr stop) = absurd (omega (arith, before, small, stop.0))
    by (inr (inr later)) stop = let high = h.inner s less later in absurd (omega (arith, high, begins))

pub push_chain : (n : Network) (marks : List Mark) (s : ℕ) (cs : List Chain) (c : Chain) → AreChainsBefore n marks s cs → s < length marks
    → (mark_at marks s).below < length (elements n) → c.first ≡ s → IsChainFrom n marks c → AreChainsBefore n marks (s + 1) (cs ++ c ∷ [])
push_chain n marks s cs c h small begins at chain = record {
  each = each_more (IsChainFrom n marks) cs c h.each chain;
  begins = each_more (λ (z : Chain). (z.first < s + 1) × ((mark_at marks z.first).below < length (elements n))) cs c
      (λ i b. let old = h.begins i b in (omega (arith, old.0), old.1))
      (omega (arith, at), subst (λ (k : ℕ). (mark_at marks k).below < length (elements n)) (sym at) begins);
  from = λ _. (omega (arith, length-append cs (c ∷ [])), first (cases_lt 0 (length cs)));
  next = λ i b. next i (cases_lt (i + 1) (length cs)) (omega (arith, b, length-append cs (c ∷ [])));
  behind = λ i e j less more.
      let same : i ≡ length cs = omega (arith, e, length-append cs (c ∷ [])) in
      let here : (chain_at (cs ++ c ∷ []) i).first ≡ s = ap (λ (z : Chain). z.first) (ap (chain_at (cs ++ c ∷ [])) same ∙ at_new cs c) ∙ at in
      absurd (omega (arith, less, more, here));
}
  where
    first : (0 < length cs) ⊎ (length cs ≤ 0) → (chain_at (cs ++ c ∷ []) 0).first ≡ 0
    first (inl some) =
        let old = h.begins 0 some in
        let start = h.from (omega (arith, old.0)) in
        ap (λ (z : Chain). z.first) (at_old cs c 0 some) ∙ start.1
    first (inr none) = ap (λ (z : Chain). z.first) (ap (chain_at (cs ++ c ∷ [])) (let e : 0 ≡ length cs = omega (arith, none) in e) ∙ at_new cs c) ∙ (at ∙ zero_stage (cases_lt 0 s))
      where
        zero_stage : (0 < s) ⊎ (s ≤ 0) → s ≡ 0
        zero_stage (inl some) = let start = h.from some in absurd (omega (arith, none, start.0))
        zero_stage (inr low) = omega (arith, low)

    next : (i : ℕ) → (i + 1 < length cs) ⊎ (length cs ≤ i + 1) → i + 1 < length cs + 1
        → ((chain_at (cs ++ c ∷ []) (i + 1)).first ≡ (chain_at (cs ++ c ∷ []) i).end)
        × ((chain_at (cs ++ c ∷ []) i).first < (chain_at (cs ++ c ∷ []) i).end)
    next i (inl inside) _ =
        let old = h.next i inside in
        let here = at_old cs c i (omega (arith, inside)) in
        let there = at_old cs c (i + 1) inside in (
          ap (λ (z : Chain). z.first) there ∙ (old.0 ∙ ap (λ (z : Chain). z.end) (sym here)),
          subst (λ (z : Chain). z.first < z.end) (sym here) old.1,
        )
    next i (inr outside) room =
        let last : i + 1 ≡ length cs = omega (arith, outside, room) in
        let here = at_old cs c i (omega (arith, last)) in
        let there : chain_at (cs ++ c ∷ []) (i + 1) ≡ c = ap (chain_at (cs ++ c ∷ [])) last ∙ at_new cs c in
        let old = h.begins i (omega (arith, last)) in
        let own = h.each i (omega (arith, last)) in
        let end : (chain_at cs i).end ≡ s =
        ends_at (length (elements n)) marks s (chain_at cs i).first (chain_at cs i).end own.end small old.0 begins (h.behind i last) in (
          ap (λ (z : Chain). z.first) there ∙ (at ∙ (sym end ∙ ap (λ (z : Chain). z.end) (sym here))),
          subst (λ (z : Chain). z.first < z.end) (sym here) (omega (arith, old.0, end)),
        )

pub skip_stage : (n : Network) (marks : List Mark) (s : ℕ) (cs : List Chain) → AreChainsBefore n marks s cs
    → (mark_at marks 0).below < length (elements n) → length (elements n) ≤ (mark_at marks s).below → AreChainsBefore n marks (s + 1) cs
skip_stage n marks s cs h zero_begins none = record {
  each = h.each;
  begins = λ i b. let old = h.begins i b in (omega (arith, old.0), old.1);
  from = λ _. h.from (some (cases_lt 0 s));
  next = h.next;
  behind = λ i e j less more. last i e j less (cases_lt j s) more;
}
  where
    some : (0 < s) ⊎ (s ≤ 0) → 0 < s
    some (inl h) = h
    some (inr low) =
        let same : s ≡ 0 = omega (arith, low) in
        let high : length (elements n) ≤ (mark_at marks 0).below = subst (λ (k : ℕ). length (elements n) ≤ (mark_at marks k).below) same none in
        absurd (omega (arith, high, zero_begins))

    last : (i : ℕ) → i + 1 ≡ length cs → (j : ℕ) → (chain_at cs i).first < j → (j < s) ⊎ (s ≤ j) → j < s + 1 → length (elements n) ≤ (mark_at marks j).below
    last i e j less (inl before) more = h.behind i e j less before
    last i e j less (inr from) more =
        let same : j ≡ s = omega (arith, from, more) in
        subst (λ (k : ℕ). length (elements n) ≤ (mark_at marks k).below) (sym same) none
