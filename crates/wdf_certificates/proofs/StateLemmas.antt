-- The numbers of the reactances among the elements, as a loop over these finds them.
use Rattle.std.proofs.Common.{◌≡◌, ℕ, suc, ◌+◌, ◌-◌, ◌<◌, ◌≤◌, Bool, true, false, List, [], ◌∷◌, length, get_or, drop, Some, None, refl, sym, ap, ◌∙◌, subst, arith, zero-add}
use Rattle.std.specs.Prelude.{filter, slice_get, if◌then◌else◌}
use Rattle.std.specs.List.{range_with_len}
use Rattle.std.specs.Option.{option_map}
use Rattle.std.proofs.lemmas.List.{drop_all, drop_more}
use Rattle.std.proofs.lemmas.Bool.{cond-true, cond-false}
use Rattle.std.proofs.lemmas.Option.{slice_get-get_or}
use Rattle.wdf_law.specs.Network.{is_reactance}
use Rattle.wdf_netlist.specs.declared.element.Element.{Element}
use Rattle.wdf_netlist.specs.Circuits.{is_kind_at, numbers_where}
use Rattle.wdf_certificates.specs.CertStages.{IsStateOf}

-- the numbers of the reactances among elements, the first of which has the number n
abbrev pub numbers_from : ℕ → List Element → List ℕ
numbers_from n [] = []
numbers_from n (e ∷ es) = if is_reactance e.kind then n ∷ numbers_from (n + 1) es else numbers_from (n + 1) es

numbers_behind : (whole rest : List Element) (n : ℕ) → ((i : ℕ) → slice_get whole (n + i) ≡ slice_get rest i)
    → filter (is_kind_at is_reactance whole) (range_with_len n (length rest)) ≡ numbers_from n rest
numbers_behind whole [] n same = refl
numbers_behind whole (e ∷ es) n same = by (is_reactance e.kind) refl (numbers_behind whole es (n + 1) (λ i. ap (slice_get whole) (let a : n + 1 + i ≡ n + suc i = omega arith in a) ∙ same (suc i)))
  where
    here : slice_get whole n ≡ Some e
    here = ap (slice_get whole) (let a : n ≡ n + 0 = omega arith in a) ∙ same 0

    by : (t : Bool) → is_reactance e.kind ≡ t → filter (is_kind_at is_reactance whole) (range_with_len (n + 1) (length es)) ≡ numbers_from (n + 1) es
        → filter (is_kind_at is_reactance whole) (range_with_len n (length (e ∷ es))) ≡ numbers_from n (e ∷ es)
    by true is more = cond-true _ _ _ (let a : is_kind_at is_reactance whole n ≡ true = rw here is in a) ∙ ap (λ (l : List ℕ). n ∷ l) more ∙ sym (cond-true _ _ _ is)
    by false is more = cond-false _ _ _ (let a : is_kind_at is_reactance whole n ≡ false = rw here is in a) ∙ more ∙ sym (cond-false _ _ _ is)

pub numbers_are : (elements : List Element) → numbers_where is_reactance elements ≡ numbers_from 0 elements
numbers_are elements = numbers_behind elements elements 0 (λ i. ap (slice_get elements) (zero-add i))

-- ---- the loop over the elements

-- a reactance is passed, or another element is
pub next_reactance : (elements : List Element) (i left : ℕ) (d : Element) → i < length elements → is_reactance (get_or elements i d).kind ≡ true → 0 < left
    → slice_get (numbers_from i (drop i elements)) left ≡ slice_get (numbers_from (i + 1) (drop (i + 1) elements)) (left - 1)
next_reactance elements i left d within is some =
    let one : left ≡ suc (left - 1) = omega arith in
    ap (λ (l : List Element). slice_get (numbers_from i l) left) (drop_more elements i d within)
    ∙ ap (λ (l : List ℕ). slice_get l left) (cond-true _ _ _ is)
    ∙ ap (slice_get (i ∷ numbers_from (i + 1) (drop (i + 1) elements))) one

pub next_other : (elements : List Element) (i left : ℕ) (d : Element) → i < length elements → is_reactance (get_or elements i d).kind ≡ false
    → slice_get (numbers_from i (drop i elements)) left ≡ slice_get (numbers_from (i + 1) (drop (i + 1) elements)) left
next_other elements i left d within other =
    ap (λ (l : List Element). slice_get (numbers_from i l) left) (drop_more elements i d within)
    ∙ ap (λ (l : List ℕ). slice_get l left) (cond-false _ _ _ other)

this_reactance : (elements : List Element) (i : ℕ) (d : Element) → i < length elements → is_reactance (get_or elements i d).kind ≡ true
    → slice_get (numbers_from i (drop i elements)) 0 ≡ Some i
this_reactance elements i d within is =
    ap (λ (l : List Element). slice_get (numbers_from i l) 0) (drop_more elements i d within)
    ∙ ap (λ (l : List ℕ). slice_get l 0) (cond-true _ _ _ is)

pub no_reactance : (elements : List Element) (i left : ℕ) → length elements ≤ i → slice_get (numbers_from i (drop i elements)) left ≡ None
no_reactance elements i left past = ap (λ (l : List Element). slice_get (numbers_from i l) left) (drop_all i elements past)

-- the element with this number is a reactance, and the one whose state is looked for
pub state_here : (elements : List Element) (i state : ℕ) (e : Element) → i < length elements → e ≡ get_or elements i e → is_reactance e.kind ≡ true
    → slice_get (numbers_from i (drop i elements)) 0 ≡ slice_get (numbers_from 0 elements) state → IsStateOf elements state e.name
state_here elements i state e within here is same = record {
  element = i;
  reactance =
      ap (λ l. slice_get l state) (numbers_are elements)
      ∙ (sym same ∙ this_reactance elements i e within (sym (ap (λ (x : Element). is_reactance x.kind) here) ∙ is));
  named = ap (option_map (λ (x : Element). x.name)) (slice_get-get_or elements i e within ∙ ap (λ x. Some x) (sym here));
}

-- behind the last element no state is left
pub no_state : (elements : List Element) (i left state : ℕ) → length elements ≤ i → state < length (numbers_where is_reactance elements)
    → slice_get (numbers_from i (drop i elements)) left ≡ slice_get (numbers_from 0 elements) state → ⊥
no_state elements i left state past there same =
    let none : slice_get (numbers_from 0 elements) state ≡ None = sym same ∙ no_reactance elements i left past in
    let some = slice_get-get_or (numbers_from 0 elements) state 0 (subst (λ l. state < length l) (numbers_are elements) there) in
    apart (sym some ∙ none)
  where
    apart : {x : ℕ} → Some x ≡ None → ⊥
    apart e = absurd (cc)
