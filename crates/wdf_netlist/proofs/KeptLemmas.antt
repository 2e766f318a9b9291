-- A part that may be added keeps the rules.
use Rattle.std.proofs.Common.{◌≡◌, ◌≢◌, ℕ, zero, suc, ◌+◌, ◌≤◌, Bool, true, false, cond, ◌&&◌, leb, List, [], ◌∷◌, ◌++◌, length, Some, None, refl, sym, ap, ◌∙◌, ◌⊎◌, inl, inr, arith, length-append}
use Rattle.std.specs.Prelude.{IsTrue, bytes_eq, slice_get}
use Rattle.std.proofs.lemmas.Bool.{cond-true, cond-false, false≢true, leb-false}
use Rattle.std.proofs.lemmas.List.{map-append}
use Rattle.std.proofs.lemmas.List.Elements.{All-push}
use Rattle.std.proofs.lemmas.List.Sums.{sum_by_push}
use Rattle.wdf_text.specs.DecimalNumber.{DecimalNumber}
use Rattle.wdf_text.specs.Names.{IsName, is_name_or_at_sign}
use Rattle.wdf_law.specs.Network.{is_source, is_reactance}
use Rattle.wdf_law.specs.declared.kind.Kind.{Kind}
use Rattle.wdf_law.specs.declared.TheConstants.{MAX_SOURCES}
use Rattle.wdf_netlist.specs.declared.TheConstants.{MAX_ELEMENTS, MAX_REACTANCES}
use Rattle.wdf_netlist.specs.declared.net_kind.NetKind.TheVariants as kinds
use Rattle.wdf_netlist.specs.declared.part.Part.{Part}
use Rattle.wdf_netlist.specs.Circuits.{AreDistinct, IsElementValue}
use Rattle.wdf_netlist.specs.Kept.{AreOfForm, IsNextPart, KeepsParts}
use Rattle.wdf_netlist.specs.LineRules.{count_fault, count_parts, is_taken}
use Rattle.wdf_netlist.specs.Statements.{names_of}
use Rattle.wdf_netlist.proofs.NameLemmas.{same_bytes}

-- an element of a longer list is one of the list, or the new one
pushed_at : {A : Type 0} (xs : List A) (x y : A) (i : ℕ) → slice_get (xs ++ x ∷ []) i ≡ Some y → (slice_get xs i ≡ Some y) ⊎ ((i ≡ length xs) × (x ≡ y))
pushed_at [] x y zero e = inr (refl, cc)
pushed_at [] x y (suc i) e = absurd (cc)
pushed_at (z ∷ xs) x y zero e = inl e
pushed_at (z ∷ xs) x y (suc i) e =
    elim (pushed_at xs x y i e) [ inl h ↦ inl h | inr h ↦ inr (ap (λ (n : ℕ). suc n) h.0, h.1) ]

-- a name that is there is taken
pub taken_at : (names : List (List ℕ)) (name : List ℕ) (i : ℕ) → slice_get names i ≡ Some name → is_taken names name ≡ true
taken_at [] name i e = absurd (cc)
taken_at (x ∷ xs) name zero e = let same : x ≡ name = cc in rw (same, same_bytes name) refl
taken_at (x ∷ xs) name (suc i) e = by (bytes_eq name x) refl (taken_at xs name i e)
  where
    by : (t : Bool) → bytes_eq name x ≡ t → is_taken xs name ≡ true → is_taken (x ∷ xs) name ≡ true
    by true h more = rw h refl
    by false h more = rw h more

pub distinct_more : (names : List (List ℕ)) (name : List ℕ) → AreDistinct names → is_taken names name ≡ false → AreDistinct (names ++ name ∷ [])
distinct_more names name distinct new i j x a b =
    elim (pushed_at names name x i a) [
      | inl h ↦ elim (pushed_at names name x j b) [
        | inl g ↦ distinct i j x h g
        | inr g ↦ absurd (false≢true (sym new ∙ taken_at names name i (h ∙ ap (λ (n : List ℕ). Some n) (sym g.1))))
      ]
      | inr h ↦ elim (pushed_at names name x j b) [
        | inl g ↦ absurd (false≢true (sym new ∙ taken_at names name j (g ∙ ap (λ (n : List ℕ). Some n) (sym h.1))))
        | inr g ↦ h.0 ∙ sym g.0
      ]
    ]

-- ---- the counts

pub record HasRoom (parts : List Part) (kind : Kind) : Type 0 where
  pub elements : leb MAX_ELEMENTS (length parts) ≡ false
  pub reactances : (is_reactance kind && leb MAX_REACTANCES (count_parts is_reactance parts)) ≡ false
  pub sources : (is_source kind && leb MAX_SOURCES (count_parts is_source parts)) ≡ false

has_room : (parts : List Part) (kind : Kind) → count_fault parts kind ≡ None → HasRoom parts kind
has_room parts kind none =
    by (leb MAX_ELEMENTS (length parts)) (is_reactance kind && leb MAX_REACTANCES (count_parts is_reactance parts)) (is_source kind && leb MAX_SOURCES (count_parts is_source parts)) refl refl refl
  where
    by : (t u v : Bool) → leb MAX_ELEMENTS (length parts) ≡ t → (is_reactance kind && leb MAX_REACTANCES (count_parts is_reactance parts)) ≡ u
        → (is_source kind && leb MAX_SOURCES (count_parts is_source parts)) ≡ v → HasRoom parts kind
    by true u v a b c = let f : count_fault parts kind ≡ Some kinds.TooManyElements = rw a refl in absurd (let g : None ≡ Some kinds.TooManyElements = sym none ∙ f in cc)
    by false true v a b c = let f : count_fault parts kind ≡ Some kinds.TooManyStates = rw (a, b) refl in absurd (let g : None ≡ Some kinds.TooManyStates = sym none ∙ f in cc)
    by false false true a b c = let f : count_fault parts kind ≡ Some kinds.TooManyInputs = rw (a, b, c) refl in absurd (let g : None ≡ Some kinds.TooManyInputs = sym none ∙ f in cc)
    by false false false a b c = record { elements = a; reactances = b; sources = c }

counted_more : (test : Kind → Bool) (parts : List Part) (p : Part) (most : ℕ) → count_parts test parts ≤ most → (test p.kind && leb most (count_parts test parts)) ≡ false
    → count_parts test (parts ++ p ∷ []) ≤ most
counted_more test parts p most few room = by (test p.kind) refl
  where
    count : count_parts test (parts ++ p ∷ []) ≡ count_parts test parts + cond (test p.kind) 1 0
    count = sum_by_push (λ (q : Part). cond (test q.kind) 1 0) parts p

    by : (t : Bool) → test p.kind ≡ t → count_parts test (parts ++ p ∷ []) ≤ most
    by true e =
        let none : leb most (count_parts test parts) ≡ false = sym (let h : (test p.kind && leb most (count_parts test parts)) ≡ leb most (count_parts test parts) = rw e refl in h) ∙ room in
        omega (arith, count, cond-true {A = ℕ} (test p.kind) 1 0 e, leb-false _ _ none)
    by false e = omega (arith, count, cond-false {A = ℕ} (test p.kind) 1 0 e)

pub kept_more : (parts : List Part) (p : Part) → KeepsParts parts → IsNextPart parts p → KeepsParts (parts ++ p ∷ [])
kept_more parts p k n =
    let room = has_room parts p.kind n.room in
    record {
      most = omega (arith, length-append parts (p ∷ []), leb-false _ _ room.elements);
      most_reactances = counted_more is_reactance parts p MAX_REACTANCES k.most_reactances room.reactances;
      most_sources = counted_more is_source parts p MAX_SOURCES k.most_sources room.sources;
      named = All-push (λ (q : Part). IsTrue (is_name_or_at_sign q.name)) parts p k.named n.named;
      distinct = rw (map-append (λ (q : Part). q.name) parts (p ∷ [])) (distinct_more (names_of parts) p.name k.distinct n.new);
      ends_differ = All-push (λ (q : Part). q.from ≢ q.to) parts p k.ends_differ n.ends_differ;
      from_named = All-push (λ (q : Part). IsName q.from) parts p k.from_named n.from_named;
      to_named = All-push (λ (q : Part). IsName q.to) parts p k.to_named n.to_named;
      values = All-push (λ (q : Part). IsElementValue q.value) parts p k.values n.value;
    }

pub kept_none : KeepsParts []
kept_none = record {
  most = omega arith;
  most_reactances = omega arith;
  most_sources = omega arith;
  named = λ k d within. absurd (omega arith);
  distinct = λ i j x a b. absurd (cc);
  ends_differ = λ k d within. absurd (omega arith);
  from_named = λ k d within. absurd (omega arith);
  to_named = λ k d within. absurd (omega arith);
  values = λ k d within. absurd (omega arith);
}

-- an element of a ladder
pub of_ladder : (parts : List Part) (p : Part) → AreOfForm None parts → IsName p.name → AreOfForm None (parts ++ p ∷ [])
of_ladder parts p all named = All-push (λ (q : Part). IsName q.name) parts p all named

-- an element of a branch
pub of_branch : (v : DecimalNumber) (parts : List Part) (p : Part) → AreOfForm (Some v) parts → parts ≢ [] → IsName p.name → is_source p.kind ≡ false → AreOfForm (Some v) (parts ++ p ∷ [])
of_branch v [] p form some named other = absurd (some refl)
of_branch v (s ∷ ps) p (source, (names, others)) some named other =
    (source, (All-push (λ (q : Part). IsName q.name) ps p names named, All-push (λ (q : Part). is_source q.kind ≡ false) ps p others other))
