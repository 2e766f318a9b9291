-- The numbers of the sources among the elements.
use Rattle.std.proofs.Common.{◌≡◌, ◌≢◌, ℕ, zero, suc, ◌+◌, ◌-◌, ◌<◌, ◌≤◌, Bool, true, false, cond, List, [], ◌∷◌, length, get_or, drop, Option, Some, None, refl, sym, ap, ◌∙◌, subst, arith, zero-add}
use Rattle.std.specs.Prelude.{All, IsSome, filter, slice_get, if◌then◌else◌}
use Rattle.std.specs.List.{range_with_len}
use Rattle.std.proofs.lemmas.List.{drop_all, drop_more}
use Rattle.std.proofs.lemmas.List.Sums.{sum_by-cons}
use Rattle.std.proofs.lemmas.Bool.{cond-true, cond-false, false≢true}
use Rattle.std.proofs.lemmas.Option.{get_or_from_slice_get, slice_get_within}
use Rattle.wdf_law.specs.Network.{is_source}
use Rattle.wdf_law.specs.declared.kind.Kind.{Kind}
use Rattle.wdf_law.specs.declared.kind.Kind.TheVariants.{Res, Cap, Ind, Src}
use Rattle.wdf_netlist.specs.declared.element.Element.{Element}
use Rattle.wdf_netlist.specs.Circuits.{IsSourceAt, count_kind, is_kind_at, numbers_where, sources}

-- the numbers of the elements of such a kind, the first of which has the number n
abbrev pub numbers_from : (Kind → Bool) → ℕ → List Element → List ℕ
numbers_from test n [] = []
numbers_from test n (e ∷ es) = if test e.kind then n ∷ numbers_from test (n + 1) es else numbers_from test (n + 1) es

numbers_behind : (test : Kind → Bool) (whole rest : List Element) (n : ℕ) → ((i : ℕ) → slice_get whole (n + i) ≡ slice_get rest i)
    → filter (is_kind_at test whole) (range_with_len n (length rest)) ≡ numbers_from test n rest
numbers_behind test whole [] n same = refl
numbers_behind test whole (e ∷ es) n same = by (test e.kind) refl (numbers_behind test whole es (n + 1) (λ i. ap (slice_get whole) (let a : n + 1 + i ≡ n + suc i = omega arith in a) ∙ same (suc i)))
  where
    here : slice_get whole n ≡ Some e
    here = ap (slice_get whole) (let a : n ≡ n + 0 = omega arith in a) ∙ same 0

    by : (t : Bool) → test e.kind ≡ t → filter (is_kind_at test whole) (range_with_len (n + 1) (length es)) ≡ numbers_from test (n + 1) es
        → filter (is_kind_at test whole) (range_with_len n (length (e ∷ es))) ≡ numbers_from test n (e ∷ es)
    by true is more = cond-true _ _ _ (let a : is_kind_at test whole n ≡ true = rw here is in a) ∙ ap (λ (l : List ℕ). n ∷ l) more ∙ sym (cond-true _ _ _ is)
    by false is more = cond-false _ _ _ (let a : is_kind_at test whole n ≡ false = rw here is in a) ∙ more ∙ sym (cond-false _ _ _ is)

pub numbers_are : (test : Kind → Bool) (elements : List Element) → numbers_where test elements ≡ numbers_from test 0 elements
numbers_are test elements = numbers_behind test elements elements 0 (λ i. ap (slice_get elements) (zero-add i))

length_from : (test : Kind → Bool) (n : ℕ) (elements : List Element) → length (numbers_from test n elements) ≡ count_kind test elements
length_from test n [] = refl
length_from test n (e ∷ es) = by (test e.kind) refl (length_from test (n + 1) es)
  where
    count_more : count_kind test (e ∷ es) ≡ cond (test e.kind) 1 0 + count_kind test es
    count_more = sum_by-cons (λ (x : Element). cond (test x.kind) 1 0) e es

    by : (t : Bool) → test e.kind ≡ t → length (numbers_from test (n + 1) es) ≡ count_kind test es → length (numbers_from test n (e ∷ es)) ≡ count_kind test (e ∷ es)
    by true is more = omega (arith, ap (length {A = ℕ}) (cond-true (test e.kind) (n ∷ numbers_from test (n + 1) es) (numbers_from test (n + 1) es) is), more, count_more, cond-true {A = ℕ} (test e.kind) 1 0 is)
    by false is more = omega (arith, ap (length {A = ℕ}) (cond-false (test e.kind) (n ∷ numbers_from test (n + 1) es) (numbers_from test (n + 1) es) is), more, count_more, cond-false {A = ℕ} (test e.kind) 1 0 is)

pub length_numbers : (test : Kind → Bool) (elements : List Element) → length (numbers_where test elements) ≡ count_kind test elements
length_numbers test elements = ap (length {A = ℕ}) (numbers_are test elements) ∙ length_from test 0 elements

-- what a filter keeps passes its test
kept : (p : ℕ → Bool) (xs : List ℕ) (i x : ℕ) → slice_get (filter p xs) i ≡ Some x → p x ≡ true
kept p [] i x e = absurd (cc)
kept p (y ∷ ys) i x e = by (p y) refl (λ j. kept p ys j x) i e
  where
    by : (t : Bool) → p y ≡ t → ((j : ℕ) → slice_get (filter p ys) j ≡ Some x → p x ≡ true) → (j : ℕ) → slice_get (filter p (y ∷ ys)) j ≡ Some x → p x ≡ true
    by true is more zero f = let g : Some y ≡ Some x = sym (ap (λ (l : List ℕ). slice_get l 0) (cond-true _ _ _ is)) ∙ f in let h : y ≡ x = cc in ap p (sym h) ∙ is
    by true is more (suc j) f = more j (sym (ap (λ (l : List ℕ). slice_get l (suc j)) (cond-true _ _ _ is)) ∙ f)
    by false is more j f = more j (sym (ap (λ (l : List ℕ). slice_get l j) (cond-false _ _ _ is)) ∙ f)

is_src : (k : Kind) → is_source k ≡ true → k ≡ Src
is_src Res h = absurd (cc)
is_src Cap h = absurd (cc)
is_src Ind h = absurd (cc)
is_src Src h = refl

source_is : (elements : List Element) (i : ℕ) → All (λ (e : Element). e.from ≢ e.to) elements → is_kind_at is_source elements i ≡ true → IsSourceAt elements i
source_is elements i differ is = by (slice_get elements i) refl
  where
    by : (o : Option Element) → slice_get elements i ≡ o → IsSourceAt elements i
    by None e = let a : false ≡ true = sym (let b : is_kind_at is_source elements i ≡ false = rw e refl in b) ∙ is in absurd (false≢true a)
    by (Some x) e =
        let source : is_source x.kind ≡ true = sym (let b : is_kind_at is_source elements i ≡ is_source x.kind = rw e refl in b) ∙ is in
        let there : get_or elements i x ≡ x = get_or_from_slice_get elements i x x e in
        let P : Element → Type 0 = λ (y : Element). y.from ≢ y.to in
        record {
          within = slice_get_within elements i x e;
          element = x;
          there = e;
          source = is_src x.kind source;
          ends_differ = subst P there (differ i x (slice_get_within elements i x e));
        }

pub source_at : (elements : List Element) (n i : ℕ) → All (λ (e : Element). e.from ≢ e.to) elements → slice_get (sources elements) n ≡ Some i → IsSourceAt elements i
source_at elements n i differ at = source_is elements i differ (kept (is_kind_at is_source elements) (range_with_len 0 (length elements)) n i at)

-- some number is there where a source is counted
pub first_source : (elements : List Element) → 1 ≤ count_kind is_source elements → IsSome (slice_get (sources elements) 0)
first_source elements some = by (sources elements) refl
  where
    by : (l : List ℕ) → sources elements ≡ l → IsSome (slice_get (sources elements) 0)
    by [] e = let few : 0 ≡ count_kind is_source elements = sym (ap (length {A = ℕ}) e) ∙ length_numbers is_source elements in absurd (omega arith)
    by (x ∷ xs) e = rw e refl

-- ---- the loop over the elements

-- a source is passed, or another element is
pub next_source : (elements : List Element) (i left : ℕ) (d : Element) → i < length elements → is_source (get_or elements i d).kind ≡ true → 0 < left
    → slice_get (numbers_from is_source i (drop i elements)) left ≡ slice_get (numbers_from is_source (i + 1) (drop (i + 1) elements)) (left - 1)
next_source elements i left d within is some =
    let one : left ≡ suc (left - 1) = omega arith in
    ap (λ (l : List Element). slice_get (numbers_from is_source i l) left) (drop_more elements i d within)
    ∙ ap (λ (l : List ℕ). slice_get l left) (cond-true _ _ _ is)
    ∙ ap (slice_get (i ∷ numbers_from is_source (i + 1) (drop (i + 1) elements))) one

pub next_other : (elements : List Element) (i left : ℕ) (d : Element) → i < length elements → is_source (get_or elements i d).kind ≡ false
    → slice_get (numbers_from is_source i (drop i elements)) left ≡ slice_get (numbers_from is_source (i + 1) (drop (i + 1) elements)) left
next_other elements i left d within other =
    ap (λ (l : List Element). slice_get (numbers_from is_source i l) left) (drop_more elements i d within)
    ∙ ap (λ (l : List ℕ). slice_get l left) (cond-false _ _ _ other)

pub this_source : (elements : List Element) (i : ℕ) (d : Element) → i < length elements → is_source (get_or elements i d).kind ≡ true
    → slice_get (numbers_from is_source i (drop i elements)) 0 ≡ Some i
this_source elements i d within is =
    ap (λ (l : List Element). slice_get (numbers_from is_source i l) 0) (drop_more elements i d within)
    ∙ ap (λ (l : List ℕ). slice_get l 0) (cond-true _ _ _ is)

pub no_source : (elements : List Element) (i left : ℕ) → length elements ≤ i → slice_get (numbers_from is_source i (drop i elements)) left ≡ None
no_source elements i left past = ap (λ (l : List Element). slice_get (numbers_from is_source i l) left) (drop_all i elements past)
