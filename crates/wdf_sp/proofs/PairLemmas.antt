-- What the pair is that the rules of the reduction find.
use Rattle.std.proofs.Common.{◌≡◌, ℕ, zero, suc, ◌+◌, ◌<◌, Bool, true, false, if◌then◌else◌, List, [], ◌∷◌, length, Option, None, Some, ◌⊎◌, inl, inr, refl, ap, sym, ◌∙◌, arith}
use Rattle.std.specs.Option.{option_or, option_map}
use Rattle.std.proofs.lemmas.Option.{none-some, same_Some}
use Rattle.wdf_law.specs.declared.connection.Connection.{Connection}
use Rattle.wdf_law.specs.declared.connection.Connection.TheVariants.{Series, Parallel}
use Rattle.wdf_sp.specs.declared.merge.Merge.{Merge}
use Rattle.wdf_sp.specs.Reduction.{Arc, have_same_ends, are_in_series, arc_at, first_place, first_pair, next_merge}

-- a place in a list that begins with the place n
pub record IsPlace (test : Arc → Bool) (n : ℕ) (es : List Arc) (j : ℕ) : Type 0 where
  pub behind : ℕ
  pub is : j ≡ n + behind
  pub within : behind < length es
  pub passes : test (arc_at es behind) ≡ true

place_after : (test : Arc → Bool) (n : ℕ) (a : Arc) (es : List Arc) (j : ℕ) → IsPlace test (n + 1) es j → IsPlace test n (a ∷ es) j
place_after test n a es j w = record { behind = suc w.behind; is = omega (arith, w.is); within = omega (arith, w.within); passes = w.passes }

first_place_some : (test : Arc → Bool) (n : ℕ) (es : List Arc) (j : ℕ) → first_place test n es ≡ Some j → IsPlace test n es j
first_place_some test n [] j e = absurd (none-some j e)
first_place_some test n (a ∷ es) j e = by (test a) refl (λ h. place_after test n a es j (first_place_some test (n + 1) es j h)) e
  where
    by : (b : Bool) → test a ≡ b → (first_place test (n + 1) es ≡ Some j → IsPlace test n (a ∷ es) j)
        → (if b then Some n else first_place test (n + 1) es) ≡ Some j → IsPlace test n (a ∷ es) j
    by true t rest found = record { behind = 0; is = let same : n ≡ j = same_Some n j found in omega arith; within = omega arith; passes = t }
    by false t rest found = rest found

first_place_none : (test : Arc → Bool) (n : ℕ) (es : List Arc) → first_place test n es ≡ None → (k : ℕ) → k < length es → test (arc_at es k) ≡ false
first_place_none test n [] e k h = absurd (omega arith)
first_place_none test n (a ∷ es) e zero h = by (test a) refl e
  where
    by : (b : Bool) → test a ≡ b → (if b then Some n else first_place test (n + 1) es) ≡ None → test a ≡ false
    by true t found = absurd (none-some n (sym found))
    by false t found = t
first_place_none test n (a ∷ es) e (suc k) h = by (test a) (λ f. first_place_none test (n + 1) es f k (omega arith)) e
  where
    by : (b : Bool) → (first_place test (n + 1) es ≡ None → test (arc_at es k) ≡ false)
        → (if b then Some n else first_place test (n + 1) es) ≡ None → test (arc_at es k) ≡ false
    by true rest found = absurd (none-some n (sym found))
    by false rest found = rest found

-- a pair of places that passes, in a list that begins with the place n
record IsPairFrom (c : Connection) (test : Arc → Arc → Bool) (n : ℕ) (es : List Arc) (m : Merge) : Type 0 where
  how : m.connection ≡ c
  behind1 : ℕ
  behind2 : ℕ
  is1 : m.first ≡ n + behind1
  is2 : m.second ≡ n + behind2
  order : behind1 < behind2
  within : behind2 < length es
  passes : test (arc_at es behind1) (arc_at es behind2) ≡ true

first_pair_some : (c : Connection) (test : Arc → Arc → Bool) (n : ℕ) (es : List Arc) (m : Merge) → first_pair c test n es ≡ Some m → IsPairFrom c test n es m
first_pair_some c test n [] m e = absurd (none-some m e)
first_pair_some c test n (a ∷ es) m e =
    by (first_place (test a) (n + 1) es) (λ j f. first_place_some (test a) (n + 1) es j f) (λ f. first_pair_some c test (n + 1) es m f) e
  where
    by : (o : Option ℕ) → ((j : ℕ) → o ≡ Some j → IsPlace (test a) (n + 1) es j) → (first_pair c test (n + 1) es ≡ Some m → IsPairFrom c test (n + 1) es m)
        → option_or (option_map (λ (j : ℕ). record { connection = c; first = n; second = j }) o) (first_pair c test (n + 1) es) ≡ Some m → IsPairFrom c test n (a ∷ es) m
    by None here rest found =
        let w = rest found in
        record { how = w.how; behind1 = suc w.behind1; behind2 = suc w.behind2; is1 = omega (arith, w.is1); is2 = omega (arith, w.is2); order = omega (arith, w.order); within = omega (arith, w.within); passes = w.passes }
    by (Some j) here rest found =
        let w = here j refl in
        let same : record { connection = c; first = n; second = j } ≡ m = same_Some _ m found in
        record {
          how = ap (λ (x : Merge). x.connection) (sym same);
          behind1 = 0;
          behind2 = suc w.behind;
          is1 = let e1 : m.first ≡ n = ap (λ (x : Merge). x.first) (sym same) in omega arith;
          is2 = let e2 : m.second ≡ j = ap (λ (x : Merge). x.second) (sym same) in omega (arith, w.is);
          order = omega arith;
          within = omega (arith, w.within);
          passes = w.passes;
        }

first_pair_none : (c : Connection) (test : Arc → Arc → Bool) (n : ℕ) (es : List Arc) → first_pair c test n es ≡ None
    → (i j : ℕ) → i < j → j < length es → test (arc_at es i) (arc_at es j) ≡ false
first_pair_none c test n [] e i j below within = absurd (omega arith)
first_pair_none c test n (a ∷ es) e i zero below within = absurd (omega arith)
first_pair_none c test n (a ∷ es) e zero (suc j) below within =
    by (first_place (test a) (n + 1) es) (λ f. first_place_none (test a) (n + 1) es f j (omega arith)) e
  where
    by : (o : Option ℕ) → (o ≡ None → test a (arc_at es j) ≡ false)
        → option_or (option_map (λ (k : ℕ). record { connection = c; first = n; second = k }) o) (first_pair c test (n + 1) es) ≡ None → test a (arc_at es j) ≡ false
    by None here found = here refl
    by (Some k) here found = absurd (none-some _ (sym found))
first_pair_none c test n (a ∷ es) e (suc i) (suc j) below within =
    by (first_place (test a) (n + 1) es) (λ f. first_pair_none c test (n + 1) es f i j (omega arith) (omega arith)) e
  where
    by : (o : Option ℕ) → (first_pair c test (n + 1) es ≡ None → test (arc_at es i) (arc_at es j) ≡ false)
        → option_or (option_map (λ (k : ℕ). record { connection = c; first = n; second = k }) o) (first_pair c test (n + 1) es) ≡ None → test (arc_at es i) (arc_at es j) ≡ false
    by None rest found = rest found
    by (Some k) rest found = absurd (none-some _ (sym found))

-- ---- from place 0

pub record IsPair (c : Connection) (test : Arc → Arc → Bool) (es : List Arc) (m : Merge) : Type 0 where
  pub how : m.connection ≡ c
  pub order : m.first < m.second
  pub within : m.second < length es
  pub passes : test (arc_at es m.first) (arc_at es m.second) ≡ true

abbrev pub HasNoPair : (Arc → Arc → Bool) → List Arc → Type 0
HasNoPair test es = (i j : ℕ) → i < j → j < length es → test (arc_at es i) (arc_at es j) ≡ false

pair_at_start : (c : Connection) (test : Arc → Arc → Bool) (es : List Arc) (m : Merge) → IsPairFrom c test 0 es m → IsPair c test es m
pair_at_start c test es m w =
    let e1 : w.behind1 ≡ m.first = omega (arith, w.is1) in
    let e2 : w.behind2 ≡ m.second = omega (arith, w.is2) in
    record {
      how = w.how;
      order = omega (arith, w.order);
      within = omega (arith, w.within);
      passes = (λ i. test (arc_at es (sym e1 i)) (arc_at es (sym e2 i))) ∙ w.passes;
    }

-- the next merge is a pair in parallel, or a pair in series where none is in parallel
pub record IsSeriesPair (p q : ℕ) (es : List Arc) (m : Merge) : Type 0 where
  pub pair : IsPair Series (are_in_series p q es) es m
  pub none : HasNoPair have_same_ends es

pub next_merge_some : (p q : ℕ) (es : List Arc) (m : Merge) → next_merge p q es ≡ Some m → IsPair Parallel have_same_ends es m ⊎ IsSeriesPair p q es m
next_merge_some p q es m e =
    by (first_pair Parallel have_same_ends 0 es) (λ n f. pair_at_start Parallel have_same_ends es n (first_pair_some Parallel have_same_ends 0 es n f))
    (λ f. first_pair_none Parallel have_same_ends 0 es f) e
  where
    by : (o : Option Merge) → ((n : Merge) → o ≡ Some n → IsPair Parallel have_same_ends es n) → (o ≡ None → HasNoPair have_same_ends es)
        → option_or o (first_pair Series (are_in_series p q es) 0 es) ≡ Some m → IsPair Parallel have_same_ends es m ⊎ IsSeriesPair p q es m
    by None pair none found =
        inr (record { pair = pair_at_start Series (are_in_series p q es) es m (first_pair_some Series (are_in_series p q es) 0 es m found); none = none refl })
    by (Some n) pair none found = inl (pair m found)

pub next_merge-order : (p q : ℕ) (es : List Arc) (m : Merge) → next_merge p q es ≡ Some m → (m.first < m.second) × (m.second < length es)
next_merge-order p q es m e = by (next_merge_some p q es m e)
  where
    by : IsPair Parallel have_same_ends es m ⊎ IsSeriesPair p q es m → (m.first < m.second) × (m.second < length es)
    by (inl w) = (w.order, w.within)
    by (inr w) = (w.pair.order, w.pair.within)
