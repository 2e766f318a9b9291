-- A matrix has one elimination.
use Rattle.std.proofs.Common.{◌≡◌, ℕ, zero, suc, ◌+◌, ◌-◌, ◌*◌, ◌%◌, ◌<◌, ◌≤◌, List, [], ◌∷◌, ◌++◌, length, map, take, drop, get_or, refl, sym, ap, ◌∙◌, subst, arith}
use Rattle.std.specs.Prelude.{All, AllPairs, Contains}
use Rattle.std.proofs.lemmas.List.{length-map, get_or-map, get_or_past, get_or-take, take-map, take-append-drop, drop-drop, length-take-le, length-drop}
use Rattle.std.proofs.lemmas.List.Elements.{All-get_or, All-from_get_or, All-take, All-drop, All-contains}
use Rattle.std.proofs.lemmas.Bool.{cases_lt, cases_eq, cases_order}
use mathlib.Core.Logic.{◌⊎◌, inl, inr}
use lib.IntN.{ℤ, pos, negsuc, ◌+ℤ◌, ◌-ℤ◌, ◌*ℤ◌, *ℤ_comm}
use Rattle.wdf_algebra.proofs.RingLaws.{zero-mul}
use Rattle.wdf_algebra.proofs.Polynomials.{con, var, ◌⊕◌, ◌⊖◌, ◌⊗◌}
use Rattle.wdf_algebra.proofs.Congruences.{congruence, residue-residue, residue-below}
use Rattle.wdf_residue.specs.Residue.{prime, residue, dot, AreResidues}
use Rattle.wdf_residue.specs.Matrix.{Entries, IsRow, AreRows, entry, entry_at, column_of, written_row}
use Rattle.wdf_residue.specs.Elimination.{IsCombination, AreFirstIndependent, IsDependence, IsFirstDependence, IsInverse}
use Rattle.wdf_residue.specs.Laws.{IsInverseOf, IsOneElimination}
use Rattle.wdf_residue.specs.Solving.{column}
use Rattle.wdf_residue.specs.Vectors.{scaled_by, less}
use Rattle.wdf_residue.proofs.Powers.{prime-pos}
use Rattle.wdf_residue.proofs.Inverses.{has_inverse}
use Rattle.wdf_residue.proofs.Totals.{total, total-nought, total-equal, total-congruent, total-join, total-more, total-times}
use Rattle.wdf_residue.proofs.Splits.{along}
use Rattle.wdf_residue.proofs.VectorLemmas.{vec, dot-same, entry-lt, entry-less, length-less, less-residues, scaled-row, entry-scaled, along-scaled}
use Rattle.wdf_residue.proofs.Eliminations.{has_elimination}
use Rattle.wdf_residue.proofs.LeftInverses.{sees_each, weighed-total}

-- ---- lists

same_entries : (xs ys : List ℕ) → length xs ≡ length ys → ((j : ℕ) → j < length xs → entry xs j ≡ entry ys j) → xs ≡ ys
same_entries [] [] long same = refl
same_entries [] (y ∷ ys) long same = absurd (omega arith)
same_entries (x ∷ xs) [] long same = absurd (omega arith)
same_entries (x ∷ xs) (y ∷ ys) long same =
    let first : x ≡ y = same 0 (omega arith) in
    let rest = same_entries xs ys (omega arith) (λ j h. same (suc j) (omega arith)) in
    λ i. first i ∷ rest i

-- matrices that are written row by row, with the same rows
same_rows : (n rows : ℕ) (xs ys : List ℕ) → length xs ≡ rows * n → length ys ≡ rows * n → ((i : ℕ) → i < rows → written_row n xs i ≡ written_row n ys i) → xs ≡ ys
same_rows n zero [] [] long long' same = refl
same_rows n zero [] (y ∷ ys) long long' same = absurd (omega arith)
same_rows n zero (x ∷ xs) ys long long' same = absurd (omega arith)
same_rows n (suc rows) xs ys long long' same =
    let whole : suc rows * n ≡ n + rows * n = omega arith in
    let nought : 0 * n ≡ 0 = omega arith in
    let first : take n xs ≡ take n ys =
    sym (ap (λ (k : ℕ). take n (drop k xs)) nought) ∙ (same 0 (omega arith) ∙ ap (λ (k : ℕ). take n (drop k ys)) nought) in
    let size = length-drop n xs in
    let size' = length-drop n ys in
    let rest = same_rows n rows (drop n xs) (drop n ys) (omega arith) (omega arith) (λ i h.
    let next : n + i * n ≡ suc i * n = omega arith in
    ap (take n) (drop-drop (i * n) n xs ∙ ap (λ (k : ℕ). drop k xs) next)
    ∙ (same (suc i) (omega arith) ∙ sym (ap (take n) (drop-drop (i * n) n ys ∙ ap (λ (k : ℕ). drop k ys) next)))) in
    sym (take-append-drop n xs) ∙ ((λ i. first i ++ rest i) ∙ take-append-drop n ys)

-- all entries are 0 where there is no last one that is not
all_zero : (d : List ℕ) (k : ℕ) → ((j : ℕ) → k ≤ j → entry d j ≡ 0) → ((j : ℕ) → j < k → 0 < entry d j → ((i : ℕ) → j < i → entry d i ≡ 0) → ⊥)
    → (j : ℕ) → entry d j ≡ 0
all_zero d zero behind last = λ j. behind j (omega arith)
all_zero d (suc k) behind last = all_zero d k from (λ j h. last j (omega arith))
  where
    here : (x : ℕ) → entry d k ≡ x → entry d k ≡ 0
    here zero e = e
    here (suc x) e = absurd (last k (omega arith) (omega arith) (λ i h. behind i (omega arith)))

    from : (j : ℕ) → k ≤ j → entry d j ≡ 0
    from j h = elim (cases_eq k j) [
      | inl at ↦ ap (entry d) (sym at) ∙ here (entry d k) refl
      | inr other ↦ behind j (omega arith)
    ]

-- ---- differences of rows

same_from_difference : (a b : ℕ) → a < prime → b < prime → residue (pos a -ℤ pos 1 *ℤ pos b) ≡ 0 → a ≡ b
same_from_difference a b small small' h =
    let A = var 0 in
    let B = var 1 in
    sym (residue-below prime a small)
    ∙ (congruence prime (pos a ∷ pos b ∷ []) A B (record { by = con (pos 1); left = A ⊖ con (pos 1) ⊗ B; right = con (pos 0) } ∷ []) prime-pos (h, tt) refl
    ∙ residue-below prime b small')

along_difference : (n : ℕ) (o : ℕ → ℤ) (v w : List ℕ) → length v ≡ n → length w ≡ n
    → residue (along n o (vec (less 1 v w))) ≡ residue (along n o (vec v) +ℤ negsuc 0 *ℤ along n o (vec w))
along_difference n o v w long long' =
    total-congruent prime n (λ j. o j *ℤ vec (less 1 v w) j) (λ j. o j *ℤ vec v j +ℤ negsuc 0 *ℤ (o j *ℤ vec w j)) prime-pos
    (λ j l.
    let O = var 0 in
    let V = var 1 in
    let W = var 2 in
    let D = var 3 in
    let fact : residue (vec (less 1 v w) j) ≡ residue (vec v j -ℤ pos 1 *ℤ vec w j) =
    ap (λ (x : ℕ). residue (pos x)) (entry-less 1 v w j (omega arith) (omega arith)) ∙ residue-residue prime (vec v j -ℤ pos 1 *ℤ vec w j) prime-pos in
    congruence prime (o j ∷ vec v j ∷ vec w j ∷ vec (less 1 v w) j ∷ []) (O ⊗ D) (O ⊗ V ⊕ con (negsuc 0) ⊗ (O ⊗ W))
    (record { by = O; left = D; right = V ⊖ con (pos 1) ⊗ W } ∷ []) prime-pos (fact, tt) refl)
    ∙ ap residue (total-join n (negsuc 0) (λ j. o j *ℤ vec v j) (λ j. o j *ℤ vec w j))

-- where two rows have the same product, their difference has none
difference_unseen : (n : ℕ) (o : ℕ → ℤ) (v w : List ℕ) → length v ≡ n → length w ≡ n → residue (along n o (vec v)) ≡ residue (along n o (vec w))
    → residue (along n o (vec (less 1 v w))) ≡ 0
difference_unseen n o v w long long' same =
    let A = var 0 in
    let B = var 1 in
    along_difference n o v w long long'
    ∙ congruence prime (along n o (vec v) ∷ along n o (vec w) ∷ []) (A ⊕ con (negsuc 0) ⊗ B) (con (pos 0))
    (record { by = con (pos 1); left = A; right = B } ∷ []) prime-pos (same, tt) refl

difference_row : (n : ℕ) (v w : List ℕ) → IsRow n v → IsRow n w → IsRow n (less 1 v w)
difference_row n v w hv hw = record { count = length-less 1 v w (hv.count ∙ sym hw.count) ∙ hv.count; residues = less-residues 1 v w }

-- rows whose difference is 0 are equal
equal_rows : (n : ℕ) (v w : List ℕ) → IsRow n v → IsRow n w → ((j : ℕ) → entry (less 1 v w) j ≡ 0) → v ≡ w
equal_rows n v w hv hw none =
    let long = hv.count in
    let long' = hw.count in
    same_entries v w (omega arith)
    (λ j h. same_from_difference (entry v j) (entry w j) (entry-lt v j hv.residues) (entry-lt w j hw.residues)
    (sym (entry-less 1 v w j (omega arith) h) ∙ none j))

-- ---- the first dependence

-- a row that no row of the matrix sees, with a last entry that is not 0, is a dependence when it is scaled
scaled_dependence : (m : Entries) (j : ℕ) (d : List ℕ) → IsRow m.columns d → j < m.columns → 0 < entry d j → ((i : ℕ) → j < i → entry d i ≡ 0)
    → All (λ (row : List ℕ). dot row d % prime ≡ 0) m.rows → (u : List ℕ) × IsDependence m j u
scaled_dependence m j d row place some behind none =
    let h = has_inverse (entry d j) some (entry-lt d j row.residues) in
    let nought : 0 * h.0 ≡ 0 = omega arith in
    let long = row.count in
    let size = (scaled-row m.columns h.0 d row).count in (
      scaled_by h.0 d,
      record {
        row = scaled-row m.columns h.0 d row;
        place = place;
        one = entry-scaled h.0 d j ∙ h.1.product;
        behind = λ i l. entry-scaled h.0 d i ∙ (ap (λ (x : ℕ). (x * h.0) % prime) (behind i l) ∙ ap (λ (x : ℕ). x % prime) nought);
        none = λ k e l.
            let o = get_or m.rows k e in
            let H = var 0 in
            let A = var 1 in
            dot-same m.columns o (scaled_by h.0 d) (omega arith)
            ∙ (along-scaled m.columns h.0 (vec o) d
            ∙ congruence prime (pos h.0 ∷ along m.columns (vec o) (vec d) ∷ []) (H ⊗ A) (con (pos 0))
            (record { by = H; left = A; right = con (pos 0) } ∷ []) prime-pos (sym (dot-same m.columns o d (omega arith)) ∙ none k e l, tt) refl);
      },
    )

one_vector : (m : Entries) (f : ℕ) (v w : List ℕ) → IsFirstDependence m f v → IsFirstDependence m f w → v ≡ w
one_vector m f v w hv hw = equal_rows m.columns v w a.row b.row (all_zero (less 1 v w) f behind last)
  where
    a : IsDependence m f v
    a = hv.dependence

    b : IsDependence m f w
    b = hw.dependence

    row : IsRow m.columns (less 1 v w)
    row = difference_row m.columns v w a.row b.row

    none : All (λ (o : List ℕ). dot o (less 1 v w) % prime ≡ 0) m.rows
    none k e l =
        let o = get_or m.rows k e in
        let size = row.count in
        let long = a.row.count in
        let long' = b.row.count in
        dot-same m.columns o (less 1 v w) (omega arith)
        ∙ difference_unseen m.columns (vec o) v w long long'
        (sym (dot-same m.columns o v (omega arith)) ∙ (a.none k e l ∙ (sym (b.none k e l) ∙ dot-same m.columns o w (omega arith))))

    behind : (j : ℕ) → f ≤ j → entry (less 1 v w) j ≡ 0
    behind j h =
        let long = a.row.count in
        let long' = b.row.count in
        let size = row.count in
        elim (cases_lt j m.columns) [
          | inl within ↦ entry-less 1 v w j (omega arith) (omega arith) ∙ elim (cases_eq f j) [
            | inl at ↦
                let one : entry v j ≡ 1 = ap (entry v) (sym at) ∙ a.one in
                let one' : entry w j ≡ 1 = ap (entry w) (sym at) ∙ b.one in
                λ i. residue (pos (one i) -ℤ pos 1 *ℤ pos (one' i))
            | inr other ↦
                let z : entry v j ≡ 0 = a.behind j (omega arith) in
                let z' : entry w j ≡ 0 = b.behind j (omega arith) in
                λ i. residue (pos (z i) -ℤ pos 1 *ℤ pos (z' i))
          ]
          | inr past ↦ get_or_past (less 1 v w) j 0 (omega arith)
        ]

    last : (j : ℕ) → j < f → 0 < entry (less 1 v w) j → ((i : ℕ) → j < i → entry (less 1 v w) i ≡ 0) → ⊥
    last j before some zeros =
        let place = a.place in
        let found = scaled_dependence m j (less 1 v w) row (omega arith) some zeros none in
        hv.first j found.0 before found.1

one_dependence : (m : Entries) (f g : ℕ) (v w : List ℕ) → IsFirstDependence m f v → IsFirstDependence m g w → (f ≡ g) × (v ≡ w)
one_dependence m f g v w hv hw = elim (cases_order f g) [
  | inl same ↦ (same, one_vector m f v w hv (subst (λ k. IsFirstDependence m k w) (sym same) hw))
  | inr apart ↦ elim apart [
    | inl before ↦ absurd (hw.first f v before hv.dependence)
    | inr after ↦ absurd (hv.first g w after hw.dependence)
  ]
]

-- ---- the first independent rows

abbrev Rising : List ℕ → Type 0
Rising xs = AllPairs (λ (a b : ℕ). a < b) xs

rising_tail : (x : ℕ) (xs : List ℕ) → Rising (x ∷ xs) → Rising xs
rising_tail x xs h i j d less within = h (suc i) (suc j) d (omega arith) (omega arith)

-- the others of a rising list are above its first
above_first : (x : ℕ) (xs : List ℕ) (y : ℕ) → Rising (x ∷ xs) → Contains xs y → x < y
above_first x xs y h at =
    let less : x < get_or xs at.0 y = h 0 (suc at.0) y (omega arith) (let a = at.1 in omega arith) in
    subst (λ z. x < z) at.2 less

later : (x : ℕ) (xs : List ℕ) (y : ℕ) → Contains xs y → Contains (x ∷ xs) y
later x xs y at = (suc at.0, (let a = at.1 in omega arith), at.2)

first_or_later : (x : ℕ) (xs : List ℕ) (y : ℕ) → Contains (x ∷ xs) y → (x ≡ y) ⊎ Contains xs y
first_or_later x xs y (zero, within, same) = inl same
first_or_later x xs y (suc k, within, same) = inr (k, omega arith, same)

nothing : (y : ℕ) → Contains [] y → ⊥
nothing y at = let a = at.1 in absurd (omega arith)

-- two rising lists of the same numbers are equal
same_rising : (xs ys : List ℕ) → Rising xs → Rising ys → ((r : ℕ) → Contains xs r → Contains ys r) → ((r : ℕ) → Contains ys r → Contains xs r) → xs ≡ ys
same_rising [] [] h k to from = refl
same_rising [] (y ∷ ys) h k to from = absurd (nothing y (from y (0, omega arith, refl)))
same_rising (x ∷ xs) [] h k to from = absurd (nothing x (to x (0, omega arith, refl)))
same_rising (x ∷ xs) (y ∷ ys) h k to from =
    let first : x ≡ y = heads (first_or_later y ys x (to x (0, omega arith, refl))) (first_or_later x xs y (from y (0, omega arith, refl))) in
    let rest = same_rising xs ys (rising_tail x xs h) (rising_tail y ys k)
    (λ r at. into y ys x xs r h first at (first_or_later y ys r (to r (later x xs r at))))
    (λ r at. into x xs y ys r k (sym first) at (first_or_later x xs r (from r (later y ys r at)))) in
    λ i. first i ∷ rest i
  where
    heads : (y ≡ x) ⊎ Contains ys x → (x ≡ y) ⊎ Contains xs y → x ≡ y
    heads (inl at) other = sym at
    heads (inr below) (inl at) = at
    heads (inr below) (inr above) =
        let a = above_first y ys x k below in
        let b = above_first x xs y h above in
        absurd (omega arith)

    -- what stands behind the first of the one stands behind the first of the other
    into : (b : ℕ) (bs : List ℕ) (a : ℕ) (as_ : List ℕ) (r : ℕ) → Rising (a ∷ as_) → a ≡ b → Contains as_ r → (b ≡ r) ⊎ Contains bs r → Contains bs r
    into b bs a as_ r rising same at (inl here) =
        let above = above_first a as_ r rising at in
        absurd (omega arith)
    into b bs a as_ r rising same at (inr there) = there

-- a number is in a list or not
contains : (xs : List ℕ) (y : ℕ) → Contains xs y ⊎ (Contains xs y → ⊥)
contains [] y = inr (nothing y)
contains (x ∷ xs) y = by (cases_eq x y) (contains xs y)
  where
    by : (x ≡ y) ⊎ (x ≡ y → ⊥) → Contains xs y ⊎ (Contains xs y → ⊥) → Contains (x ∷ xs) y ⊎ (Contains (x ∷ xs) y → ⊥)
    by (inl at) rest = inl (0, omega arith, at)
    by (inr other) (inl there) = inl (later x xs y there)
    by (inr other) (inr none) = inr (λ at. neither (first_or_later x xs y at))
      where
        neither : (x ≡ y) ⊎ Contains xs y → ⊥
        neither (inl at) = other at
        neither (inr there) = none there

-- an independent row is among the first independent rows
among : (m : Entries) (xs ys : List ℕ) → AreFirstIndependent m xs → AreFirstIndependent m ys → (r : ℕ) → Contains xs r → Contains ys r
among m xs ys hx hy r at = by (contains ys r)
  where
    by : Contains ys r ⊎ (Contains ys r → ⊥) → Contains ys r
    by (inl there) = there
    by (inr none) =
        absurd (All-contains (λ (s : ℕ). IsCombination m s → ⊥) xs r hx.independent at
        (hy.others r (All-contains (λ (s : ℕ). s < length m.rows) xs r hx.within at) none))

first_rows : (m : Entries) (xs ys : List ℕ) → AreFirstIndependent m xs → AreFirstIndependent m ys → xs ≡ ys
first_rows m xs ys hx hy = same_rising xs ys hx.rising hy.rising (among m xs ys hx hy) (among m ys xs hy hx)

-- ---- the inverse

-- a sum whose terms from k on are 0
total-front : (n k : ℕ) (f : ℕ → ℤ) → k ≤ n → ((j : ℕ) → k ≤ j → j < n → f j ≡ pos 0) → total n f ≡ total k f
total-front n zero f h none = total-nought n f (λ j l. none j (omega arith) l)
total-front zero (suc k) f h none = absurd (omega arith)
total-front (suc n) (suc k) f h none =
    ap (λ (x : ℤ). f 0 +ℤ x) (total-front n k (λ j. f (suc j)) (omega arith) (λ j a b. none (suc j) (omega arith) (omega arith)))

-- rows, of which a sum with these weights is 0 and the weight of row j is the last that is not: row j is a combination of
-- those before it
combined_row : (m : Entries) (numbers d : List ℕ) (j : ℕ) → AreRows m.columns m.rows → All (λ (r : ℕ). r < length m.rows) numbers → Rising numbers → AreResidues d
    → length d ≡ length numbers → j < length numbers → 0 < entry d j → ((i : ℕ) → j < i → entry d i ≡ 0)
    → ((c : ℕ) → c < m.columns → residue (along (length numbers) (vec (column_of m.rows numbers c)) (vec d)) ≡ 0)
    → IsCombination m (entry numbers j)
combined_row m numbers d j rows within rising small long place some zeros unseen = record {
  weights = weights;
  numbers = take j numbers;
  before = All-from_get_or (λ (s : ℕ). s < entry numbers j) (take j numbers) 0
      (λ i h. let size = length-take-le j numbers (omega arith) in
      subst (λ s. s < entry numbers j) (sym (get_or-take j numbers i 0 (omega arith))) (rising i j 0 (omega arith) place));
  same = same;
}
  where
    inverse : (b : ℕ) × IsInverseOf (entry d j) b
    inverse = has_inverse (entry d j) some (entry-lt d j small)

    h : ℕ
    h = inverse.0

    weights : List ℕ
    weights = scaled_by (prime - h) (take j d)

    col : ℕ → List ℕ
    col c = column_of m.rows numbers c

    -- the terms of the sum before row j, scaled
    term : (c t : ℕ) → t < j → residue (vec weights t *ℤ vec (take j (col c)) t) ≡ residue (pos (prime - h) *ℤ (vec (col c) t *ℤ vec d t))
    term c t l =
        let W = var 0 in
        let C = var 1 in
        let G = var 2 in
        let D = var 3 in
        let front : entry (take j (col c)) t ≡ entry (col c) t = get_or-take j (col c) t 0 l in
        let weight : residue (vec weights t) ≡ residue (vec d t *ℤ pos (prime - h)) =
        ap (λ (x : ℕ). residue (pos x)) (entry-scaled (prime - h) (take j d) t ∙ ap (λ (x : ℕ). (x * (prime - h)) % prime) (get_or-take j d t 0 l))
        ∙ residue-residue prime (pos (entry d t * (prime - h))) prime-pos in
        ap (λ (x : ℕ). residue (vec weights t *ℤ pos x)) front
        ∙ congruence prime (vec weights t ∷ vec (col c) t ∷ pos (prime - h) ∷ vec d t ∷ []) (W ⊗ C) (G ⊗ (C ⊗ D))
        (record { by = C; left = W; right = D ⊗ G } ∷ []) prime-pos (weight, tt) refl

    same : (c : ℕ) → c < m.columns → dot weights (column_of m.rows (take j numbers) c) % prime ≡ entry_at m.rows (entry numbers j) c
    same c hc =
        let size : length (col c) ≡ length numbers = length-map numbers (λ (r : ℕ). entry_at m.rows r c) in
        let cut : column_of m.rows (take j numbers) c ≡ take j (col c) = sym (take-map (λ (r : ℕ). entry_at m.rows r c) j numbers) in
        let short = length-take-le j (col c) (omega arith) in
        let there : entry (col c) j ≡ entry_at m.rows (entry numbers j) c = get_or-map (λ (r : ℕ). entry_at m.rows r c) numbers j 0 0 place in
        let inside : entry numbers j < length m.rows = All-get_or (λ (r : ℕ). r < length m.rows) numbers j 0 place within in
        let row : IsRow m.columns (column m.rows (entry numbers j)) = All-get_or (IsRow m.columns) m.rows (entry numbers j) [] inside rows in
        let below : entry_at m.rows (entry numbers j) c < prime = entry-lt (column m.rows (entry numbers j)) c row.residues in
        let whole : along (length numbers) (vec (col c)) (vec d) ≡ along j (vec (col c)) (vec d) +ℤ vec (col c) j *ℤ vec d j =
        total-front (length numbers) (suc j) (λ t. vec (col c) t *ℤ vec d t) (omega arith)
        (λ t a b. ap (λ (x : ℕ). vec (col c) t *ℤ pos x) (zeros t (omega arith)) ∙ (*ℤ_comm (vec (col c) t) (pos 0) ∙ zero-mul (vec (col c) t)))
        ∙ total-more j (λ t. vec (col c) t *ℤ vec d t) in
        let S = var 0 in
        let C = var 1 in
        let D = var 2 in
        let G = var 3 in
        let H = var 4 in
        let sum : pos (prime - h) +ℤ pos h ≡ pos prime = ap pos (let b = inverse.1.below in omega arith) in
        ap (λ (x : List ℕ). dot weights x % prime) cut
        ∙ (dot-same j weights (take j (col c)) (omega arith)
        ∙ (total-congruent prime j (λ t. vec weights t *ℤ vec (take j (col c)) t) (λ t. pos (prime - h) *ℤ (vec (col c) t *ℤ vec d t)) prime-pos (term c)
        ∙ (ap residue (total-times j (pos (prime - h)) (λ t. vec (col c) t *ℤ vec d t))
        ∙ (congruence prime (along j (vec (col c)) (vec d) ∷ vec (col c) j ∷ vec d j ∷ pos (prime - h) ∷ pos h ∷ []) (G ⊗ S) C
        (record { by = G; left = S ⊕ C ⊗ D; right = con (pos 0) }
        ∷ record { by = con (pos 0) ⊖ C ⊗ D; left = G ⊕ H; right = con (pos 0) }
        ∷ record { by = C; left = D ⊗ H; right = con (pos 1) }
        ∷ []) prime-pos
        (ap residue (sym whole) ∙ unseen c hc, (ap residue sum, (inverse.1.product, tt))) refl
        ∙ (ap (λ (x : ℕ). residue (pos x)) there ∙ residue-below prime (entry_at m.rows (entry numbers j) c) below)))))

-- the products of a row with columns, in the other order
turned : (n : ℕ) (xs ys : List ℕ) → length ys ≤ n → residue (along n (vec ys) (vec xs)) ≡ dot xs ys % prime
turned n xs ys h =
    ap residue (total-equal n (λ t. vec ys t *ℤ vec xs t) (λ t. vec xs t *ℤ vec ys t) (λ t l. *ℤ_comm (vec ys t) (vec xs t))) ∙ sym (dot-same n xs ys h)

one_inverse : (m : Entries) → AreRows m.columns m.rows → (numbers inverse other : List ℕ) → IsInverse m numbers inverse → IsInverse m numbers other → inverse ≡ other
one_inverse m rows numbers inverse other a b =
    same_rows (length numbers) m.columns inverse other (a.square.count ∙ ap (λ (k : ℕ). m.columns * k) (sym a.count)) (b.square.count ∙ ap (λ (k : ℕ). m.columns * k) (sym a.count)) each
  where
    row_of : (xs : List ℕ) (i : ℕ) → length xs ≡ m.columns * m.columns → AreResidues xs → i < m.columns → IsRow (length numbers) (written_row (length numbers) xs i)
    row_of xs i long small h = record {
      count = length-take-le (length numbers) (drop (i * length numbers) xs)
          (let size = length-drop (i * length numbers) xs in
          let whole : length xs ≡ m.columns * length numbers = long ∙ ap (λ (k : ℕ). m.columns * k) (sym a.count) in
          room m.columns i (length numbers) (length xs) (length (drop (i * length numbers) xs)) h whole size);
      residues = All-take (λ (x : ℕ). x < prime) (length numbers) (drop (i * length numbers) xs) (All-drop (λ (x : ℕ). x < prime) (i * length numbers) xs small);
    }
      where
        room : (n i k long left : ℕ) → i < n → long ≡ n * k → left ≡ long - i * k → k ≤ left
        room n i k long left h e f =
            let more : n * k ≡ i * k + k + (n - (i + 1)) * k = parts n i k h in
            omega arith
          where
            parts : (n i k : ℕ) → i < n → n * k ≡ i * k + k + (n - (i + 1)) * k
            parts n i k h =
                let e : n ≡ i + 1 + (n - (i + 1)) = omega arith in
                ap (λ (x : ℕ). x * k) e ∙ spread i k (n - (i + 1))
              where
                spread : (i k r : ℕ) → (i + 1 + r) * k ≡ i * k + k + r * k
                spread i k r = omega arith

    each : (i : ℕ) → i < m.columns → written_row (length numbers) inverse i ≡ written_row (length numbers) other i
    each i h =
        let k = length numbers in
        let v = written_row k inverse i in
        let w = written_row k other i in
        let hv = row_of inverse i a.square.count a.square.residues h in
        let hw = row_of other i b.square.count b.square.residues h in
        let diff = difference_row k v w hv hw in
        let long = diff.count in
        equal_rows k v w hv hw (all_zero (less 1 v w) k (λ j past. get_or_past (less 1 v w) j 0 (omega arith))
        (λ j place some zeros. All-get_or (λ (r : ℕ). IsCombination m r → ⊥) numbers j 0 place a.independent.independent
        (combined_row m numbers (less 1 v w) j rows a.independent.within a.independent.rising diff.residues long place some zeros
        (λ c hc.
        let size = length-map numbers (λ (r : ℕ). entry_at m.rows r c) in
        let c_long : length (column_of m.rows numbers c) ≤ k = omega arith in
        difference_unseen k (vec (column_of m.rows numbers c)) v w hv.count hw.count
        (turned k v (column_of m.rows numbers c) c_long
        ∙ (a.product i c h hc ∙ (sym (b.product i c h hc) ∙ sym (turned k w (column_of m.rows numbers c) c_long))))))))

-- ---- both

not_both : (m : Entries) (numbers inverse : List ℕ) (f : ℕ) (v : List ℕ) → IsInverse m numbers inverse → IsFirstDependence m f v → ⊥
not_both m numbers inverse f v a h =
    let one_there : residue (vec v f) ≡ 1 = ap (λ (x : ℕ). residue (pos x)) d.one in
    absurd (omega (arith, sym zero_there ∙ one_there))
  where
    d : IsDependence m f v
    d = h.dependence

    size : length (map pos v) ≡ m.columns
    size = length-map v pos ∙ d.row.count

    there : f < length v
    there = let a = d.row.count in let b = d.place in omega arith

    seen : All (λ (z : ℤ). residue z ≡ 0) (map pos v)
    seen = sees_each m numbers inverse (map pos v) a.independent.within a.product size
        (λ k e l.
        let o = get_or m.rows k e in
        let few = size in
        ap residue (weighed-total m.columns o (map pos v) (omega arith)
        ∙ total-equal m.columns (λ j. vec o j *ℤ get_or (map pos v) j (pos 0)) (λ j. vec o j *ℤ vec v j)
        (λ j w. ap (λ (z : ℤ). vec o j *ℤ z) (get_or-map pos v j 0 (pos 0) (let c = d.row.count in omega arith))))
        ∙ (sym (dot-same m.columns o v (let c = d.row.count in omega arith)) ∙ d.none k e l))

    zero_there : residue (vec v f) ≡ 0
    zero_there = ap residue (sym (get_or-map pos v f 0 (pos 0) there)) ∙ All-get_or (λ (z : ℤ). residue z ≡ 0) (map pos v) f (pos 0) (let e = length-map v pos in omega arith) seen

pub one_elimination : IsOneElimination
one_elimination m rows = record {
  rows = first_rows m;
  inverse = one_inverse m rows;
  dependence = one_dependence m;
  answered = has_elimination m rows;
  either = not_both m;
}
