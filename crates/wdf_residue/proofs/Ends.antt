-- Where elimination begins and ends.
use Rattle.std.proofs.Common.{◌≡◌, ℕ, zero, suc, ◌+◌, ◌*◌, ◌%◌, ◌<◌, ◌≤◌, Bool, if◌then◌else◌, List, [], ◌++◌, length, take, drop, get_or, refl, sym, ap, ◌∙◌, subst, arith}
use Rattle.std.specs.Prelude.{All}
use Rattle.std.specs.List.{range_with_len, flat_map}
use Rattle.std.proofs.lemmas.List.{length-map, get_or-map, get_or_past, drop_at, take_at, drop-drop, length-append, append-nil, append_assoc}
use Rattle.std.proofs.lemmas.List.Elements.{All-get_or, All-nil, All-from_get_or, All-map, All-append}
use Rattle.std.proofs.lemmas.List.FromFn.{length-map-range_with_len, get_or-map-range_with_len}
use Rattle.std.proofs.lemmas.Bool.{cases_lt, cases_eq, eq-eqb, ne_eqb}
use mathlib.Core.Logic.{◌⊎◌, inl, inr}
use lib.IntN.{pos, ◌+ℤ◌, ◌*ℤ◌, *ℤ_comm}
use Rattle.wdf_algebra.proofs.RingLaws.{linear, zero-mul}
use Rattle.wdf_residue.specs.Residue.{prime, residue, dot, AreResidues}
use Rattle.wdf_residue.specs.Matrix.{Entries, IsRow, AreRows, entry, entry_at, column_of, written_row, identity_entry, IsLeftInverse, column_entries}
use Rattle.wdf_residue.specs.Elimination.{IsCombination, IsDependence, IsFirstDependence, IsInverse}
use Rattle.wdf_residue.specs.Solving.{Reduction, IsReduction, column, own_entry, IsFirstOpen, AreSolved, identity_column, identity_columns, written}
use Rattle.wdf_residue.proofs.Powers.{prime-pos}
use Rattle.wdf_residue.proofs.Totals.{total, unit, unit-same, unit-other, total-nought, total-equal}
use Rattle.wdf_residue.proofs.Splits.{along, column_split}
use Rattle.wdf_residue.proofs.VectorLemmas.{vec, column-residues, dot-same}
use Rattle.wdf_residue.proofs.Amounts.{amount-ones, amount-none}
use Rattle.wdf_residue.proofs.Reduced.{cols, rows_taken, IsEnding, IsReduced, column-is, closed, all_nought}

-- ---- the identity

identity-at : (n c i : ℕ) → c < n → i < n → entry_at (identity_columns n) c i ≡ identity_entry c i
identity-at n c i hc hi =
    ap (λ (v : List ℕ). entry v i) (get_or-map-range_with_len (identity_column n) 0 n c c [] hc (omega arith))
    ∙ get_or-map-range_with_len (identity_entry c) 0 n i i 0 hi (omega arith)

identity-past : (n c i : ℕ) → c < n → n ≤ i → entry_at (identity_columns n) c i ≡ 0
identity-past n c i hc hi =
    ap (λ (v : List ℕ). entry v i) (get_or-map-range_with_len (identity_column n) 0 n c c [] hc (omega arith))
    ∙ get_or_past (identity_column n c) i 0 (let a = length-map-range_with_len (identity_entry c) 0 n in omega arith)

entry-same : (i : ℕ) → identity_entry i i ≡ 1
entry-same i = ap (λ (b : Bool). if b then 1 else 0) (eq-eqb i i refl)

entry-other : (i j : ℕ) → (i ≡ j → ⊥) → identity_entry i j ≡ 0
entry-other i j h = ap (λ (b : Bool). if b then 1 else 0) (ne_eqb i j h)

unit-entry : (i c : ℕ) → pos (identity_entry c i) ≡ unit i c
unit-entry i c = elim (cases_eq i c) [
  | inl at ↦ ap (λ (j : ℕ). pos (identity_entry j i)) (sym at) ∙ (ap pos (entry-same i) ∙ (sym (unit-same i) ∙ ap (unit i) at))
  | inr other ↦ ap pos (entry-other c i (λ e. other (sym e))) ∙ sym (unit-other i c other)
]

pub entry-unit : (i j : ℕ) → residue (unit i j) ≡ identity_entry i j
entry-unit i j = elim (cases_eq i j) [
  | inl at ↦ ap residue (ap (unit i) (sym at) ∙ unit-same i) ∙ sym (ap (identity_entry i) (sym at) ∙ entry-same i)
  | inr other ↦ ap residue (unit-other i j other) ∙ sym (entry-other i j other)
]

pub begins : (m : Entries) (e : Reduction) → e.columns ≡ m.columns → e.unseen ≡ identity_columns m.columns → e.solved ≡ [] → e.taken ≡ [] → IsReduced m 0 e
begins m e width unseen solved taken = record {
  columns = width;
  split = λ i c hi hc.
      let none : length e.taken ≡ 0 = ap length taken in
      let same : entry_at e.unseen c i ≡ identity_entry c i = ap (λ (vs : List (List ℕ)). entry_at vs c i) unseen ∙ identity-at m.columns c i hc hi in
      let gone : total (length e.taken) (λ t. cols e.solved t i *ℤ rows_taken m e.taken t c) ≡ pos 0 =
      ap (λ (k : ℕ). total k (λ t. cols e.solved t i *ℤ rows_taken m e.taken t c)) none in
      let whole : cols e.unseen c i +ℤ total (length e.taken) (λ t. cols e.solved t i *ℤ rows_taken m e.taken t c) ≡ unit i c +ℤ pos 0 =
      (λ j. (ap pos same ∙ unit-entry i c) j +ℤ gone j) in
      ap residue (whole ∙ omega (arith, linear));
  unseen = λ s c hs hc. absurd (omega arith);
  shape = λ c hc. inl (record {
    one = ap (λ (vs : List (List ℕ)). entry_at vs c c) unseen ∙ (identity-at m.columns c c hc hc ∙ entry-same c);
    behind = λ i less. ap (λ (vs : List (List ℕ)). entry_at vs c i) unseen ∙ behind c i hc less (cases_lt i m.columns);
  });
  left =
      let ones = amount-ones m.columns (own_entry e.unseen) (λ c hc. ap (λ (vs : List (List ℕ)). entry_at vs c c) unseen ∙ (identity-at m.columns c c hc hc ∙ entry-same c)) in
      let none : length e.taken ≡ 0 = ap length taken in
      omega arith;
  rising = λ a b d less within. let none : length e.taken ≡ 0 = ap length taken in absurd (omega arith);
  below = subst (λ (xs : List ℕ). All (λ (a : ℕ). a < 0) xs) (sym taken) (All-nil (λ (a : ℕ). a < 0));
  independent = subst (λ (xs : List ℕ). All (λ (a : ℕ). IsCombination m a → ⊥) xs) (sym taken) (All-nil (λ (a : ℕ). IsCombination m a → ⊥));
  others = λ s hs fresh. absurd (omega arith);
}
  where
    behind : (c i : ℕ) → c < m.columns → c < i → (i < m.columns) ⊎ (m.columns ≤ i) → entry_at (identity_columns m.columns) c i ≡ 0
    behind c i hc less (inl within) = identity-at m.columns c i hc within ∙ entry-other c i (λ e. absurd (omega arith))
    behind c i hc less (inr past) = identity-past m.columns c i hc past

-- a column of the identity, one more of its entries, and one more column
pub identity-row : (n c : ℕ) → IsRow n (identity_column n c)
identity-row n c = record {
  count = length-map-range_with_len (identity_entry c) 0 n;
  residues = All-map (λ (x : ℕ). x < prime) (identity_entry c) (range_with_len 0 n) (λ k d less. small c (get_or (range_with_len 0 n) k d));
}
  where
    small : (c i : ℕ) → identity_entry c i < prime
    small c i = elim (cases_eq c i) [
      | inl at ↦ let e = ap (identity_entry c) (sym at) ∙ entry-same c in omega arith
      | inr other ↦ let e = entry-other c i other in omega arith
    ]

flat-more : (f : ℕ → List ℕ) (n a : ℕ) → flat_map f (range_with_len a (suc n)) ≡ flat_map f (range_with_len a n) ++ f (a + n)
flat-more f zero a =
    let at : a + 0 ≡ a = omega arith in
    append-nil (f a) ∙ ap f (sym at)
flat-more f (suc n) a =
    let at : a + 1 + n ≡ a + suc n = omega arith in
    ap (λ (xs : List ℕ). f a ++ xs) (flat-more f n (a + 1) ∙ ap (λ (k : ℕ). flat_map f (range_with_len (a + 1) n) ++ f k) at)
    ∙ sym (append_assoc (f a) (flat_map f (range_with_len (a + 1) n)) (f (a + suc n)))

pub written-more : (columns : List (List ℕ)) (n : ℕ) → written columns (n + 1) ≡ written columns n ++ column_entries columns n
written-more columns n =
    let next : n + 1 ≡ suc n = omega arith in
    let at : 0 + n ≡ n = omega arith in
    ap (written columns) next ∙ (flat-more (column_entries columns) n 0 ∙ ap (λ (k : ℕ). written columns n ++ column_entries columns k) at)

-- ---- the inverse

-- row i of what is written row by row, each of k entries
pub written-row : (f : ℕ → List ℕ) (k : ℕ) → ((i : ℕ) → length (f i) ≡ k) → (n a i : ℕ) → i < n → written_row k (flat_map f (range_with_len a n)) i ≡ f (a + i)
written-row f k long zero a i h = absurd (omega arith)
written-row f k long (suc n) a zero h =
    let at : 0 * k ≡ 0 = omega arith in
    let same : a ≡ a + 0 = omega arith in
    ap (λ (d : ℕ). take k (drop d (f a ++ flat_map f (range_with_len (a + 1) n)))) at
    ∙ (take_at (f a) (flat_map f (range_with_len (a + 1) n)) k (long a) ∙ ap f same)
written-row f k long (suc n) a (suc i) h =
    let at : suc i * k ≡ k + i * k = omega arith in
    let same : a + 1 + i ≡ a + suc i = omega arith in
    ap (λ (d : ℕ). take k (drop d (f a ++ flat_map f (range_with_len (a + 1) n)))) at
    ∙ (ap (take k) (sym (drop-drop (i * k) k (f a ++ flat_map f (range_with_len (a + 1) n)))
    ∙ ap (drop (i * k)) (drop_at (f a) (flat_map f (range_with_len (a + 1) n)) k (long a)))
    ∙ (written-row f k long n (a + 1) i (omega arith) ∙ ap f same))

pub length-written : (f : ℕ → List ℕ) (k : ℕ) → ((i : ℕ) → length (f i) ≡ k) → (n a : ℕ) → length (flat_map f (range_with_len a n)) ≡ n * k
length-written f k long zero a = omega arith
length-written f k long (suc n) a =
    let first = long a in
    let rest = length-written f k long n (a + 1) in
    let whole = length-append (f a) (flat_map f (range_with_len (a + 1) n)) in
    let more : suc n * k ≡ k + n * k = omega arith in
    omega arith

pub written-residues : (f : ℕ → List ℕ) → ((i : ℕ) → AreResidues (f i)) → (n a : ℕ) → AreResidues (flat_map f (range_with_len a n))
written-residues f each zero a = All-nil (λ (x : ℕ). x < prime)
written-residues f each (suc n) a = All-append (λ (x : ℕ). x < prime) (f a) (flat_map f (range_with_len (a + 1) n)) (each a) (written-residues f each n (a + 1))

pub ends_whole : (m : Entries) (e : Reduction) → IsReduced m (length m.rows) e → IsReduction e → AreRows m.columns m.rows → AreSolved e.unseen
    → (entries : List ℕ) → entries ≡ written e.solved e.columns → IsInverse m e.taken entries
ends_whole m e h is rows none entries same = record {
  independent = record { rising = h.rising; within = h.below; independent = h.independent; others = h.others };
  count = full;
  square = record {
    count = ap length same ∙ (length-written (column_entries e.solved) (length e.solved) (λ i. length-map e.solved (λ (v : List ℕ). entry v i)) e.columns 0
        ∙ (λ i. h.columns i * size i));
    residues = subst AreResidues (sym same) (written-residues (column_entries e.solved) residues e.columns 0);
  };
  product = product;
}
  where
    full : length e.taken ≡ m.columns
    full =
        let l = h.left in
        let gone = amount-none m.columns (own_entry e.unseen) (λ c hc. none c (let a = is.count in let b = h.columns in omega arith)) in
        omega arith

    size : length e.solved ≡ m.columns
    size = is.sizes ∙ full

    residues : (i : ℕ) → AreResidues (column_entries e.solved i)
    residues i = column-residues e.columns e.solved i is.solved

    product : IsLeftInverse m.rows m.columns e.taken entries
    product i j hi hj =
        let row : written_row (length e.taken) entries i ≡ column_entries e.solved i =
        ap (λ (k : ℕ). written_row k entries i) (sym is.sizes)
        ∙ (ap (λ (xs : List ℕ). written_row (length e.solved) xs i) same
        ∙ (written-row (column_entries e.solved) (length e.solved) (λ c. length-map e.solved (λ (v : List ℕ). entry v c)) e.columns 0 i (let a = h.columns in omega arith)
        ∙ ap (column_entries e.solved) (omega arith))) in
        let few : length (column_of m.rows e.taken j) ≤ length e.taken = let a = length-map e.taken (λ (s : ℕ). entry_at m.rows s j) in omega arith in
        let named : along (length e.taken) (vec (column_entries e.solved i)) (vec (column_of m.rows e.taken j)) ≡ total (length e.taken) (λ t. cols e.solved t i *ℤ rows_taken m e.taken t j) =
        total-equal (length e.taken) (λ t. vec (column_entries e.solved i) t *ℤ vec (column_of m.rows e.taken j) t) (λ t. cols e.solved t i *ℤ rows_taken m e.taken t j)
        (λ t ht. λ d.
        pos (get_or-map (λ (v : List ℕ). entry v i) e.solved t [] 0 (let a = is.sizes in omega arith) d)
        *ℤ pos (get_or-map (λ (s : ℕ). entry_at m.rows s j) e.taken t 0 0 ht d)) in
        let nought : cols e.unseen j i ≡ pos 0 = ap pos (all_nought m (length m.rows) e h full j hj i) in
        let whole : cols e.unseen j i +ℤ total (length e.taken) (λ t. cols e.solved t i *ℤ rows_taken m e.taken t j) ≡ total (length e.taken) (λ t. cols e.solved t i *ℤ rows_taken m e.taken t j) =
        omega (arith, linear) in
        ap (λ (xs : List ℕ). dot xs (column_of m.rows e.taken j) % prime) row
        ∙ (dot-same (length e.taken) (column_entries e.solved i) (column_of m.rows e.taken j) few
        ∙ (ap residue (named ∙ sym whole) ∙ (h.split i j hi hj ∙ entry-unit i j)))

-- ---- the kernel

-- a dependence at j makes the entry at j a sum over the columns up to j
no_dependence : (m : Entries) (e : Reduction) → IsReduced m (length m.rows) e → IsReduction e → AreRows m.columns m.rows
    → (f j : ℕ) (w : List ℕ) → j < f → f < m.columns → ((b : ℕ) → b < f → own_entry e.unseen b ≡ 0) → IsDependence m j w → ⊥
no_dependence m e h is rows f j w less within none d =
    let small : j < m.columns = omega arith in
    let few : length w ≤ m.columns = let a = d.row.count in omega arith in
    let split = column_split prime m.columns (length e.taken) (cols e.unseen) (cols e.solved) (rows_taken m e.taken) prime-pos h.split (vec w)
    (λ t ht.
    let there : entry e.taken t < length m.rows = All-get_or (λ (a : ℕ). a < length m.rows) e.taken t 0 ht h.below in
    sym (dot-same m.columns (column m.rows (entry e.taken t)) w few) ∙ All-get_or (λ (row : List ℕ). dot row w % prime ≡ 0) m.rows (entry e.taken t) [] there d.none)
    j small in
    let gone = total-nought m.columns (λ c. cols e.unseen c j *ℤ vec w c) (λ c hc. term c hc (cases_lt c f)) in
    let zero_is : residue (vec w j) ≡ 0 = split ∙ ap residue gone in
    let one_is : residue (vec w j) ≡ 1 = ap (λ (x : ℕ). residue (pos x)) d.one in
    absurd (omega (arith, sym zero_is ∙ one_is))
  where
    term : (c : ℕ) → c < m.columns → (c < f) ⊎ (f ≤ c) → cols e.unseen c j *ℤ vec w c ≡ pos 0
    term c hc (inl before) = ap (λ (x : ℕ). pos x *ℤ vec w c) (closed m (length m.rows) e h c hc (none c before) j) ∙ zero-mul (vec w c)
    term c hc (inr behind) = ap (λ (x : ℕ). cols e.unseen c j *ℤ pos x) (d.behind c (omega arith)) ∙ (*ℤ_comm (cols e.unseen c j) (pos 0) ∙ zero-mul (cols e.unseen c j))

pub ends_dependent : (m : Entries) (e : Reduction) → IsReduced m (length m.rows) e → IsReduction e → AreRows m.columns m.rows → (f : ℕ) → IsFirstOpen e.unseen f
    → (v : List ℕ) → v ≡ column e.unseen f → IsFirstDependence m f v
ends_dependent m e h is rows f first v same =
    let within : f < m.columns = let a = first.within in let b = is.count in let c = h.columns in omega arith in
    let ending : IsEnding (column e.unseen f) f = elim (h.shape f within) [
      | inl ending ↦ ending
      | inr nought ↦ let none = nought f in let some = first.some in absurd (omega arith)
    ] in
    record {
      dependence = subst (IsDependence m f) (sym same) (record {
        row = subst (λ (n : ℕ). IsRow n (column e.unseen f)) h.columns (column-is e.columns e.unseen f is.unseen first.within);
        place = within;
        one = ending.one;
        behind = ending.behind;
        none = All-from_get_or (λ (row : List ℕ). dot row (column e.unseen f) % prime ≡ 0) m.rows [] (λ s hs. h.unseen s f hs within);
      });
      first = λ j w less d. no_dependence m e h is rows f j w less within first.before d;
    }
