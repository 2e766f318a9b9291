-- A row that elimination takes.
use Rattle.std.proofs.Common.{◌≡◌, ℕ, suc, ◌+◌, ◌*◌, ◌%◌, ◌<◌, ◌≤◌, List, [], ◌∷◌, ◌++◌, map, length, refl, sym, ap, ◌∙◌, subst, arith}
use Rattle.std.specs.Prelude.{All, AllPairs, Contains}
use Rattle.std.proofs.lemmas.List.{length-map, get_or-map, get_or_append_left, get_or_at, get_or_past, length_push}
use Rattle.std.proofs.lemmas.List.Elements.{All-get_or, All-push, All-weaker, Contains-push, Contains-append_left}
use Rattle.std.proofs.lemmas.List.Quantifiers.{all_pairs_push}
use Rattle.std.proofs.lemmas.Bool.{cases_lt, cases_eq, cases_order}
use mathlib.Core.Logic.{◌⊎◌, inl, inr}
use lib.IntN.{ℤ, pos, ◌+ℤ◌, ◌-ℤ◌, ◌*ℤ◌, *ℤ_comm}
use Rattle.wdf_algebra.proofs.RingLaws.{mul-assoc}
use Rattle.wdf_algebra.proofs.Polynomials.{con, var, ◌⊕◌, ◌⊖◌, ◌⊗◌}
use Rattle.wdf_residue.specs.Residue.{prime, residue, dot}
use Rattle.wdf_residue.specs.Matrix.{Entries, IsRow, AreRows, entry, entry_at, column_of}
use Rattle.wdf_residue.specs.Vectors.{scaled_by, less}
use Rattle.wdf_residue.specs.Elimination.{IsCombination}
use Rattle.wdf_residue.specs.Solving.{Reduction, IsReduction, column, cleared, Takes, Advances, own_entry}
use Rattle.wdf_algebra.proofs.Congruences.{congruence, residue-residue, residue-below}
use Rattle.wdf_residue.proofs.Powers.{prime-pos}
use Rattle.wdf_residue.proofs.Totals.{total, total-nought, total-congruent, total-times, total-equal, total-join, total-exchange}
use Rattle.wdf_residue.proofs.Splits.{along, IsSplit, split_cleared}
use Rattle.wdf_residue.proofs.VectorLemmas.{vec, entry-lt, dot-same, along-scaled, scaled-row, entry-scaled, cleared-row, entry-cleared, cleared-same}
use Rattle.wdf_residue.proofs.Amounts.{amount, amount-less}
use Rattle.wdf_residue.proofs.Reduced.{cols, rows_taken, IsEnding, IsNought, IsReduced, row-is, column-is, dot-nought, passes}

-- a combination of rows that do not see a vector does not see it
pub combination-none : (m : Entries) (r : ℕ) (v : List ℕ) → length v ≤ m.columns → IsCombination m r
    → ((s : ℕ) → s < r → dot (column m.rows s) v % prime ≡ 0) → AreRows m.columns m.rows → r < length m.rows → dot (column m.rows r) v % prime ≡ 0
combination-none m r v few c none rows less =
    dot-same m.columns (column m.rows r) v few ∙ (first ∙ (ap residue exchanged ∙ (gone ∙ ap residue (total-nought k (λ t. pos 0) (λ t l. refl)))))
  where
    k : ℕ
    k = length c.numbers

    -- each entry of the row is a sum over the numbers
    first : residue (along m.columns (vec (column m.rows r)) (vec v))
        ≡ residue (total m.columns (λ j. total (length c.numbers) (λ t. vec c.weights t *ℤ (vec (column_of m.rows c.numbers j) t *ℤ vec v j))))
    first =
        total-congruent prime m.columns (λ j. vec (column m.rows r) j *ℤ vec v j)
        (λ j. total (length c.numbers) (λ t. vec c.weights t *ℤ (vec (column_of m.rows c.numbers j) t *ℤ vec v j))) prime-pos
        (λ j lj.
        let short : length (column_of m.rows c.numbers j) ≤ length c.numbers = let a = length-map c.numbers (λ (s : ℕ). entry_at m.rows s j) in omega arith in
        let same : residue (vec (column m.rows r) j) ≡ residue (along (length c.numbers) (vec c.weights) (vec (column_of m.rows c.numbers j))) =
        residue-below prime (entry_at m.rows r j) (entry-lt (column m.rows r) j (row-is m r rows less).residues)
        ∙ (sym (c.same j lj) ∙ dot-same (length c.numbers) c.weights (column_of m.rows c.numbers j) short) in
        let X = var 0 in
        let A = var 1 in
        let V = var 2 in
        congruence prime (vec (column m.rows r) j ∷ along (length c.numbers) (vec c.weights) (vec (column_of m.rows c.numbers j)) ∷ vec v j ∷ []) (X ⊗ V) (V ⊗ A)
        (record { by = V; left = X; right = A } ∷ []) prime-pos (same, tt) refl
        ∙ ap residue (sym (total-times (length c.numbers) (vec v j) (λ t. vec c.weights t *ℤ vec (column_of m.rows c.numbers j) t))
        ∙ total-equal (length c.numbers) (λ t. vec v j *ℤ (vec c.weights t *ℤ vec (column_of m.rows c.numbers j) t))
        (λ t. vec c.weights t *ℤ (vec (column_of m.rows c.numbers j) t *ℤ vec v j))
        (λ t l. *ℤ_comm (vec v j) (vec c.weights t *ℤ vec (column_of m.rows c.numbers j) t) ∙ mul-assoc (vec c.weights t) (vec (column_of m.rows c.numbers j) t) (vec v j))))

    exchanged : total m.columns (λ j. total (length c.numbers) (λ t. vec c.weights t *ℤ (vec (column_of m.rows c.numbers j) t *ℤ vec v j)))
        ≡ total (length c.numbers) (λ t. vec c.weights t *ℤ total m.columns (λ j. vec (column_of m.rows c.numbers j) t *ℤ vec v j))
    exchanged =
        total-exchange m.columns (length c.numbers) (λ j t. vec c.weights t *ℤ (vec (column_of m.rows c.numbers j) t *ℤ vec v j))
        ∙ total-equal (length c.numbers) (λ t. total m.columns (λ j. vec c.weights t *ℤ (vec (column_of m.rows c.numbers j) t *ℤ vec v j)))
        (λ t. vec c.weights t *ℤ total m.columns (λ j. vec (column_of m.rows c.numbers j) t *ℤ vec v j))
        (λ t l. total-times m.columns (vec c.weights t) (λ j. vec (column_of m.rows c.numbers j) t *ℤ vec v j))

    gone : residue (total (length c.numbers) (λ t. vec c.weights t *ℤ total m.columns (λ j. vec (column_of m.rows c.numbers j) t *ℤ vec v j)))
        ≡ residue (total (length c.numbers) (λ t. pos 0))
    gone =
        total-congruent prime (length c.numbers) (λ t. vec c.weights t *ℤ total m.columns (λ j. vec (column_of m.rows c.numbers j) t *ℤ vec v j)) (λ t. pos 0) prime-pos
        (λ t l.
        let before : entry c.numbers t < r = All-get_or (λ (s : ℕ). s < r) c.numbers t 0 l c.before in
        let named : total m.columns (λ j. vec (column_of m.rows c.numbers j) t *ℤ vec v j) ≡ along m.columns (vec (column m.rows (entry c.numbers t))) (vec v) =
        total-equal m.columns (λ j. vec (column_of m.rows c.numbers j) t *ℤ vec v j) (λ j. vec (column m.rows (entry c.numbers t)) j *ℤ vec v j)
        (λ j lj. ap (λ (x : ℕ). pos x *ℤ vec v j) (get_or-map (λ (s : ℕ). entry_at m.rows s j) c.numbers t 0 0 l)) in
        let nought : residue (total m.columns (λ j. vec (column_of m.rows c.numbers j) t *ℤ vec v j)) ≡ residue (pos 0) =
        ap residue named ∙ (sym (dot-same m.columns (column m.rows (entry c.numbers t)) v few) ∙ none (entry c.numbers t) before) in
        let W = var 0 in
        let S = var 1 in
        congruence prime (vec c.weights t ∷ total m.columns (λ j. vec (column_of m.rows c.numbers j) t *ℤ vec v j) ∷ []) (W ⊗ S) (con (pos 0))
        (record { by = W; left = S; right = con (pos 0) } ∷ []) prime-pos (nought, tt) refl)

-- the product of a row with a cleared column
along_cleared : (n : ℕ) (x row g w : List ℕ) → IsRow n row → IsRow n g → IsRow n w
    → residue (along n (vec x) (vec (cleared row g w))) ≡ residue (along n (vec x) (vec w) +ℤ (pos 0 -ℤ along n (vec row) (vec w)) *ℤ along n (vec x) (vec g))
along_cleared n x row g w ho hg hw =
    total-congruent prime n (λ j. vec x j *ℤ vec (cleared row g w) j) (λ j. vec x j *ℤ vec w j +ℤ (pos 0 -ℤ along n (vec row) (vec w)) *ℤ (vec x j *ℤ vec g j)) prime-pos
    (λ j lj.
    let X = var 0 in
    let C = var 1 in
    let W = var 2 in
    let A = var 3 in
    let G = var 4 in
    congruence prime (vec x j ∷ vec (cleared row g w) j ∷ vec w j ∷ along n (vec row) (vec w) ∷ vec g j ∷ []) (X ⊗ C) (X ⊗ W ⊕ (con (pos 0) ⊖ A) ⊗ (X ⊗ G))
    (record { by = X; left = C; right = W ⊖ A ⊗ G } ∷ []) prime-pos (entry-cleared n row g w j ho hg hw lj, tt) refl)
    ∙ ap residue (total-join n (pos 0 -ℤ along n (vec row) (vec w)) (λ j. vec x j *ℤ vec w j) (λ j. vec x j *ℤ vec g j))

-- a row that is taken, with what is known of it
record IsTaking (m : Entries) (r : ℕ) (e f : Reduction) : Type 0 where
  reduced : IsReduced m r e
  old : IsReduction e
  new : IsReduction f
  rows : AreRows m.columns m.rows
  within : r < length m.rows
  columns : f.columns ≡ e.columns
  takes : Takes (column m.rows r) r e f

-- the column that is solved for the row
abbrev solved_column : (m : Entries) (r : ℕ) (e f : Reduction) → IsTaking m r e f → List ℕ
solved_column m r e f h = scaled_by h.takes.factor (column e.unseen h.takes.pivot)

pivot-lt : (m : Entries) (r : ℕ) (e f : Reduction) (h : IsTaking m r e f) → h.takes.pivot < m.columns
pivot-lt m r e f h = let a = h.takes.first.within in let b = h.old.count in let c = h.reduced.columns in omega arith

unseen-is : (m : Entries) (r : ℕ) (e f : Reduction) → IsTaking m r e f → (c : ℕ) → c < m.columns → IsRow m.columns (column e.unseen c)
unseen-is m r e f h c hc =
    subst (λ (n : ℕ). IsRow n (column e.unseen c)) h.reduced.columns
    (column-is e.columns e.unseen c h.old.unseen (let a = h.old.count in let b = h.reduced.columns in omega arith))

solved-is : (m : Entries) (r : ℕ) (e f : Reduction) → IsTaking m r e f → (t : ℕ) → t < length e.taken → IsRow m.columns (column e.solved t)
solved-is m r e f h t ht =
    subst (λ (n : ℕ). IsRow n (column e.solved t)) h.reduced.columns
    (column-is e.columns e.solved t h.old.solved (let a = h.old.sizes in omega arith))

g-is : (m : Entries) (r : ℕ) (e f : Reduction) (h : IsTaking m r e f) → IsRow m.columns (solved_column m r e f h)
g-is m r e f h = scaled-row m.columns h.takes.factor (column e.unseen h.takes.pivot) (unseen-is m r e f h h.takes.pivot (pivot-lt m r e f h))

-- the columns afterwards
unseen-at : (m : Entries) (r : ℕ) (e f : Reduction) (h : IsTaking m r e f) → (c : ℕ) → c < m.columns
    → column f.unseen c ≡ cleared (column m.rows r) (solved_column m r e f h) (column e.unseen c)
unseen-at m r e f h c hc =
    ap (λ (vs : List (List ℕ)). column vs c) h.takes.unseen
    ∙ get_or-map (cleared (column m.rows r) (solved_column m r e f h)) e.unseen c [] [] (let a = h.old.count in let b = h.reduced.columns in omega arith)

solved-at : (m : Entries) (r : ℕ) (e f : Reduction) (h : IsTaking m r e f) → (t : ℕ) → t < length e.taken
    → column f.solved t ≡ cleared (column m.rows r) (solved_column m r e f h) (column e.solved t)
solved-at m r e f h t ht =
    let within : t < length e.solved = let a = h.old.sizes in omega arith in
    let long = length-map e.solved (cleared (column m.rows r) (solved_column m r e f h)) in
    ap (λ (vs : List (List ℕ)). column vs t) h.takes.solved
    ∙ (get_or_append_left (map (cleared (column m.rows r) (solved_column m r e f h)) e.solved) (solved_column m r e f h ∷ []) [] t (omega arith)
    ∙ get_or-map (cleared (column m.rows r) (solved_column m r e f h)) e.solved t [] [] within)

last-at : (m : Entries) (r : ℕ) (e f : Reduction) (h : IsTaking m r e f) → column f.solved (length e.taken) ≡ solved_column m r e f h
last-at m r e f h =
    let long = length-map e.solved (cleared (column m.rows r) (solved_column m r e f h)) in
    let sizes = h.old.sizes in
    ap (λ (vs : List (List ℕ)). column vs (length e.taken)) h.takes.solved
    ∙ get_or_at (map (cleared (column m.rows r) (solved_column m r e f h)) e.solved) (solved_column m r e f h) [] [] (length e.taken) (omega arith)

taken-length : (m : Entries) (r : ℕ) (e f : Reduction) (h : IsTaking m r e f) → length f.taken ≡ length e.taken + 1
taken-length m r e f h = ap length h.takes.taken ∙ length_push e.taken r

split' : (m : Entries) (r : ℕ) (e f : Reduction) (h : IsTaking m r e f)
    → IsSplit prime m.columns (length f.taken) (cols f.unseen) (cols f.solved) (rows_taken m f.taken)
split' m r e f h =
    let row = column m.rows r in
    let o-is = row-is m r h.rows h.within in
    let g = solved_column m r e f h in
    let more : length f.taken ≡ suc (length e.taken) = let a = taken-length m r e f h in omega arith in
    subst (λ (k : ℕ). IsSplit prime m.columns k (cols f.unseen) (cols f.solved) (rows_taken m f.taken)) (sym more)
    (split_cleared prime m.columns (length e.taken) (cols e.unseen) (cols e.solved) (rows_taken m e.taken) (vec (column m.rows r)) (vec (solved_column m r e f h))
    (cols f.unseen) (cols f.solved) (rows_taken m f.taken) prime-pos h.reduced.split
    (record {
      unseen = λ c i hc hi. ap (λ (v : List ℕ). residue (vec v i)) (unseen-at m r e f h c hc)
          ∙ entry-cleared m.columns (column m.rows r) (solved_column m r e f h) (column e.unseen c) i o-is (g-is m r e f h) (unseen-is m r e f h c hc) hi;
      solved = λ t i ht hi. ap (λ (v : List ℕ). residue (vec v i)) (solved-at m r e f h t ht)
          ∙ entry-cleared m.columns (column m.rows r) (solved_column m r e f h) (column e.solved t) i o-is (g-is m r e f h) (solved-is m r e f h t ht) hi;
      last = λ i hi. ap (λ (v : List ℕ). residue (vec v i)) (last-at m r e f h);
      taken = λ t c ht hc. ap (λ (s : ℕ). vec (column m.rows s) c) (ap (λ (xs : List ℕ). entry xs t) h.takes.taken ∙ get_or_append_left e.taken (r ∷ []) 0 t ht);
      row = λ c hc. ap (λ (s : ℕ). vec (column m.rows s) c) (ap (λ (xs : List ℕ). entry xs (length e.taken)) h.takes.taken ∙ get_or_at e.taken r [] 0 (length e.taken) refl);
    }))

-- the row's product with g is 1
unit-product : (m : Entries) (r : ℕ) (e f : Reduction) (h : IsTaking m r e f)
    → residue (along m.columns (vec (column m.rows r)) (vec (solved_column m r e f h))) ≡ residue (pos 1)
unit-product m r e f h =
    let v = column e.unseen h.takes.pivot in
    let few : length (column e.unseen h.takes.pivot) ≤ m.columns = let a = (unseen-is m r e f h h.takes.pivot (pivot-lt m r e f h)).count in omega arith in
    let same = dot-same m.columns (column m.rows r) (column e.unseen h.takes.pivot) few in
    let s : residue (pos (dot (column m.rows r) (column e.unseen h.takes.pivot) % prime)) ≡ residue (along m.columns (vec (column m.rows r)) (cols e.unseen h.takes.pivot)) =
    residue-residue prime (pos (dot (column m.rows r) (column e.unseen h.takes.pivot))) prime-pos ∙ same in
    let one : residue (pos (dot (column m.rows r) (column e.unseen h.takes.pivot) % prime) *ℤ pos h.takes.factor) ≡ residue (pos 1) = h.takes.product in
    let F = var 0 in
    let A = var 1 in
    let S = var 2 in
    along-scaled m.columns h.takes.factor (vec (column m.rows r)) (column e.unseen h.takes.pivot)
    ∙ congruence prime (pos h.takes.factor ∷ along m.columns (vec (column m.rows r)) (cols e.unseen h.takes.pivot) ∷ pos (dot (column m.rows r) (column e.unseen h.takes.pivot) % prime) ∷ [])
    (F ⊗ A) (con (pos 1))
    (record { by = con (pos 0) ⊖ F; left = S; right = A } ∷ record { by = con (pos 1); left = S ⊗ F; right = con (pos 1) } ∷ []) prime-pos (s, (one, tt)) refl

-- a row before does not see g
before-product : (m : Entries) (r : ℕ) (e f : Reduction) (h : IsTaking m r e f) (s : ℕ) → s < r
    → residue (along m.columns (vec (column m.rows s)) (vec (solved_column m r e f h))) ≡ residue (pos 0)
before-product m r e f h s less =
    let few : length (column e.unseen h.takes.pivot) ≤ m.columns = let a = (unseen-is m r e f h h.takes.pivot (pivot-lt m r e f h)).count in omega arith in
    let none : residue (along m.columns (vec (column m.rows s)) (cols e.unseen h.takes.pivot)) ≡ residue (pos 0) =
    sym (dot-same m.columns (column m.rows s) (column e.unseen h.takes.pivot) few) ∙ h.reduced.unseen s h.takes.pivot less (pivot-lt m r e f h) in
    let F = var 0 in
    let A = var 1 in
    along-scaled m.columns h.takes.factor (vec (column m.rows s)) (column e.unseen h.takes.pivot)
    ∙ congruence prime (pos h.takes.factor ∷ along m.columns (vec (column m.rows s)) (cols e.unseen h.takes.pivot) ∷ []) (F ⊗ A) (con (pos 0))
    (record { by = F; left = A; right = con (pos 0) } ∷ []) prime-pos (none, tt) refl

-- no row up to this one sees a column afterwards
unseen' : (m : Entries) (r : ℕ) (e f : Reduction) (h : IsTaking m r e f) (s c : ℕ) → s < r + 1 → c < m.columns → dot (column m.rows s) (column f.unseen c) % prime ≡ 0
unseen' m r e f h s c hs hc =
    ap (λ (v : List ℕ). dot (column m.rows s) v % prime) (unseen-at m r e f h c hc)
    ∙ (dot-same m.columns (column m.rows s) (cleared (column m.rows r) (solved_column m r e f h) (column e.unseen c)) few
    ∙ (along_cleared m.columns (column m.rows s) (column m.rows r) (solved_column m r e f h) (column e.unseen c) (row-is m r h.rows h.within) (g-is m r e f h) (unseen-is m r e f h c hc)
    ∙ (elim (cases_eq s r) [ inl at ↦ here at | inr other ↦ before (omega arith) ])))
  where
    few : length (cleared (column m.rows r) (solved_column m r e f h) (column e.unseen c)) ≤ m.columns
    few = let a = (cleared-row m.columns (column m.rows r) (solved_column m r e f h) (column e.unseen c) (g-is m r e f h) (unseen-is m r e f h c hc)).count in omega arith

    A : ℤ
    A = along m.columns (vec (column m.rows r)) (cols e.unseen c)

    here : s ≡ r → residue (along m.columns (vec (column m.rows s)) (cols e.unseen c)
        +ℤ (pos 0 -ℤ along m.columns (vec (column m.rows r)) (cols e.unseen c)) *ℤ along m.columns (vec (column m.rows s)) (vec (solved_column m r e f h))) ≡ 0
    here at =
        let X = var 0 in
        let G = var 1 in
        ap (λ (t : ℕ). residue (along m.columns (vec (column m.rows t)) (cols e.unseen c)
        +ℤ (pos 0 -ℤ along m.columns (vec (column m.rows r)) (cols e.unseen c)) *ℤ along m.columns (vec (column m.rows t)) (vec (solved_column m r e f h)))) at
        ∙ congruence prime (along m.columns (vec (column m.rows r)) (cols e.unseen c) ∷ along m.columns (vec (column m.rows r)) (vec (solved_column m r e f h)) ∷ [])
        (X ⊕ (con (pos 0) ⊖ X) ⊗ G) (con (pos 0)) (record { by = con (pos 0) ⊖ X; left = G; right = con (pos 1) } ∷ []) prime-pos (unit-product m r e f h, tt) refl

    before : s < r → residue (along m.columns (vec (column m.rows s)) (cols e.unseen c)
        +ℤ (pos 0 -ℤ along m.columns (vec (column m.rows r)) (cols e.unseen c)) *ℤ along m.columns (vec (column m.rows s)) (vec (solved_column m r e f h))) ≡ 0
    before less =
        let short : length (column e.unseen c) ≤ m.columns = let a = (unseen-is m r e f h c hc).count in omega arith in
        let none : residue (along m.columns (vec (column m.rows s)) (cols e.unseen c)) ≡ residue (pos 0) =
        sym (dot-same m.columns (column m.rows s) (column e.unseen c) short) ∙ h.reduced.unseen s c less hc in
        let X = var 0 in
        let Y = var 1 in
        let G = var 2 in
        congruence prime
        (along m.columns (vec (column m.rows s)) (cols e.unseen c) ∷ along m.columns (vec (column m.rows r)) (cols e.unseen c) ∷ along m.columns (vec (column m.rows s)) (vec (solved_column m r e f h)) ∷ [])
        (X ⊕ (con (pos 0) ⊖ Y) ⊗ G) (con (pos 0))
        (record { by = con (pos 1); left = X; right = con (pos 0) } ∷ record { by = con (pos 0) ⊖ Y; left = G; right = con (pos 0) } ∷ []) prime-pos
        (none, (before-product m r e f h s less, tt)) refl

-- the pivot's column ends in 1 at its own place
pivot-ending : (m : Entries) (r : ℕ) (e f : Reduction) (h : IsTaking m r e f) → IsEnding (column e.unseen h.takes.pivot) h.takes.pivot
pivot-ending m r e f h =
    let less = pivot-lt m r e f h in
    let some = h.takes.first.some in
    let few : length (column e.unseen h.takes.pivot) ≤ m.columns = let a = (unseen-is m r e f h h.takes.pivot less).count in omega arith in
    elim (h.reduced.shape h.takes.pivot less) [
      | inl ending ↦ ending
      | inr nought ↦ let none = dot-nought m.columns (column m.rows r) (column e.unseen h.takes.pivot) few nought in absurd (omega arith)
    ]

-- and g is 0 behind it
g-behind : (m : Entries) (r : ℕ) (e f : Reduction) (h : IsTaking m r e f) (i : ℕ) → h.takes.pivot < i → entry (solved_column m r e f h) i ≡ 0
g-behind m r e f h i less =
    let none = (pivot-ending m r e f h).behind i less in
    let nought : 0 * h.takes.factor ≡ 0 = omega arith in
    entry-scaled h.takes.factor (column e.unseen h.takes.pivot) i
    ∙ (ap (λ (x : ℕ). (x * h.takes.factor) % prime) none ∙ ap (λ (x : ℕ). x % prime) nought)

-- an entry of a column is as before, where the row does not see the column or behind the pivot
kept-at : (m : Entries) (r : ℕ) (e f : Reduction) (h : IsTaking m r e f) (c i : ℕ) → c < m.columns
    → (dot (column m.rows r) (column e.unseen c) % prime ≡ 0) ⊎ (h.takes.pivot < i) → entry (column f.unseen c) i ≡ entry (column e.unseen c) i
kept-at m r e f h c i hc why =
    ap (λ (v : List ℕ). entry v i) (unseen-at m r e f h c hc)
    ∙ cleared-same m.columns (column m.rows r) (solved_column m r e f h) (column e.unseen c) i (g-is m r e f h) (unseen-is m r e f h c hc)
    (elim why [ inl none ↦ inl none | inr behind ↦ inr (g-behind m r e f h i behind) ])

same-shape : (v w : List ℕ) (c : ℕ) → ((i : ℕ) → entry w i ≡ entry v i) → IsEnding v c ⊎ IsNought v → IsEnding w c ⊎ IsNought w
same-shape v w c same (inl ending) = inl (record { one = same c ∙ ending.one; behind = λ i less. same i ∙ ending.behind i less })
same-shape v w c same (inr nought) = inr (λ i. same i ∙ nought i)

-- the pivot's column is 0 afterwards
pivot-nought : (m : Entries) (r : ℕ) (e f : Reduction) (h : IsTaking m r e f) → IsNought (column f.unseen h.takes.pivot)
pivot-nought m r e f h i =
    ap (λ (v : List ℕ). entry v i) (unseen-at m r e f h h.takes.pivot less)
    ∙ (elim (cases_lt i m.columns) [
      | inl within ↦ inside within
      | inr past ↦ get_or_past (cleared (column m.rows r) (solved_column m r e f h) (column e.unseen h.takes.pivot)) i 0 (let a = is.count in omega arith)
    ])
  where
    less : h.takes.pivot < m.columns
    less = pivot-lt m r e f h

    is : IsRow m.columns (cleared (column m.rows r) (solved_column m r e f h) (column e.unseen h.takes.pivot))
    is = cleared-row m.columns (column m.rows r) (solved_column m r e f h) (column e.unseen h.takes.pivot) (g-is m r e f h) (unseen-is m r e f h h.takes.pivot (pivot-lt m r e f h))

    inside : i < m.columns → entry (cleared (column m.rows r) (solved_column m r e f h) (column e.unseen h.takes.pivot)) i ≡ 0
    inside within =
        let whole = entry-cleared m.columns (column m.rows r) (solved_column m r e f h) (column e.unseen h.takes.pivot) i (row-is m r h.rows h.within) (g-is m r e f h)
        (unseen-is m r e f h h.takes.pivot less) within in
        let few : length (column e.unseen h.takes.pivot) ≤ m.columns = let a = (unseen-is m r e f h h.takes.pivot less).count in omega arith in
        let s : residue (pos (dot (column m.rows r) (column e.unseen h.takes.pivot) % prime)) ≡ residue (along m.columns (vec (column m.rows r)) (cols e.unseen h.takes.pivot)) =
        residue-residue prime (pos (dot (column m.rows r) (column e.unseen h.takes.pivot))) prime-pos ∙ dot-same m.columns (column m.rows r) (column e.unseen h.takes.pivot) few in
        let one : residue (pos (dot (column m.rows r) (column e.unseen h.takes.pivot) % prime) *ℤ pos h.takes.factor) ≡ residue (pos 1) = h.takes.product in
        let scaled : residue (vec (solved_column m r e f h) i) ≡ residue (cols e.unseen h.takes.pivot i *ℤ pos h.takes.factor) =
        ap (λ (x : ℕ). residue (pos x)) (entry-scaled h.takes.factor (column e.unseen h.takes.pivot) i)
        ∙ residue-residue prime (pos (entry (column e.unseen h.takes.pivot) i * h.takes.factor)) prime-pos in
        let W = var 0 in
        let A = var 1 in
        let G = var 2 in
        let F = var 3 in
        let S = var 4 in
        let gone : residue (cols e.unseen h.takes.pivot i -ℤ along m.columns (vec (column m.rows r)) (cols e.unseen h.takes.pivot) *ℤ vec (solved_column m r e f h) i) ≡ residue (pos 0) =
        congruence prime
        (cols e.unseen h.takes.pivot i ∷ along m.columns (vec (column m.rows r)) (cols e.unseen h.takes.pivot) ∷ vec (solved_column m r e f h) i ∷ pos h.takes.factor
        ∷ pos (dot (column m.rows r) (column e.unseen h.takes.pivot) % prime) ∷ [])
        (W ⊖ A ⊗ G) (con (pos 0))
        (record { by = con (pos 0) ⊖ A; left = G; right = W ⊗ F }
        ∷ record { by = W ⊗ F; left = S; right = A }
        ∷ record { by = con (pos 0) ⊖ W; left = S ⊗ F; right = con (pos 1) }
        ∷ []) prime-pos (scaled, (s, (one, tt))) refl in
        sym (residue-below prime (entry (cleared (column m.rows r) (solved_column m r e f h) (column e.unseen h.takes.pivot)) i)
        (entry-lt (cleared (column m.rows r) (solved_column m r e f h) (column e.unseen h.takes.pivot)) i is.residues))
        ∙ (whole ∙ gone)

shape' : (m : Entries) (r : ℕ) (e f : Reduction) (h : IsTaking m r e f) (c : ℕ) → c < m.columns → IsEnding (column f.unseen c) c ⊎ IsNought (column f.unseen c)
shape' m r e f h c hc =
    elim (cases_order c h.takes.pivot) [
      | inl at ↦ inr (subst (λ (b : ℕ). IsNought (column f.unseen b)) (sym at) (pivot-nought m r e f h))
      | inr apart ↦ elim apart [
        | inl before ↦ same-shape (column e.unseen c) (column f.unseen c) c (λ i. kept-at m r e f h c i hc (inl (h.takes.first.before c before))) (h.reduced.shape c hc)
        | inr behind ↦ elim (h.reduced.shape c hc) [
          | inl ending ↦ inl (record {
            one = kept-at m r e f h c c hc (inr behind) ∙ ending.one;
            behind = λ i less. kept-at m r e f h c i hc (inr (omega arith)) ∙ ending.behind i less;
          })
          | inr nought ↦
              let few : length (column e.unseen c) ≤ m.columns = let a = (unseen-is m r e f h c hc).count in omega arith in
              same-shape (column e.unseen c) (column f.unseen c) c
              (λ i. kept-at m r e f h c i hc (inl (dot-nought m.columns (column m.rows r) (column e.unseen c) few nought))) (inr nought)
        ]
      ]
    ]

left' : (m : Entries) (r : ℕ) (e f : Reduction) (h : IsTaking m r e f) → amount m.columns (own_entry f.unseen) + length f.taken ≡ m.columns
left' m r e f h =
    let l = h.reduced.left in
    let more = taken-length m r e f h in
    let fewer = amount-less m.columns h.takes.pivot (own_entry e.unseen) (own_entry f.unseen) (pivot-lt m r e f h)
    (λ c hc other. elim (cases_lt c h.takes.pivot) [
      | inl before ↦ kept-at m r e f h c c hc (inl (h.takes.first.before c before))
      | inr after ↦ kept-at m r e f h c c hc (inr (omega arith))
    ])
    (pivot-ending m r e f h).one (pivot-nought m r e f h h.takes.pivot) in
    omega arith

-- the row is no combination of the rows before it
fresh : (m : Entries) (r : ℕ) (e f : Reduction) (h : IsTaking m r e f) → IsCombination m r → ⊥
fresh m r e f h c =
    let less = pivot-lt m r e f h in
    let few : length (column e.unseen h.takes.pivot) ≤ m.columns = let a = (unseen-is m r e f h h.takes.pivot less).count in omega arith in
    let none = combination-none m r (column e.unseen h.takes.pivot) few c (λ s hs. h.reduced.unseen s h.takes.pivot hs less) h.rows h.within in
    let some = h.takes.first.some in
    omega arith

pub takes : (m : Entries) (r : ℕ) (e f : Reduction) → IsReduced m r e → IsReduction e → IsReduction f → AreRows m.columns m.rows → r < length m.rows → f.columns ≡ e.columns
    → Takes (column m.rows r) r e f → IsReduced m (r + 1) f
takes m r e f reduced old new rows within columns t =
    let h : IsTaking m r e f = record { reduced = reduced; old = old; new = new; rows = rows; within = within; columns = columns; takes = t } in
    record {
      columns = columns ∙ reduced.columns;
      split = split' m r e f h;
      unseen = unseen' m r e f h;
      shape = shape' m r e f h;
      left = left' m r e f h;
      rising = subst (λ (xs : List ℕ). AllPairs (λ (a b : ℕ). a < b) xs) (sym t.taken) (all_pairs_push (λ (a b : ℕ). a < b) e.taken r reduced.rising (λ k d less. reduced.below k d less));
      below = subst (λ (xs : List ℕ). All (λ (a : ℕ). a < r + 1) xs) (sym t.taken)
          (All-push (λ (a : ℕ). a < r + 1) e.taken r (All-weaker (λ (a : ℕ). a < r) (λ (a : ℕ). a < r + 1) (λ a l. omega arith) e.taken reduced.below) (omega arith));
      independent = subst (λ (xs : List ℕ). All (λ (a : ℕ). IsCombination m a → ⊥) xs) (sym t.taken)
          (All-push (λ (a : ℕ). IsCombination m a → ⊥) e.taken r reduced.independent (fresh m r e f h));
      others = λ s hs untaken. elim (cases_eq s r) [
        | inl at ↦ absurd (untaken (subst (λ (xs : List ℕ). Contains xs s) (sym t.taken) (subst (λ (y : ℕ). Contains (e.taken ++ r ∷ []) y) (sym at) (Contains-push e.taken r))))
        | inr other ↦ reduced.others s (omega arith) (λ c. untaken (subst (λ (xs : List ℕ). Contains xs s) (sym t.taken) (Contains-append_left e.taken (r ∷ []) s c)))
      ];
    }

-- one row further
pub advances : (m : Entries) (r : ℕ) (e f : Reduction) → IsReduced m r e → IsReduction e → IsReduction f → AreRows m.columns m.rows → r < length m.rows
    → Advances (column m.rows r) r e f → IsReduced m (r + 1) f
advances m r e f reduced old new rows within a =
    elim a.taken [
      | inl pass ↦ subst (λ (x : Reduction). IsReduced m (r + 1) x) (sym pass.same) (passes m r e reduced old rows within pass.none)
      | inr take ↦ takes m r e f reduced old new rows within a.columns take
    ]
