-- What elimination keeps, row after row.
use Rattle.std.proofs.Common.{◌≡◌, ℕ, ◌+◌, ◌%◌, ◌<◌, ◌≤◌, List, [], ◌∷◌, map, length, refl, sym, ap, ◌∙◌, subst, arith}
use Rattle.std.specs.Prelude.{All, AllPairs, Contains}
use Rattle.std.proofs.lemmas.List.{length-map, get_or-map}
use Rattle.std.proofs.lemmas.List.Elements.{All-get_or, All-weaker}
use Rattle.std.proofs.lemmas.Bool.{cases_eq}
use mathlib.Core.Logic.{◌⊎◌, inl, inr}
use lib.IntN.{ℤ, pos, ◌+ℤ◌, ◌*ℤ◌, *ℤ_comm}
use Rattle.wdf_algebra.proofs.RingLaws.{zero-mul}
use Rattle.wdf_algebra.proofs.Polynomials.{con, var, ◌⊕◌, ◌⊗◌}
use Rattle.wdf_residue.specs.Residue.{prime, residue, dot}
use Rattle.wdf_residue.specs.Matrix.{Entries, IsRow, AreRows, entry, entry_at, column_of}
use Rattle.wdf_residue.specs.Vectors.{less}
use Rattle.wdf_residue.specs.Elimination.{IsCombination}
use Rattle.wdf_residue.specs.Solving.{Reduction, IsReduction, column, SeesNone, own_entry}
use Rattle.wdf_algebra.proofs.Congruences.{congruence, residue-residue, residue-below}
use Rattle.wdf_residue.proofs.Powers.{prime-pos}
use Rattle.wdf_residue.proofs.Totals.{total, total-nought, total-congruent}
use Rattle.wdf_residue.proofs.Splits.{along, IsSplit, row_split}
use Rattle.wdf_residue.proofs.VectorLemmas.{vec, entry-lt, dot-same}
use Rattle.wdf_residue.proofs.Amounts.{amount, none-amount}

-- columns as functions
abbrev pub cols : List (List ℕ) → ℕ → ℕ → ℤ
cols vs c = vec (column vs c)

-- the taken rows as functions
abbrev pub rows_taken : Entries → List ℕ → ℕ → ℕ → ℤ
rows_taken m numbers t = vec (column m.rows (entry numbers t))

-- 1 at its own place and 0 behind it
pub record IsEnding (v : List ℕ) (c : ℕ) : Type 0 where
  pub one : entry v c ≡ 1
  pub behind : (i : ℕ) → c < i → entry v i ≡ 0

abbrev pub IsNought : List ℕ → Type 0
IsNought v = (i : ℕ) → entry v i ≡ 0

-- where elimination stands behind r rows of m
pub record IsReduced (m : Entries) (r : ℕ) (e : Reduction) : Type 0 where
  pub columns : e.columns ≡ m.columns
  pub split : IsSplit prime m.columns (length e.taken) (cols e.unseen) (cols e.solved) (rows_taken m e.taken)
  pub unseen : (s c : ℕ) → s < r → c < m.columns → dot (column m.rows s) (column e.unseen c) % prime ≡ 0
  pub shape : (c : ℕ) → c < m.columns → IsEnding (column e.unseen c) c ⊎ IsNought (column e.unseen c)
  pub left : amount m.columns (own_entry e.unseen) + length e.taken ≡ m.columns
  pub rising : AllPairs (λ (a b : ℕ). a < b) e.taken
  pub below : All (λ (a : ℕ). a < r) e.taken
  pub independent : All (λ (a : ℕ). IsCombination m a → ⊥) e.taken
  pub others : (s : ℕ) → s < r → (Contains e.taken s → ⊥) → IsCombination m s

-- ---- rows and columns

pub row-is : (m : Entries) (r : ℕ) → AreRows m.columns m.rows → r < length m.rows → IsRow m.columns (column m.rows r)
row-is m r h less = All-get_or (IsRow m.columns) m.rows r [] less h

pub column-is : (n : ℕ) (vs : List (List ℕ)) (c : ℕ) → AreRows n vs → c < length vs → IsRow n (column vs c)
column-is n vs c h less = All-get_or (IsRow n) vs c [] less h

-- a nought column is not seen
pub dot-nought : (n : ℕ) (row v : List ℕ) → length v ≤ n → IsNought v → dot row v % prime ≡ 0
dot-nought n row v few none =
    dot-same n row v few ∙ ap residue (total-nought n (λ j. vec row j *ℤ vec v j) (λ j h. ap (λ (x : ℕ). vec row j *ℤ pos x) (none j) ∙ (*ℤ_comm (vec row j) (pos 0) ∙ zero-mul (vec row j))))

-- a column with no own entry is nought
pub closed : (m : Entries) (r : ℕ) (e : Reduction) → IsReduced m r e → (c : ℕ) → c < m.columns → own_entry e.unseen c ≡ 0 → IsNought (column e.unseen c)
closed m r e h c less none =
    elim (h.shape c less) [ inl ending ↦ let one = ending.one in absurd (omega arith) | inr nought ↦ nought ]

-- ---- a row that is passed over

-- where as many rows are taken as there are columns, no row sees a column
pub all_nought : (m : Entries) (r : ℕ) (e : Reduction) → IsReduced m r e → length e.taken ≡ m.columns → (c : ℕ) → c < m.columns → IsNought (column e.unseen c)
all_nought m r e h full c less =
    let l = h.left in
    let none : amount m.columns (own_entry e.unseen) ≡ 0 = omega arith in
    closed m r e h c less (none-amount m.columns (own_entry e.unseen) none c less)

-- a row that sees no column is a combination of the taken rows
pub unseen-combination : (m : Entries) (r : ℕ) (e : Reduction) → IsReduced m r e → IsReduction e → AreRows m.columns m.rows → r < length m.rows
    → ((c : ℕ) → c < m.columns → dot (column m.rows r) (column e.unseen c) % prime ≡ 0) → IsCombination m r
unseen-combination m r e h is rows less none = record {
  weights = map (λ (v : List ℕ). dot (column m.rows r) v % prime) e.solved;
  numbers = e.taken;
  before = h.below;
  same = same;
}
  where
    row : List ℕ
    row = column m.rows r

    weights : List ℕ
    weights = map (λ (v : List ℕ). dot (column m.rows r) v % prime) e.solved

    k : ℕ
    k = length e.taken

    one : (j t : ℕ) → t < length e.taken
        → residue (vec (map (λ (v : List ℕ). dot (column m.rows r) v % prime) e.solved) t *ℤ vec (column_of m.rows e.taken j) t)
        ≡ residue (along m.columns (vec (column m.rows r)) (cols e.solved t) *ℤ rows_taken m e.taken t j)
    one j t l =
        let within : t < length e.solved = let s = is.sizes in omega arith in
        let col = column-is e.columns e.solved t is.solved within in
        let few : length (column e.solved t) ≤ m.columns = let a = col.count in let b = h.columns in omega arith in
        let w : entry (map (λ (v : List ℕ). dot (column m.rows r) v % prime) e.solved) t ≡ dot (column m.rows r) (column e.solved t) % prime =
        get_or-map (λ (v : List ℕ). dot (column m.rows r) v % prime) e.solved t [] 0 within in
        let x : entry (column_of m.rows e.taken j) t ≡ entry_at m.rows (entry e.taken t) j = get_or-map (λ (s : ℕ). entry_at m.rows s j) e.taken t 0 0 l in
        let W = var 0 in
        let A = var 1 in
        let X = var 2 in
        let Y = var 3 in
        congruence prime
        (vec (map (λ (v : List ℕ). dot (column m.rows r) v % prime) e.solved) t ∷ along m.columns (vec (column m.rows r)) (cols e.solved t) ∷ vec (column_of m.rows e.taken j) t ∷ rows_taken m e.taken t j ∷ [])
        (W ⊗ X) (A ⊗ Y)
        (record { by = X; left = W; right = A } ∷ record { by = A; left = X; right = Y } ∷ []) prime-pos (
          ap (λ (z : ℕ). residue (pos z)) w ∙ (residue-residue prime (pos (dot (column m.rows r) (column e.solved t))) prime-pos ∙ dot-same m.columns (column m.rows r) (column e.solved t) few),
          (ap (λ (z : ℕ). residue (pos z)) x, tt),
        )
        refl

    same : (j : ℕ) → j < m.columns → dot (map (λ (v : List ℕ). dot (column m.rows r) v % prime) e.solved) (column_of m.rows e.taken j) % prime ≡ entry_at m.rows r j
    same j lj =
        let few : length (column_of m.rows e.taken j) ≤ length e.taken = let a = length-map e.taken (λ (s : ℕ). entry_at m.rows s j) in omega arith in
        let sums = total-congruent prime (length e.taken)
        (λ t. vec (map (λ (v : List ℕ). dot (column m.rows r) v % prime) e.solved) t *ℤ vec (column_of m.rows e.taken j) t)
        (λ t. along m.columns (vec (column m.rows r)) (cols e.solved t) *ℤ rows_taken m e.taken t j) prime-pos (one j) in
        let whole = row_split prime m.columns (length e.taken) (cols e.unseen) (cols e.solved) (rows_taken m e.taken) prime-pos h.split (vec (column m.rows r)) j lj in
        let within : j < length e.unseen = let a = is.count in let b = h.columns in omega arith in
        let col = column-is e.columns e.unseen j is.unseen within in
        let short : length (column e.unseen j) ≤ m.columns = let a = col.count in let b = h.columns in omega arith in
        let gone : residue (along m.columns (vec (column m.rows r)) (cols e.unseen j)) ≡ residue (pos 0) =
        sym (dot-same m.columns (column m.rows r) (column e.unseen j) short) ∙ none j lj in
        let A = var 0 in
        let S = var 1 in
        let rest : residue (along m.columns (vec (column m.rows r)) (cols e.unseen j) +ℤ total (length e.taken) (λ t. along m.columns (vec (column m.rows r)) (cols e.solved t) *ℤ rows_taken m e.taken t j))
        ≡ residue (total (length e.taken) (λ t. along m.columns (vec (column m.rows r)) (cols e.solved t) *ℤ rows_taken m e.taken t j)) =
        congruence prime
        (along m.columns (vec (column m.rows r)) (cols e.unseen j) ∷ total (length e.taken) (λ t. along m.columns (vec (column m.rows r)) (cols e.solved t) *ℤ rows_taken m e.taken t j) ∷ [])
        (A ⊕ S) S (record { by = con (pos 1); left = A; right = con (pos 0) } ∷ []) prime-pos (gone, tt) refl in
        dot-same (length e.taken) (map (λ (v : List ℕ). dot (column m.rows r) v % prime) e.solved) (column_of m.rows e.taken j) few
        ∙ (sums ∙ (sym (whole ∙ rest) ∙ residue-below prime (entry_at m.rows r j) (entry-lt (column m.rows r) j (row-is m r rows less).residues)))

pub passes : (m : Entries) (r : ℕ) (e : Reduction) → IsReduced m r e → IsReduction e → AreRows m.columns m.rows → r < length m.rows
    → (length e.taken ≡ e.columns) ⊎ SeesNone (column m.rows r) e.unseen → IsReduced m (r + 1) e
passes m r e h is rows less why = record {
  columns = h.columns;
  split = h.split;
  unseen = λ s c hs hc. elim (cases_eq s r) [
    | inl at ↦ ap (λ (t : ℕ). dot (column m.rows t) (column e.unseen c) % prime) at ∙ none c hc
    | inr other ↦ h.unseen s c (omega arith) hc
  ];
  shape = h.shape;
  left = h.left;
  rising = h.rising;
  below = All-weaker (λ (a : ℕ). a < r) (λ (a : ℕ). a < r + 1) (λ a l. omega arith) e.taken h.below;
  independent = h.independent;
  others = λ s hs fresh. elim (cases_eq s r) [
    | inl at ↦ subst (λ (t : ℕ). IsCombination m t) (sym at) (unseen-combination m r e h is rows less none)
    | inr other ↦ h.others s (omega arith) fresh
  ];
}
  where
    none : (c : ℕ) → c < m.columns → dot (column m.rows r) (column e.unseen c) % prime ≡ 0
    none c hc =
        let within : c < length e.unseen = let a = is.count in let b = h.columns in omega arith in
        let col = column-is e.columns e.unseen c is.unseen within in
        let short : length (column e.unseen c) ≤ m.columns = let a = col.count in let b = h.columns in omega arith in
        elim why [
          | inl full ↦ dot-nought m.columns (column m.rows r) (column e.unseen c) short (all_nought m r e h (full ∙ h.columns) c hc)
          | inr sees ↦ sees c within
        ]
