-- Vectors of residues as functions of the place, and what is done to them modulo P.
use Rattle.std.proofs.Common.{◌≡◌, ℕ, zero, suc, ◌+◌, ◌*◌, ◌%◌, ◌<◌, ◌≤◌, List, [], ◌∷◌, ◌++◌, length, take, get_or, refl, sym, ap, ◌∙◌, arith}
use Rattle.std.proofs.Math.Nat.{mod-lt, add-mod}
use Rattle.std.proofs.lemmas.List.{length-map, get_or_past}
use Rattle.std.proofs.lemmas.List.Elements.{All-head, All-tail, All-nil, All-cons, All-map}
use mathlib.Core.Logic.{◌⊎◌, inl, inr}
use Rattle.std.proofs.lemmas.Bool.{cases_lt}
use lib.IntN.{ℤ, pos, negsuc, ◌+ℤ◌, ◌-ℤ◌, ◌*ℤ◌, *ℤ_comm}
use Rattle.wdf_algebra.proofs.RingLaws.{linear, zero-mul}
use Rattle.wdf_algebra.proofs.Polynomials.{con, var, ◌⊖◌, ◌⊗◌}
use Rattle.wdf_residue.specs.Residue.{prime, residue, dot, AreResidues}
use Rattle.wdf_residue.specs.Matrix.{IsRow, AreRows, entry, column_entries}
use Rattle.wdf_residue.specs.Vectors.{scaled_by, less}
use Rattle.wdf_residue.specs.Solving.{cleared}
use Rattle.wdf_algebra.proofs.Congruences.{congruence, residue-lt, residue-residue, residue-below}
use Rattle.wdf_residue.proofs.Powers.{prime-pos}
use Rattle.wdf_residue.proofs.Totals.{total-nought, total-congruent, total-times}
use Rattle.wdf_residue.proofs.Splits.{along}

abbrev pub vec : List ℕ → ℕ → ℤ
vec xs j = pos (entry xs j)

-- an entry of a list of residues
pub entry-lt : (xs : List ℕ) (j : ℕ) → AreResidues xs → entry xs j < prime
entry-lt [] j h = prime-pos
entry-lt (x ∷ xs) zero h = All-head (λ (y : ℕ). y < prime) x xs h
entry-lt (x ∷ xs) (suc j) h = entry-lt xs j (All-tail (λ (y : ℕ). y < prime) x xs h)

-- a column's entries
pub column-residues : (n : ℕ) (rows : List (List ℕ)) (j : ℕ) → AreRows n rows → AreResidues (column_entries rows j)
column-residues n rows j h =
    All-map (λ (x : ℕ). x < prime) (λ (row : List ℕ). entry row j) rows (λ k d less. entry-lt (get_or rows k d) j ((h k d less).residues))

-- the products of two lists, as a sum over as many places as the second has
pub dot-total : (n : ℕ) (xs ys : List ℕ) → length ys ≤ n → pos (dot xs ys) ≡ along n (vec xs) (vec ys)
dot-total n [] ys h = sym (total-nought n (λ j. vec [] j *ℤ vec ys j) (λ j less. zero-mul (vec ys j)))
dot-total n (x ∷ xs) [] h =
    sym (total-nought n (λ j. vec (x ∷ xs) j *ℤ vec [] j) (λ j less. *ℤ_comm (vec (x ∷ xs) j) (pos 0) ∙ zero-mul (vec (x ∷ xs) j)))
dot-total zero (x ∷ xs) (y ∷ ys) h = absurd (omega arith)
dot-total (suc n) (x ∷ xs) (y ∷ ys) h = ap (λ (z : ℤ). pos (x * y) +ℤ z) (dot-total n xs ys (omega arith))

pub dot-same : (n : ℕ) (xs ys : List ℕ) → length ys ≤ n → dot xs ys % prime ≡ residue (along n (vec xs) (vec ys))
dot-same n xs ys h = ap residue (dot-total n xs ys h)

-- one product more
pub dot-more : (xs ys : List ℕ) (i : ℕ) → i < length xs → i < length ys → dot (take (i + 1) xs) (take (i + 1) ys) ≡ dot (take i xs) (take i ys) + entry xs i * entry ys i
dot-more [] ys i h k = absurd (omega arith)
dot-more (x ∷ xs) [] i h k = absurd (omega arith)
dot-more (x ∷ xs) (y ∷ ys) zero h k = omega arith
dot-more (x ∷ xs) (y ∷ ys) (suc i) h k =
    let next : suc i + 1 ≡ suc (i + 1) = omega arith in
    let rest = dot-more xs ys i (omega arith) (omega arith) in
    ap (λ (n : ℕ). dot (take n (x ∷ xs)) (take n (y ∷ ys))) next ∙ omega arith

pub less-more : (by : ℕ) (xs ys : List ℕ) (i : ℕ) → i < length xs → i < length ys
    → less by (take (i + 1) xs) (take (i + 1) ys) ≡ less by (take i xs) (take i ys) ++ residue (vec xs i -ℤ pos by *ℤ vec ys i) ∷ []
less-more by [] ys i h k = absurd (omega arith)
less-more by (x ∷ xs) [] i h k = absurd (omega arith)
less-more by (x ∷ xs) (y ∷ ys) zero h k = refl
less-more by (x ∷ xs) (y ∷ ys) (suc i) h k =
    let next : suc i + 1 ≡ suc (i + 1) = omega arith in
    ap (λ (n : ℕ). less by (take n (x ∷ xs)) (take n (y ∷ ys))) next
    ∙ ap (λ (zs : List ℕ). residue (pos x -ℤ pos by *ℤ pos y) ∷ zs) (less-more by xs ys i (omega arith) (omega arith))

-- a step of the loops over two vectors
pub dot_step : (xs ys : List ℕ) (i sum product next : ℕ) → i < length xs → i < length ys → sum ≡ dot (take i xs) (take i ys) % prime
    → product ≡ (entry xs i * entry ys i) % prime → next ≡ (sum + product) % prime → next ≡ dot (take (i + 1) xs) (take (i + 1) ys) % prime
dot_step xs ys i sum product next h k s p e =
    e ∙ ((λ j. (s j + p j) % prime) ∙ (sym (add-mod (dot (take i xs) (take i ys)) (entry xs i * entry ys i) prime) ∙ ap (λ (n : ℕ). n % prime) (sym (dot-more xs ys i h k))))

pub less_step : (by : ℕ) (xs ys rest : List ℕ) (i product next : ℕ) → i < length xs → i < length ys → rest ≡ less by (take i xs) (take i ys)
    → product ≡ (by * entry ys i) % prime → next ≡ residue (vec xs i -ℤ pos product) → rest ++ next ∷ [] ≡ less by (take (i + 1) xs) (take (i + 1) ys)
less_step by xs ys rest i product next h k r p e =
    let X = var 0 in
    let M = var 1 in
    let B = var 2 in
    let Y = var 3 in
    let same : residue (pos product) ≡ residue (pos by *ℤ vec ys i) = ap (λ (n : ℕ). residue (pos n)) p ∙ residue-residue prime (pos (by * entry ys i)) prime-pos in
    let whole : next ≡ residue (vec xs i -ℤ pos by *ℤ vec ys i) =
    e ∙ congruence prime (vec xs i ∷ pos product ∷ pos by ∷ vec ys i ∷ []) (X ⊖ M) (X ⊖ B ⊗ Y) (record { by = con (negsuc 0); left = M; right = B ⊗ Y } ∷ []) prime-pos (same, tt) refl in
    (λ j. r j ++ whole j ∷ []) ∙ sym (less-more by xs ys i h k)

pub ruleset stepping = (dot_step, less_step)

pub length-less : (by : ℕ) (xs ys : List ℕ) → length xs ≡ length ys → length (less by xs ys) ≡ length xs
length-less by [] ys h = refl
length-less by (x ∷ xs) [] h = absurd (omega arith)
length-less by (x ∷ xs) (y ∷ ys) h = ap suc (length-less by xs ys (omega arith))

pub entry-less : (by : ℕ) (xs ys : List ℕ) (j : ℕ) → length xs ≡ length ys → j < length xs → entry (less by xs ys) j ≡ residue (vec xs j -ℤ pos by *ℤ vec ys j)
entry-less by [] ys j h k = absurd (omega arith)
entry-less by (x ∷ xs) [] j h k = absurd (omega arith)
entry-less by (x ∷ xs) (y ∷ ys) zero h k = refl
entry-less by (x ∷ xs) (y ∷ ys) (suc j) h k = entry-less by xs ys j (omega arith) (omega arith)

pub less-residues : (by : ℕ) (xs ys : List ℕ) → AreResidues (less by xs ys)
less-residues by [] ys = All-nil (λ (y : ℕ). y < prime)
less-residues by (x ∷ xs) [] = All-nil (λ (y : ℕ). y < prime)
less-residues by (x ∷ xs) (y ∷ ys) =
    All-cons (λ (z : ℕ). z < prime) (residue (pos x -ℤ pos by *ℤ pos y)) (less by xs ys) (residue-lt prime (pos x -ℤ pos by *ℤ pos y) prime-pos) (less-residues by xs ys)

pub scaled-row : (n by : ℕ) (xs : List ℕ) → IsRow n xs → IsRow n (scaled_by by xs)
scaled-row n by xs h = record {
  count = length-map xs (λ (x : ℕ). (x * by) % prime) ∙ h.count;
  residues = All-map (λ (y : ℕ). y < prime) (λ (x : ℕ). (x * by) % prime) xs (λ k d less. mod-lt (get_or xs k d * by) prime-pos);
}

pub entry-scaled : (by : ℕ) (xs : List ℕ) (j : ℕ) → entry (scaled_by by xs) j ≡ (entry xs j * by) % prime
entry-scaled by [] j = let none : 0 * by ≡ 0 = omega arith in sym (ap (λ (n : ℕ). n % prime) none)
entry-scaled by (x ∷ xs) zero = refl
entry-scaled by (x ∷ xs) (suc j) = entry-scaled by xs j

-- the product with a scaled vector
pub along-scaled : (n by : ℕ) (o : ℕ → ℤ) (xs : List ℕ) → residue (along n o (vec (scaled_by by xs))) ≡ residue (pos by *ℤ along n o (vec xs))
along-scaled n by o xs =
    total-congruent prime n (λ j. o j *ℤ vec (scaled_by by xs) j) (λ j. pos by *ℤ (o j *ℤ vec xs j)) prime-pos
    (λ j less.
    let O = var 0 in
    let B = var 1 in
    let X = var 2 in
    let S = var 3 in
    congruence prime (o j ∷ pos by ∷ vec xs j ∷ vec (scaled_by by xs) j ∷ []) (O ⊗ S) (B ⊗ (O ⊗ X))
    (record { by = O; left = S; right = X ⊗ B } ∷ []) prime-pos
    (ap (λ (z : ℕ). residue (pos z)) (entry-scaled by xs j) ∙ residue-residue prime (pos (entry xs j * by)) prime-pos, tt) refl)
    ∙ ap residue (total-times n (pos by) (λ j. o j *ℤ vec xs j))

pub cleared-row : (n : ℕ) (row g w : List ℕ) → IsRow n g → IsRow n w → IsRow n (cleared row g w)
cleared-row n row g w hg hw = record {
  count = length-less (dot row w % prime) w g (hw.count ∙ sym hg.count) ∙ hw.count;
  residues = less-residues (dot row w % prime) w g;
}

-- an entry of a cleared column
pub entry-cleared : (n : ℕ) (row g w : List ℕ) (i : ℕ) → IsRow n row → IsRow n g → IsRow n w → i < n
    → residue (vec (cleared row g w) i) ≡ residue (vec w i -ℤ along n (vec row) (vec w) *ℤ vec g i)
entry-cleared n row g w i ho hg hw h =
    let few : length w ≤ n = let e = hw.count in omega arith in
    let less_len : i < length w = let e = hw.count in omega arith in
    let by : ℕ = dot row w % prime in
    let same : residue (pos (dot row w % prime)) ≡ residue (along n (vec row) (vec w)) =
    residue-residue prime (pos (dot row w)) prime-pos ∙ dot-same n row w few in
    let W = var 0 in
    let B = var 1 in
    let A = var 2 in
    let G = var 3 in
    ap (λ (z : ℕ). residue (pos z)) (entry-less (dot row w % prime) w g i (hw.count ∙ sym hg.count) less_len)
    ∙ (residue-residue prime (vec w i -ℤ pos (dot row w % prime) *ℤ vec g i) prime-pos
    ∙ congruence prime (vec w i ∷ pos (dot row w % prime) ∷ along n (vec row) (vec w) ∷ vec g i ∷ []) (W ⊖ B ⊗ G) (W ⊖ A ⊗ G)
    (record { by = con (pos 0) ⊖ G; left = B; right = A } ∷ []) prime-pos (same, tt) refl)

-- it is as before where the row does not see the column, or g is 0 there
pub cleared-same : (n : ℕ) (row g w : List ℕ) (i : ℕ) → IsRow n g → IsRow n w → (dot row w % prime ≡ 0) ⊎ (entry g i ≡ 0) → entry (cleared row g w) i ≡ entry w i
cleared-same n row g w i hg hw h = by (cases_lt i n)
  where
    small : entry w i < prime
    small = entry-lt w i hw.residues

    none : (dot row w % prime ≡ 0) ⊎ (entry g i ≡ 0) → pos (dot row w % prime) *ℤ vec g i ≡ pos 0
    none (inl e) = ap (λ (b : ℕ). pos b *ℤ vec g i) e ∙ zero-mul (vec g i)
    none (inr e) = ap (λ (b : ℕ). pos (dot row w % prime) *ℤ pos b) e ∙ (*ℤ_comm (pos (dot row w % prime)) (pos 0) ∙ zero-mul (pos (dot row w % prime)))

    by : (i < n) ⊎ (n ≤ i) → entry (cleared row g w) i ≡ entry w i
    by (inl less_n) =
        let within : i < length w = let e = hw.count in omega arith in
        let nought = none h in
        let whole : vec w i -ℤ pos (dot row w % prime) *ℤ vec g i ≡ vec w i = omega (arith, linear) in
        entry-less (dot row w % prime) w g i (hw.count ∙ sym hg.count) within ∙ (ap residue whole ∙ residue-below prime (entry w i) small)
    by (inr past) =
        let long = (cleared-row n row g w hg hw).count in
        let e = hw.count in
        get_or_past (cleared row g w) i 0 (omega arith) ∙ sym (get_or_past w i 0 (omega arith))
