-- Numbers that no row sees are 0, where rows have a left inverse.
use Rattle.std.proofs.Common.{◌≡◌, ℕ, zero, suc, ◌<◌, ◌≤◌, List, [], ◌∷◌, length, sym, ap, ◌∙◌, arith}
use Rattle.std.specs.Prelude.{slice_index_or}
use Rattle.std.proofs.lemmas.List.{length-map, get_or-map}
use Rattle.std.proofs.lemmas.List.Elements.{All-get_or, All-from_get_or}
use lib.IntN.{ℤ, pos, ◌+ℤ◌, ◌*ℤ◌, *ℤ_comm}
use Rattle.wdf_algebra.proofs.RingLaws.{linear, zero-mul}
use Rattle.wdf_residue.specs.Residue.{prime, residue}
use Rattle.wdf_residue.specs.Matrix.{entry, entry_at, column_of, written_row}
use Rattle.wdf_residue.specs.Solving.{column}
use Rattle.wdf_residue.specs.Laws.{weighed, SeesEach}
use Rattle.wdf_residue.proofs.Powers.{prime-pos}
use Rattle.wdf_residue.proofs.Totals.{total, total-nought, total-equal}
use Rattle.wdf_residue.proofs.Splits.{along, IsSplit, column_split}
use Rattle.wdf_residue.proofs.VectorLemmas.{vec, dot-same}
use Rattle.wdf_residue.proofs.Reduced.{rows_taken}
use Rattle.wdf_residue.proofs.Ends.{entry-unit}

pub weighed-total : (n : ℕ) (row : List ℕ) (zs : List ℤ) → length zs ≤ n → weighed row zs ≡ along n (vec row) (λ j. slice_index_or zs j (pos 0))
weighed-total n [] zs h = sym (total-nought n (λ j. vec [] j *ℤ slice_index_or zs j (pos 0)) (λ j less. zero-mul (slice_index_or zs j (pos 0))))
weighed-total n (x ∷ xs) [] h =
    sym (total-nought n (λ j. vec (x ∷ xs) j *ℤ slice_index_or [] j (pos 0)) (λ j less. *ℤ_comm (vec (x ∷ xs) j) (pos 0) ∙ zero-mul (vec (x ∷ xs) j)))
weighed-total zero (x ∷ xs) (z ∷ zs) h = absurd (omega arith)
weighed-total (suc n) (x ∷ xs) (z ∷ zs) h = ap (λ (y : ℤ). pos x *ℤ z +ℤ y) (weighed-total n xs zs (omega arith))

pub sees_each : SeesEach
sees_each m numbers inverse zs within product long none =
    All-from_get_or (λ (z : ℤ). residue z ≡ 0) zs (pos 0) (λ i h. each i (let e = long in omega arith))
  where
    split : IsSplit prime m.columns (length numbers) (λ c i. pos 0) (λ t i. vec (written_row (length numbers) inverse i) t) (rows_taken m numbers)
    split i c hi hc =
        let few : length (column_of m.rows numbers c) ≤ length numbers = let a = length-map numbers (λ (r : ℕ). entry_at m.rows r c) in omega arith in
        let named : total (length numbers) (λ t. vec (written_row (length numbers) inverse i) t *ℤ rows_taken m numbers t c)
        ≡ along (length numbers) (vec (written_row (length numbers) inverse i)) (vec (column_of m.rows numbers c)) =
        total-equal (length numbers) (λ t. vec (written_row (length numbers) inverse i) t *ℤ rows_taken m numbers t c)
        (λ t. vec (written_row (length numbers) inverse i) t *ℤ vec (column_of m.rows numbers c) t)
        (λ t ht. ap (λ (x : ℕ). vec (written_row (length numbers) inverse i) t *ℤ pos x) (sym (get_or-map (λ (r : ℕ). entry_at m.rows r c) numbers t 0 0 ht))) in
        let alone : pos 0 +ℤ total (length numbers) (λ t. vec (written_row (length numbers) inverse i) t *ℤ rows_taken m numbers t c)
        ≡ total (length numbers) (λ t. vec (written_row (length numbers) inverse i) t *ℤ rows_taken m numbers t c) = omega (arith, linear) in
        ap residue (alone ∙ named)
        ∙ (sym (dot-same (length numbers) (written_row (length numbers) inverse i) (column_of m.rows numbers c) few) ∙ (product i c hi hc ∙ sym (entry-unit i c)))

    each : (i : ℕ) → i < m.columns → residue (slice_index_or zs i (pos 0)) ≡ 0
    each i hi =
        let gone = total-nought m.columns (λ c. pos 0 *ℤ slice_index_or zs c (pos 0)) (λ c hc. zero-mul (slice_index_or zs c (pos 0))) in
        column_split prime m.columns (length numbers) (λ c j. pos 0) (λ t j. vec (written_row (length numbers) inverse j) t) (rows_taken m numbers) prime-pos split
        (λ j. slice_index_or zs j (pos 0))
        (λ t ht.
        let there : entry numbers t < length m.rows = All-get_or (λ (r : ℕ). r < length m.rows) numbers t 0 ht within in
        let few : length zs ≤ m.columns = let e = long in omega arith in
        ap residue (sym (weighed-total m.columns (column m.rows (entry numbers t)) zs few))
        ∙ All-get_or (λ (row : List ℕ). residue (weighed row zs) ≡ 0) m.rows (entry numbers t) [] there none)
        i hi
        ∙ ap residue gone
