-- The observability matrix is one of residues.
use Rattle.std.proofs.Common.{ℕ, suc, ◌<◌, List, [], ◌∷◌, length, get_or}
use Rattle.std.specs.Prelude.{All}
use Rattle.std.specs.List.{range_with_len, flat_map}
use Rattle.std.proofs.lemmas.List.{length-map}
use Rattle.std.proofs.lemmas.List.Elements.{All-append, All-map, All-nil}
use Rattle.wdf_algebra.proofs.Congruences.{residue-lt}
use Rattle.wdf_law.specs.Network.{Network, reactances, absorbing_numbers}
use Rattle.wdf_residue.specs.Residue.{prime, residue}
use Rattle.wdf_residue.specs.Matrix.{IsRow}
use Rattle.wdf_check.specs.ResidueStep.{steps}
use Rattle.wdf_check.specs.Observability.{unit_state, observed_row, observed_rows}
use Rattle.wdf_check.specs.Laws.{HasResidues}
use Rattle.wdf_check.proofs.ExactSteps.{prime-pos}

-- lists joined end to end
All-flat_map : {X Y : Type 0} (P : X → Type 0) (f : Y → List X) → ((y : Y) → All P (f y)) → (ys : List Y) → All P (flat_map f ys)
All-flat_map P f each [] = All-nil P
All-flat_map P f each (y ∷ ys) = All-append P (f y) (flat_map f ys) (each y) (All-flat_map P f each ys)

row_of : (n : Network) (t element : ℕ) → IsRow (length (reactances n)) (observed_row n t element)
row_of n t element = record {
  count = length-map (reactances n) (λ (k : ℕ). residue (steps n (suc t) (unit_state k) element));
  residues = All-map (λ (r : ℕ). r < prime) (λ (k : ℕ). residue (steps n (suc t) (unit_state k) element)) (reactances n)
      (λ i d less. residue-lt prime (steps n (suc t) (unit_state (get_or (reactances n) i d)) element) prime-pos);
}

pub residues : HasResidues
residues n =
    All-flat_map (IsRow (length (reactances n))) (observed_rows n)
    (λ t. All-map (IsRow (length (reactances n))) (observed_row n t) (absorbing_numbers n) (λ i d less. row_of n t (get_or (absorbing_numbers n) i d)))
    (range_with_len 0 (length (reactances n)))
