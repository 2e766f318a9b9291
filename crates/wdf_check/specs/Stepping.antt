-- States of all elements of a network as lists of residues, and their residue step.
use Rattle.std.specs.Prelude.{ℕ, ℤ, pos, List, length, map, slice_index_or}
use Rattle.std.specs.List.{range_with_len}
use Rattle.wdf_law.specs.Network.{Network, elements}
use Rattle.wdf_residue.specs.Residue.{residue}
use Rattle.wdf_check.specs.ResidueStep.{next, steps}
use Rattle.wdf_check.specs.Observability.{unit_state}

-- the state that a list has at each number, 0 behind its end
abbrev pub state_of : List ℕ → ℕ → ℤ
state_of xs i = pos (slice_index_or xs i 0)

-- the residues of a state at the numbers below c
abbrev pub residues_of : ℕ → (ℕ → ℤ) → List ℕ
residues_of c x = map (λ (i : ℕ). residue (x i)) (range_with_len 0 c)

-- the residue step of a list
abbrev pub stepped : Network → List ℕ → List ℕ
stepped n xs = residues_of (length (elements n)) (next n (state_of xs))

-- the waves after t steps from the unit state of a reactance
abbrev pub trajectory : Network → ℕ → ℕ → List ℕ
trajectory n t k = residues_of (length (elements n)) (steps n t (unit_state k))
