-- The observability matrix of a network modulo P: what the resistors and the sources are sent in as many steps as
-- there are states, from each state that is 1 at one reactance and 0 at the others.
use Rattle.std.specs.Prelude.{ℕ, suc, ◌==◌, if◌then◌else◌, ℤ, pos, List, length, map}
use Rattle.std.specs.List.{range_with_len, flat_map}
use Rattle.wdf_law.specs.Network.{Network, reactances, absorbing_numbers}
use Rattle.wdf_residue.specs.Residue.{residue}
use Rattle.wdf_residue.specs.Matrix.{Entries}
use Rattle.wdf_check.specs.ResidueStep.{steps}

-- the state that is 1 at the reactance k and 0 elsewhere
abbrev pub unit_state : ℕ → ℕ → ℤ
unit_state k i = if k == i then pos 1 else pos 0

-- row t·c + j for the observed element: its down wave at step t, counted from 0, from the unit state of each reactance
abbrev pub observed_row : Network → ℕ → ℕ → List ℕ
observed_row n t element = map (λ (k : ℕ). residue (steps n (suc t) (unit_state k) element)) (reactances n)

-- the rows of step t, one for each observed element
abbrev pub observed_rows : Network → ℕ → List (List ℕ)
observed_rows n t = map (observed_row n t) (absorbing_numbers n)

-- the rows of the first t steps
abbrev pub observed_for : Network → ℕ → List (List ℕ)
observed_for n t = flat_map (observed_rows n) (range_with_len 0 t)

-- the matrix: a column for each state, and the rows of as many steps
abbrev pub observability : Network → Entries
observability n = record { columns = length (reactances n); rows = observed_for n (length (reactances n)) }
