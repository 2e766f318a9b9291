-- Multiples and differences of vectors of residues.
use Rattle.std.specs.Prelude.{ℕ, ◌*◌, ◌%◌, List, [], ◌∷◌, map, pos, ◌-ℤ◌, ◌*ℤ◌}
use Rattle.wdf_residue.specs.Residue.{prime, residue}

-- each entry times `by`
abbrev pub scaled_by : ℕ → List ℕ → List ℕ
scaled_by by xs = map (λ (x : ℕ). (x * by) % prime) xs

-- xs - by·ys
abbrev pub less : ℕ → List ℕ → List ℕ → List ℕ
less by [] ys = []
less by (x ∷ xs) [] = []
less by (x ∷ xs) (y ∷ ys) = residue (pos x -ℤ pos by *ℤ pos y) ∷ less by xs ys
