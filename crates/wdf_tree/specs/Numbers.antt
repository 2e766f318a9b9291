-- The inputs of a frame by the elements' numbers.
use Rattle.std.specs.Prelude.{ℕ, ℤ, List, [], ◌∷◌, slice_set}
use Rattle.wdf_law.specs.OutputRule.{scaled_up}

-- a list by element, with each source's value at its number
abbrev pub fed : ℕ → List ℕ → List ℤ → List ℤ → List ℤ
fed guard [] zs xs = xs
fed guard (k ∷ ks) [] xs = xs
fed guard (k ∷ ks) (z ∷ zs) xs = fed guard ks zs (slice_set xs k (scaled_up guard z))
