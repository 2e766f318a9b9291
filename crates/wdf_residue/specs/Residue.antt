-- Residues modulo the prime P = 2^61 - 1. A residue is a natural number below P; a whole number stands for the
-- residue that it differs from by a multiple of P.
use Rattle.std.specs.Prelude.{ℕ, ◌+◌, ◌*◌, ◌<◌, ℤ, List, [], ◌∷◌, All}
use Rattle.wdf_algebra.specs.Residues.{residue_by}

-- P = 2^61 - 1
abbrev pub prime : ℕ
prime = 2305843009213693951

-- the residue modulo P
abbrev pub residue : ℤ → ℕ
residue z = residue_by prime z

-- every entry is a residue
abbrev pub AreResidues : List ℕ → Type 0
AreResidues xs = All (λ (x : ℕ). x < prime) xs

-- the sum of the products of two lists' entries, before it is reduced
abbrev pub dot : List ℕ → List ℕ → ℕ
dot [] ys = 0
dot (x ∷ xs) [] = 0
dot (x ∷ xs) (y ∷ ys) = x * y + dot xs ys
