-- Four numbers at a time, as the lanes of a vector.
use Rattle.std.specs.Prelude.{◌≡◌, ℕ, ◌+◌, if◌then◌else◌, List, [], ◌∷◌, length, ℤ, All, FitsSigned}
use Rattle.std.specs.Int.{w64}
use Rattle.std.specs.Ordering.{int_eq}

-- zs are four numbers of 64 bits
pub record AreFour (zs : List ℤ) : Type 0 where
  pub count : length zs ≡ 4
  pub words : All (FitsSigned w64) zs

-- at how many places two lists differ
abbrev pub changes : List ℤ → List ℤ → ℕ
changes [] ys = 0
changes (x ∷ xs) [] = 0
changes (x ∷ xs) (y ∷ ys) = (if int_eq x y then 0 else 1) + changes xs ys
