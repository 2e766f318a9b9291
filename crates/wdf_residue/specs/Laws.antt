-- What the arithmetic modulo P implies.
use Rattle.std.specs.Prelude.{◌≡◌, ◌⊎◌, ℕ, ◌*◌, ◌%◌, ◌<◌, ℤ, pos, ◌+ℤ◌, ◌*ℤ◌, List, [], ◌∷◌, length, All}
use Rattle.wdf_residue.specs.Residue.{prime, residue}
use Rattle.wdf_residue.specs.Matrix.{Entries, AreRows, IsLeftInverse}
use Rattle.wdf_residue.specs.Elimination.{AreFirstIndependent, IsInverse, IsFirstDependence}

-- b is a's inverse: a residue with a·b = 1 modulo P
pub record IsInverseOf (a b : ℕ) : Type 0 where
  pub below : b < prime
  pub product : (a * b) % prime ≡ 1

-- a has an inverse
abbrev pub HasInverse : ℕ → Type 0
HasInverse a = (b : ℕ) × IsInverseOf a b

-- the product of a row with whole numbers
abbrev pub weighed : List ℕ → List ℤ → ℤ
weighed [] zs = pos 0
weighed (x ∷ xs) [] = pos 0
weighed (x ∷ xs) (z ∷ zs) = pos x *ℤ z +ℤ weighed xs zs

-- where rows have a left inverse, numbers whose product with every row is 0 modulo P are 0 modulo P
abbrev pub SeesEach : Type 0
SeesEach = (m : Entries) (numbers inverse : List ℕ) (zs : List ℤ)
    → All (λ (r : ℕ). r < length m.rows) numbers → IsLeftInverse m.rows m.columns numbers inverse → length zs ≡ m.columns
    → All (λ (row : List ℕ). residue (weighed row zs) ≡ 0) m.rows → All (λ (z : ℤ). residue z ≡ 0) zs

-- a matrix has as many independent rows as columns and their inverse, or a first column that depends on those before it
abbrev pub HasElimination : Entries → Type 0
HasElimination m =
    ((numbers inverse : List ℕ) × IsInverse m numbers inverse)
    ⊎ ((f : ℕ) × (v : List ℕ) × IsFirstDependence m f v)

-- the elimination of a matrix is one: the first rows that are independent, the inverse of the matrix that they make, or the
-- first column that depends on those before it, and how; and there is no such inverse where there is such a column
pub record HasOneElimination (m : Entries) : Type 0 where
  pub rows : (numbers other : List ℕ) → AreFirstIndependent m numbers → AreFirstIndependent m other → numbers ≡ other
  pub inverse : (numbers inverse other : List ℕ) → IsInverse m numbers inverse → IsInverse m numbers other → inverse ≡ other
  pub dependence : (f g : ℕ) (v w : List ℕ) → IsFirstDependence m f v → IsFirstDependence m g w → (f ≡ g) × (v ≡ w)
  pub answered : HasElimination m
  pub either : (numbers inverse : List ℕ) (f : ℕ) (v : List ℕ) → IsInverse m numbers inverse → IsFirstDependence m f v → ⊥

-- of every matrix of residues
abbrev pub IsOneElimination : Type 0
IsOneElimination = (m : Entries) → AreRows m.columns m.rows → HasOneElimination m
