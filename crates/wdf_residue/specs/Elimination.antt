-- Linear independence modulo P, of the rows of a matrix and of its columns.
use Rattle.std.specs.Prelude.{◌≡◌, ℕ, ◌%◌, ◌<◌, List, length, All, AllPairs, Contains}
use Rattle.wdf_residue.specs.declared.elimination.Elimination.{Elimination}
use Rattle.wdf_residue.specs.declared.elimination.Elimination.TheVariants.{Inverse, Kernel}
use Rattle.wdf_residue.specs.Residue.{prime, dot}
use Rattle.wdf_residue.specs.Matrix.{Entries, IsRow, entry, entry_at, column_of, IsLeftInverse, IsSquare}

-- row r is a combination, with these weights, of rows before it
pub record IsCombination (m : Entries) (r : ℕ) : Type 0 where
  pub weights : List ℕ
  pub numbers : List ℕ
  pub before : All (λ (s : ℕ). s < r) numbers
  pub same : (j : ℕ) → j < m.columns → dot weights (column_of m.rows numbers j) % prime ≡ entry_at m.rows r j

-- the numbers, in rising order, of the rows that are no combination of rows before them
pub record AreFirstIndependent (m : Entries) (numbers : List ℕ) : Type 0 where
  pub rising : AllPairs (λ (r s : ℕ). r < s) numbers
  pub within : All (λ (r : ℕ). r < length m.rows) numbers
  pub independent : All (λ (r : ℕ). IsCombination m r → ⊥) numbers
  pub others : (r : ℕ) → r < length m.rows → (Contains numbers r → ⊥) → IsCombination m r

-- v tells how column f depends on columns before it: m·v = 0, where v is 1 at f and 0 behind f
pub record IsDependence (m : Entries) (f : ℕ) (v : List ℕ) : Type 0 where
  pub row : IsRow m.columns v
  pub place : f < m.columns
  pub one : entry v f ≡ 1
  pub behind : (j : ℕ) → f < j → entry v j ≡ 0
  pub none : All (λ (row : List ℕ). dot row v % prime ≡ 0) m.rows

-- and no column before f depends on columns before it
pub record IsFirstDependence (m : Entries) (f : ℕ) (v : List ℕ) : Type 0 where
  pub dependence : IsDependence m f v
  pub first : (j : ℕ) (w : List ℕ) → j < f → IsDependence m j w → ⊥

-- as many independent rows as columns, and the inverse of the matrix that they make
pub record IsInverse (m : Entries) (numbers inverse : List ℕ) : Type 0 where
  pub independent : AreFirstIndependent m numbers
  pub count : length numbers ≡ m.columns
  pub square : IsSquare m.columns inverse
  pub product : IsLeftInverse m.rows m.columns numbers inverse

-- what elimination answers of a matrix
abbrev pub Eliminates : Entries → Elimination → Type 0
Eliminates m (Inverse numbers inverse) = IsInverse m numbers.items inverse.items
Eliminates m (Kernel column vector) = IsFirstDependence m column vector.items
