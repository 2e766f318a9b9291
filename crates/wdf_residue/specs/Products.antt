-- Where the product of a square matrix with rows of a matrix first differs from the identity.
use Rattle.std.specs.Prelude.{◌≡◌, ◌⊎◌, ℕ, ◌<◌, List}
use Rattle.wdf_residue.specs.Matrix.{identity_entry, product_entry}

-- entry i, j stands before the entry of this row and column, row by row
abbrev pub IsBefore : ℕ → ℕ → ℕ → ℕ → Type 0
IsBefore i j row col = (i < row) ⊎ ((i ≡ row) × (j < col))

-- the entry of this row and column is `got`, which is not the identity's, and each entry before it is the identity's
pub record IsFirstWrong (rows : List (List ℕ)) (n : ℕ) (numbers inverse : List ℕ) (row col got : ℕ) : Type 0 where
  pub row_within : row < n
  pub col_within : col < n
  pub is : product_entry rows numbers inverse row col ≡ got
  pub wrong : got ≡ identity_entry row col → ⊥
  pub before : (i j : ℕ) → i < n → j < n → IsBefore i j row col → product_entry rows numbers inverse i j ≡ identity_entry i j

-- the first column of a row of the product that is wrong
pub record IsFirstWrongIn (rows : List (List ℕ)) (n : ℕ) (numbers inverse : List ℕ) (row col got : ℕ) : Type 0 where
  pub within : col < n
  pub is : product_entry rows numbers inverse row col ≡ got
  pub wrong : got ≡ identity_entry row col → ⊥
  pub before : (j : ℕ) → j < col → product_entry rows numbers inverse row j ≡ identity_entry row j
