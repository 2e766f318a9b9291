-- Matrices of residues, as lists of rows, and their products modulo P.
use Rattle.std.specs.Prelude.{◌≡◌, ℕ, ◌*◌, ◌%◌, ◌<◌, ◌==◌, if◌then◌else◌, List, [], length, map, take, drop, slice_index_or, All, Vec}
use Rattle.std.specs.declared.alloc.Global.{Global}
use Rattle.wdf_residue.specs.Residue.{prime, dot, AreResidues}

-- a matrix as contracts see it
pub record Entries : Type 0 where
  pub columns : ℕ
  pub rows : List (List ℕ)

-- a row of n columns
pub record IsRow (n : ℕ) (row : List ℕ) : Type 0 where
  pub count : length row ≡ n
  pub residues : AreResidues row

abbrev pub AreRows : ℕ → List (List ℕ) → Type 0
AreRows n rows = All (IsRow n) rows

-- the lists in a list of vectors
abbrev pub lists : List (Vec ℕ Global) → List (List ℕ)
lists vs = map (λ (v : Vec ℕ Global). v.items) vs

-- an entry of a row, and of a matrix; 0 outside
abbrev pub entry : List ℕ → ℕ → ℕ
entry row j = slice_index_or row j 0

abbrev pub entry_at : List (List ℕ) → ℕ → ℕ → ℕ
entry_at rows i j = entry (slice_index_or rows i []) j

-- the entries of a column, one of each row
abbrev pub column_entries : List (List ℕ) → ℕ → List ℕ
column_entries rows j = map (λ (row : List ℕ). entry row j) rows

-- column j of the rows with these numbers
abbrev pub column_of : List (List ℕ) → List ℕ → ℕ → List ℕ
column_of rows numbers j = map (λ (r : ℕ). entry_at rows r j) numbers

-- row i of a matrix of n columns that is written row by row
abbrev pub written_row : ℕ → List ℕ → ℕ → List ℕ
written_row n entries i = take n (drop (i * n) entries)

-- an entry of the identity
abbrev pub identity_entry : ℕ → ℕ → ℕ
identity_entry i j = if i == j then 1 else 0

-- entry i, j of the product of a square matrix, written row by row, with the rows of these numbers
abbrev pub product_entry : List (List ℕ) → List ℕ → List ℕ → ℕ → ℕ → ℕ
product_entry rows numbers inverse i j = dot (written_row (length numbers) inverse i) (column_of rows numbers j) % prime

-- the product is the identity of n columns
abbrev pub IsLeftInverse : List (List ℕ) → ℕ → List ℕ → List ℕ → Type 0
IsLeftInverse rows n numbers inverse = (i j : ℕ) → i < n → j < n → product_entry rows numbers inverse i j ≡ identity_entry i j

-- a square matrix of residues, written row by row
pub record IsSquare (n : ℕ) (entries : List ℕ) : Type 0 where
  pub count : length entries ≡ n * n
  pub residues : AreResidues entries
