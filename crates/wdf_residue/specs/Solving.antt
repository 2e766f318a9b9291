-- Elimination, row after row.
use Rattle.std.specs.Prelude.{◌≡◌, ℕ, ◌*◌, ◌%◌, ◌<◌, ◌⊎◌, List, [], ◌∷◌, ◌++◌, length, map, slice_index_or}
use Rattle.wdf_residue.specs.Residue.{prime, dot}
use Rattle.std.specs.List.{range_with_len, flat_map}
use Rattle.wdf_residue.specs.Matrix.{AreRows, entry_at, identity_entry, column_entries}
use Rattle.wdf_residue.specs.Vectors.{scaled_by, less}

-- where elimination stands: the columns that no row so far sees, and for each taken row a solved column
pub record Reduction : Type 0 where
  pub columns : ℕ
  pub unseen : List (List ℕ)
  pub solved : List (List ℕ)
  pub taken : List ℕ

pub record IsReduction (e : Reduction) : Type 0 where
  pub unseen : AreRows e.columns e.unseen
  pub solved : AreRows e.columns e.solved
  pub count : length e.unseen ≡ e.columns
  pub sizes : length e.solved ≡ length e.taken

-- a column of a list of them
abbrev pub column : List (List ℕ) → ℕ → List ℕ
column columns c = slice_index_or columns c []

-- a row's product with each column is 0
abbrev pub SeesNone : List ℕ → List (List ℕ) → Type 0
SeesNone row columns = (c : ℕ) → c < length columns → dot row (column columns c) % prime ≡ 0

-- the first column whose product with the row is not 0
pub record IsFirstSeen (row : List ℕ) (columns : List (List ℕ)) (c : ℕ) : Type 0 where
  pub within : c < length columns
  pub some : 0 < dot row (column columns c) % prime
  pub before : (b : ℕ) → b < c → dot row (column columns b) % prime ≡ 0

-- a column less its product with the row times g
abbrev pub cleared : List ℕ → List ℕ → List ℕ → List ℕ
cleared row g w = less (dot row w % prime) w g

-- the row is taken: the first column v that it sees is scaled to g, whose product with the row is 1; every column is cleared,
-- and g is solved for the row
pub record Takes (row : List ℕ) (number : ℕ) (old new : Reduction) : Type 0 where
  pub pivot : ℕ
  pub first : IsFirstSeen row old.unseen pivot
  pub factor : ℕ
  pub below : factor < prime
  pub product : (dot row (column old.unseen pivot) % prime * factor) % prime ≡ 1
  pub unseen : new.unseen ≡ map (cleared row (scaled_by factor (column old.unseen pivot))) old.unseen
  pub solved : new.solved ≡ map (cleared row (scaled_by factor (column old.unseen pivot))) old.solved ++ scaled_by factor (column old.unseen pivot) ∷ []
  pub taken : new.taken ≡ old.taken ++ number ∷ []

-- the row is passed over, where all is solved or it sees no column
pub record Passes (row : List ℕ) (old new : Reduction) : Type 0 where
  pub none : (length old.taken ≡ old.columns) ⊎ SeesNone row old.unseen
  pub same : new ≡ old

-- one row further
pub record Advances (row : List ℕ) (number : ℕ) (old new : Reduction) : Type 0 where
  pub columns : new.columns ≡ old.columns
  pub taken : Passes row old new ⊎ Takes row number old new

-- column c's entry at its own place
abbrev pub own_entry : List (List ℕ) → ℕ → ℕ
own_entry columns c = entry_at columns c c

-- the first column whose own entry is not 0
pub record IsFirstOpen (columns : List (List ℕ)) (c : ℕ) : Type 0 where
  pub within : c < length columns
  pub some : 0 < own_entry columns c
  pub before : (b : ℕ) → b < c → own_entry columns b ≡ 0

abbrev pub AreSolved : List (List ℕ) → Type 0
AreSolved columns = (c : ℕ) → c < length columns → own_entry columns c ≡ 0

-- column c of the identity of n columns, and all of them
abbrev pub identity_column : ℕ → ℕ → List ℕ
identity_column n c = map (identity_entry c) (range_with_len 0 n)

abbrev pub identity_columns : ℕ → List (List ℕ)
identity_columns n = map (identity_column n) (range_with_len 0 n)

-- the matrix of these columns, of n rows, row by row
abbrev pub written : List (List ℕ) → ℕ → List ℕ
written columns n = flat_map (column_entries columns) (range_with_len 0 n)
