-- A certificate that a network is observable modulo P, and what stands in the way of one.
use Rattle.std.specs.Prelude.{◌≡◌, ℕ, ◌%◌, ◌<◌, List, length, All}
use Rattle.wdf_law.specs.Network.{Network, multipliers, reactances}
use Rattle.wdf_residue.specs.Residue.{prime, dot}
use Rattle.wdf_residue.specs.Matrix.{entry, IsLeftInverse, IsSquare}
use Rattle.wdf_check.specs.Observability.{observability}

-- a certificate as contracts see it: the network by k and its multipliers, the numbers of rows of the observability
-- matrix, and the inverse of the matrix that they make, row by row
pub record Certificate : Type 0 where
  pub k : ℕ
  pub multipliers : List ℕ
  pub rows : List ℕ
  pub inverse : List ℕ

-- what the type keeps: as many entries as the square of the number of rows, each a residue
abbrev pub HasSquareInverse : Certificate → Type 0
HasSquareInverse c = IsSquare (length c.rows) c.inverse

-- it certifies the network: it is of this network, and the inverse times the named rows is the identity
pub record Certifies (n : Network) (c : Certificate) : Type 0 where
  pub width : c.k ≡ n.k
  pub multipliers : c.multipliers ≡ multipliers n
  pub count : length c.rows ≡ length (reactances n)
  pub rows : All (λ (r : ℕ). r < length (observability n).rows) c.rows
  pub product : IsLeftInverse (observability n).rows (length (reactances n)) c.rows c.inverse

-- a state, not 0 modulo P, that no resistor and no source ever sees
pub record Obstructs (n : Network) (v : List ℕ) : Type 0 where
  pub count : length v ≡ length (reactances n)
  pub place : ℕ
  pub some : entry v place % prime ≡ 0 → ⊥
  pub unseen : All (λ (row : List ℕ). dot row v % prime ≡ 0) (observability n).rows
