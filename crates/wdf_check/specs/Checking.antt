-- What the check of a certificate answers, each refusal with its cause.
use Rattle.std.specs.Prelude.{◌≡◌, ◌⊎◌, ℕ, zero, suc, ◌<◌, ◌≤◌, List, length, Result, Ok, Err, All}
use Rattle.wdf_law.specs.Network.{Network, multipliers, reactances}
use Rattle.wdf_residue.specs.Matrix.{entry}
use Rattle.wdf_residue.specs.Products.{IsFirstWrong}
use Rattle.wdf_check.specs.declared.cert_fault.CertFault.{CertFault}
use Rattle.wdf_check.specs.declared.cert_fault.CertFault.TheVariants.{OtherNet, WrongSize, BadRow, WrongProduct, WrongCount, NoMemory}
use Rattle.wdf_check.specs.Observability.{observability}
use Rattle.wdf_check.specs.Certificate.{Certificate, Certifies}

-- the certificate is of this network
pub record IsOfNetwork (n : Network) (c : Certificate) : Type 0 where
  pub width : c.k ≡ n.k
  pub multipliers : c.multipliers ≡ multipliers n

-- the first place at which two lists differ, and what they have there
pub record IsFirstOther (ours theirs : List ℕ) (place our their : ℕ) : Type 0 where
  pub within : place < length ours
  pub at_ours : entry ours place ≡ our
  pub at_theirs : entry theirs place ≡ their
  pub other : our ≡ their → ⊥
  pub before : (i : ℕ) → i < place → entry ours i ≡ entry theirs i

-- at 0 the widths differ; at `suc place` the widths agree and so do the numbers of multipliers, and the multiplier at that
-- place is the first that differs
abbrev pub IsOther : Network → Certificate → ℕ → ℕ → ℕ → Type 0
IsOther n c zero ours theirs = (ours ≡ n.k) × (theirs ≡ c.k) × (ours ≡ theirs → ⊥)
IsOther n c (suc place) ours theirs =
    (c.k ≡ n.k) × (length c.multipliers ≡ length (multipliers n)) × IsFirstOther (multipliers n) c.multipliers place ours theirs

-- the numbers of multipliers, or, of a certificate of this network, the numbers of rows differ
abbrev pub IsWrongSize : Network → Certificate → ℕ → ℕ → Type 0
IsWrongSize n c have want = (have ≡ want → ⊥)
    × (((c.k ≡ n.k) × (have ≡ length c.multipliers) × (want ≡ length (multipliers n)))
    ⊎ (IsOfNetwork n c × (have ≡ length c.rows) × (want ≡ length (reactances n))))

-- as many rows as states
pub record HasRows (n : Network) (c : Certificate) : Type 0 where
  pub network : IsOfNetwork n c
  pub count : length c.rows ≡ length (reactances n)

-- the first entry that is no row of the matrix
pub record IsFirstOutside (rows : List ℕ) (limit place : ℕ) : Type 0 where
  pub within : place < length rows
  pub outside : limit ≤ entry rows place
  pub before : (i : ℕ) → i < place → entry rows i < limit

-- all rows are rows of the matrix
pub record NamesRows (n : Network) (c : Certificate) : Type 0 where
  pub rows : HasRows n c
  pub inside : All (λ (r : ℕ). r < length (observability n).rows) c.rows

-- what the check of a certificate answers. The cases exclude each other, so each answer but want of memory comes exactly
-- where its case holds.
abbrev pub Checks : {T : Type 0} → Network → Certificate → Result T CertFault → Type 0
Checks n c (Ok _) = Certifies n c
Checks n c (Err (OtherNet at ours theirs)) = IsOther n c at ours theirs
Checks n c (Err (WrongSize have want)) = IsWrongSize n c have want
Checks n c (Err (BadRow row)) = HasRows n c × IsFirstOutside c.rows (length (observability n).rows) row
Checks n c (Err (WrongProduct row col got)) =
    NamesRows n c × IsFirstWrong (observability n).rows (length (reactances n)) c.rows c.inverse row col got
Checks n c (Err (WrongCount have want)) = ⊥
Checks n c (Err NoMemory) = Unit {0}
