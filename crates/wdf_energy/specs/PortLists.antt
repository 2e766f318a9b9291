-- The elements of a ledger as it walks them: lists of their ports.
use Rattle.std.specs.Prelude.{◌≡◌, ℕ, zero, suc, ◌+◌, ◌*◌, ◌<◌, ◌≤◌, ℤ, Bool, List, [], ◌∷◌, length, map, take, All}
use Rattle.wdf_algebra.specs.Squares.{square}
use Rattle.wdf_law.specs.Trees.{LeafElement}
use Rattle.wdf_law.specs.Network.{Network, elements, has_absorbing, has_reactance, reactances, absorbing_numbers}
use Rattle.wdf_quant.specs.PortBound.{number_at}
use Rattle.wdf_energy.specs.declared.port.Port.{Port}
use Rattle.wdf_energy.specs.declared.account.Account.{Account}
use Rattle.wdf_energy.specs.declared.group.Group.{Group}
use Rattle.wdf_energy.specs.declared.group.Group.TheVariants.{Absorbing, Reactive}
use Rattle.wdf_energy.specs.Totals.{part}
use Rattle.wdf_energy.specs.Accounts.{AccountOf}
use Rattle.wdf_energy.specs.Blocks.{in_column}

-- what is asked of the elements of a group
abbrev pub has_of : Group → List LeafElement → ℕ → Bool
has_of Absorbing xs i = has_absorbing xs i
has_of Reactive xs i = has_reactance xs i

abbrev pub ports_at : Network → List ℕ → List Port
ports_at n js = map (λ (j : ℕ). record { elem = j; ratio = number_at n j }) js

abbrev pub elems : List Port → List ℕ
elems ports = map (λ (p : Port). p.elem) ports

-- the sum of floor(s·2^40/p), s being a number for each port
abbrev pub parts_along : List Port → List ℕ → ℕ
parts_along [] ss = 0
parts_along (p ∷ ps) [] = 0
parts_along (p ∷ ps) (s ∷ ss) = part s p.ratio + parts_along ps ss

-- ports that a ledger of so many elements walks
pub record AreWalked (count : ℕ) (ports : List Port) : Type 0 where
  pub few : length ports ≤ 128
  pub placed : All (λ (p : Port). p.elem < count) ports
  pub some : All (λ (p : Port). 0 < p.ratio) ports

-- what the type keeps
pub record IsLedger (n : Network) (absorbing reactive : List Port) : Type 0 where
  pub absorbing_ports : absorbing ≡ ports_at n (absorbing_numbers n)
  pub reactive_ports : reactive ≡ ports_at n (reactances n)
  pub absorbing_walk : AreWalked (length (elements n)) absorbing
  pub reactive_walk : AreWalked (length (elements n)) reactive

-- an account as clauses see it
abbrev pub shown : (absorbing reactive : List Port) → Account → AccountOf
shown absorbing reactive a = record { incident = a.incident; squares = take (length absorbing) a.squares; state = take (length reactive) a.state }

-- ---- columns of rows

-- what a column has in rows of which each is so many behind the one before
abbrev pub every_row : (width : ℕ) → List (List ℤ) → (column from : ℕ) → ℕ → ℤ
every_row width rows column from f = in_column rows column (f * width + from)

-- the sum of the squares of the first of these
abbrev pub squares_over : (ℕ → ℤ) → (count : ℕ) → ℕ
squares_over f zero = 0
squares_over f (suc i) = squares_over f i + square (f i)
