-- A netlist: a rate in frames per second, and one circuit with a load (a ladder) or the two branches of
-- a lattice.
use Rattle.std.specs.Prelude.{◌≡◌, ◌≢◌, ℕ, ◌≤◌, [], ◌∷◌, slice_get, Some, All}
use Rattle.wdf_text.specs.Names.{IsName, at_sign}
use Rattle.wdf_text.specs.DecimalNumber.{DecimalNumber}
use Rattle.wdf_law.specs.declared.kind.Kind.TheVariants.{Src}
use Rattle.wdf_law.specs.declared.outlet.Outlet.TheVariants.{Load, Source}
use Rattle.wdf_netlist.specs.declared.TheConstants.{MAX_RATE}
use Rattle.wdf_netlist.specs.declared.element.Element.{Element}
use Rattle.wdf_netlist.specs.declared.root_choice.RootChoice.TheVariants.{Element as At_element}
use Rattle.wdf_netlist.specs.declared.form.Form.{Form}
use Rattle.wdf_netlist.specs.declared.form.Form.TheVariants.{Ladder, Lattice}
use Rattle.wdf_netlist.specs.Circuits.{CircuitValue, IsCircuit, sources}

pub record NetlistValue : Type 0 where
  pub rate : ℕ
  pub form : Form

-- a ladder has a load, and no element named `@`
pub record IsLadder (c : CircuitValue) : Type 0 where
  pub number : ℕ
  pub load : c.outlet ≡ Load number
  pub named : All (λ (e : Element). IsName e.name) c.elements

-- the source of a branch: named `@`, from node 0 to node 1, with this series resistance
abbrev pub branch_source : DecimalNumber → Element
branch_source value = record { name = at_sign; kind = Src; from = 0; to = 1; value = value }

-- a branch of a lattice has one source, which is element 0, an outlet at the source, and a root that is not
-- named as element 0; the value of its source is the lattice's termination
pub record IsBranch (termination : DecimalNumber) (c : CircuitValue) : Type 0 where
  pub source : slice_get c.elements 0 ≡ Some (branch_source termination)
  pub one_source : sources c.elements ≡ 0 ∷ []
  pub outlet : c.outlet ≡ Source
  pub root : c.root ≢ At_element 0

pub record IsLattice (a b : CircuitValue) : Type 0 where
  pub termination : DecimalNumber
  pub first : IsBranch termination a
  pub second : IsBranch termination b

abbrev pub IsForm : Form → Type 0
IsForm (Ladder c) = IsLadder c
IsForm (Lattice a b) = IsLattice a b

-- each circuit keeps the rules of its type
abbrev pub HasCircuits : Form → Type 0
HasCircuits (Ladder c) = IsCircuit c
HasCircuits (Lattice a b) = IsCircuit a × IsCircuit b

-- what the type of a netlist keeps
pub record IsNetlist (n : NetlistValue) : Type 0 where
  pub slowest : 1 ≤ n.rate
  pub fastest : n.rate ≤ MAX_RATE
  pub form : IsForm n.form
  pub circuits : HasCircuits n.form
