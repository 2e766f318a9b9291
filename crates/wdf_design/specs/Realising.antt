-- What the network of a circuit has in common with it.
use Rattle.std.specs.Prelude.{◌≡◌, ◌≤◌, ◌<◌, ℕ, length, Option, None, Some, Result, Ok, Err}
use Rattle.wdf_law.specs.declared.side.Side.{Side}
use Rattle.wdf_law.specs.declared.side.Side.TheVariants.{Whole, A, B}
use Rattle.wdf_law.specs.Network.{Network, elements, source_numbers, reactances, is_reactance}
use Rattle.wdf_law.specs.Spans.{outline_of}
use Rattle.wdf_netlist.specs.declared.TheConstants.{MAX_REACTANCES}
use Rattle.wdf_netlist.specs.declared.form.Form.{Form}
use Rattle.wdf_netlist.specs.declared.form.Form.TheVariants.{Ladder as One, Lattice as Two}
use Rattle.wdf_netlist.specs.Circuits.{CircuitValue, sources, numbers_where}
use Rattle.wdf_sp.specs.Edges.{branches}
use Rattle.wdf_sp.specs.Structure.{Meets}
use Rattle.wdf_lattice.specs.declared.networks.Networks.{Networks}
use Rattle.wdf_lattice.specs.declared.networks.Networks.TheVariants.{Ladder, Lattice}
use Rattle.wdf_design.specs.declared.design_fault.DesignFault.{DesignFault}
use Rattle.wdf_design.specs.declared.design_fault.DesignFault.TheVariants.{Core, Range, NoMemory}

-- the network is one of the circuit's elements, with multipliers in units of 2^-k
pub record Realises (k : ℕ) (c : CircuitValue) (n : Network) : Type 0 where
  pub width : n.k ≡ k
  -- its two trees span the same two nodes of the circuit, over every element once
  pub meet : Meets (branches c.elements) (record { left = outline_of n.left; right = outline_of n.right })
  pub count : length (elements n) ≡ length c.elements
  pub sources_are : source_numbers n ≡ sources c.elements
  pub reactances_are : reactances n ≡ numbers_where is_reactance c.elements
  pub few_states : length (reactances n) ≤ MAX_REACTANCES
  pub outlet_is : n.outlet ≡ c.outlet

-- each network is of its side's circuit
abbrev pub RealisesEach : ℕ → Form → Networks → Type 0
RealisesEach k (One c) (Ladder n) = Realises k c n
RealisesEach k (One c) (Lattice m n) = ⊥
RealisesEach k (Two a b) (Ladder n) = ⊥
RealisesEach k (Two a b) (Lattice m n) = Realises k a m × Realises k b n

-- the circuit of a side, where the netlist has it
abbrev pub circuit_at : Form → Side → Option CircuitValue
circuit_at (One c) Whole = Some c
circuit_at (One c) A = None
circuit_at (One c) B = None
circuit_at (Two a b) Whole = None
circuit_at (Two a b) A = Some a
circuit_at (Two a b) B = Some b

-- an element of this side's circuit has this number
pub record IsElementAt (form : Form) (side : Side) (element : ℕ) : Type 0 where
  pub circuit : CircuitValue
  pub there : circuit_at form side ≡ Some circuit
  pub within : element < length circuit.elements

-- a refusal names an element of its side's circuit
abbrev pub NamesElement : {X : Type 0} → Form → Result X DesignFault → Type 0
NamesElement form (Ok _) = Unit {0}
NamesElement form (Err (Core side element _)) = IsElementAt form side element
NamesElement form (Err (Range side element _)) = IsElementAt form side element
NamesElement form (Err NoMemory) = Unit {0}
