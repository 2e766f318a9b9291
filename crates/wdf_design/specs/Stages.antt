-- What the stages of a design answer, for the circuit of one side.
use Rattle.std.specs.Prelude.{◌≡◌, ◌≤◌, ◌<◌, ℕ, length, None, Some, Result, Ok, Err}
use Rattle.wdf_law.specs.declared.side.Side.{Side}
use Rattle.wdf_law.specs.declared.port_tree.PortTree.{PortTree}
use Rattle.wdf_law.specs.Outline.{Outline, outline_depth}
use Rattle.wdf_law.specs.PortOutline.{PortOutline, HaveRatios, port_outline}
use Rattle.wdf_law.specs.Network.{Network}
use Rattle.wdf_netlist.specs.Circuits.{CircuitValue}
use Rattle.wdf_sp.specs.declared.rooted.Rooted.{Rooted}
use Rattle.wdf_sp.specs.Edges.{branches, halves}
use Rattle.wdf_sp.specs.Structure.{Halves, HasElements, Meets, leaves_of}
use Rattle.wdf_ports.specs.PortRatios.{range_fault}
use Rattle.wdf_design.specs.declared.design_fault.DesignFault.{DesignFault}
use Rattle.wdf_design.specs.declared.design_fault.DesignFault.TheVariants.{Core, Range, NoMemory}
use Rattle.wdf_design.specs.Designs.{shape_of, trees_of, network_of}
use Rattle.wdf_design.specs.Realising.{Realises}

-- the two trees at the root of the circuit's shape, over all its elements
pub record HasTrees (side : Side) (c : CircuitValue) (h : Halves) : Type 0 where
  pub shape : Outline
  pub there : shape_of side c ≡ Ok shape
  pub trees_are : h ≡ trees_of c shape
  pub meet : Meets (branches c.elements) h
  pub elements : HasElements (branches c.elements) h
  pub leaves : length (leaves_of h) ≡ length c.elements
  pub left_depth : outline_depth h.left ≤ 128
  pub right_depth : outline_depth h.right ≤ 128

-- these trees, or the core where the circuit has no shape
abbrev pub GivesTrees : Side → CircuitValue → Result Rooted DesignFault → Type 0
GivesTrees side c (Ok rooted) = HasTrees side c (halves rooted)
GivesTrees side c (Err (Core s element core)) = (s ≡ side) × (shape_of side c ≡ Err (Core s element core)) × (element < length c.elements)
GivesTrees side c (Err (Range _ _ _)) = ⊥
GivesTrees side c (Err NoMemory) = Unit {0}

-- these ports, or the first whose ratio is out of range
abbrev pub GivesPortsAt : Side → ℕ → PortOutline → Result PortTree DesignFault → Type 0
GivesPortsAt side count p (Ok t) = (port_outline t ≡ p) × HaveRatios p × (range_fault p ≡ None)
GivesPortsAt side count p (Err (Core _ _ _)) = ⊥
GivesPortsAt side count p (Err (Range s element low)) = (s ≡ side) × (range_fault p ≡ Some (element, low)) × (element < count)
GivesPortsAt side count p (Err NoMemory) = Unit {0}

-- the network of these trees, or the first ratio that is out of range
abbrev pub GivesNetwork : (rate k : ℕ) → Side → CircuitValue → Halves → Result Network DesignFault → Type 0
GivesNetwork rate k side c h (Ok n) = (network_of rate k side c h ≡ Ok n) × Realises k c n
GivesNetwork rate k side c h (Err (Core _ _ _)) = ⊥
GivesNetwork rate k side c h (Err (Range s element low)) = (s ≡ side) × (network_of rate k side c h ≡ Err (Range s element low)) × (element < length c.elements)
GivesNetwork rate k side c h (Err NoMemory) = Unit {0}
