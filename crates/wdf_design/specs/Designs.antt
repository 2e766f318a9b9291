-- The quantised networks of a netlist, one for each of its circuits: the trees at the root of the circuit's shape, with
-- the multipliers of their ports' ratios. In a lattice both branches have to have a shape, and A's is looked for first,
-- before the ratios of either.
use Rattle.std.specs.Prelude.{◌≡◌, ℕ, Bool, length, Option, None, Some, Result, Ok, Err}
use Rattle.std.specs.Option.{ok_or, option_or}
use Rattle.wdf_law.specs.declared.side.Side.{Side}
use Rattle.wdf_law.specs.declared.side.Side.TheVariants.{Whole, A, B}
use Rattle.wdf_law.specs.Outline.{Outline}
use Rattle.wdf_law.specs.PortOutline.{PortOutline}
use Rattle.wdf_law.specs.Network.{Network}
use Rattle.wdf_netlist.specs.declared.form.Form.{Form}
use Rattle.wdf_netlist.specs.declared.form.Form.TheVariants.{Ladder as One, Lattice as Two}
use Rattle.wdf_netlist.specs.Circuits.{CircuitValue, first_source}
use Rattle.wdf_netlist.specs.Netlists.{NetlistValue}
use Rattle.wdf_sp.specs.Edges.{branches}
use Rattle.wdf_sp.specs.Reduction.{branch_at, naming_element, reduction, shape_in}
use Rattle.wdf_sp.specs.Rerooting.{rerooted, root_of}
use Rattle.wdf_sp.specs.Structure.{Halves}
use Rattle.wdf_ports.specs.PortRatio.{element_ratio}
use Rattle.wdf_ports.specs.PortRatios.{ports_with, range_fault}
use Rattle.wdf_quant.specs.QuantisedNetwork.{quantised_network}
use Rattle.wdf_lattice.specs.declared.networks.Networks.{Networks}
use Rattle.wdf_lattice.specs.declared.networks.Networks.TheVariants.{Ladder, Lattice}
use Rattle.wdf_design.specs.declared.design_fault.DesignFault.{DesignFault}
use Rattle.wdf_design.specs.declared.design_fault.DesignFault.TheVariants.{Core, Range, NoMemory}

-- ---- one circuit, that of a side

-- the core where its reduction ends, and the element that names it
abbrev pub core_of : Side → CircuitValue → DesignFault
core_of side c =
    Core side (naming_element (branch_at (branches c.elements) (first_source c.elements)).from (branch_at (branches c.elements) (first_source c.elements)).to (reduction (branches c.elements) (first_source c.elements)))
    (reduction (branches c.elements) (first_source c.elements))

-- its shape between the ends of its first source, or else its core
abbrev pub shape_of : Side → CircuitValue → Result Outline DesignFault
shape_of side c = ok_or (shape_in (branches c.elements) (first_source c.elements)) (core_of side c)

-- the two trees at the root of its shape
abbrev pub trees_of : CircuitValue → Outline → Halves
trees_of c t = rerooted t (first_source c.elements) (root_of c.root (first_source c.elements) (length c.elements) t)

-- the ports of a tree of its elements, at a rate in frames per second
abbrev pub ports_of : ℕ → CircuitValue → Outline → PortOutline
ports_of rate c t = ports_with (element_ratio rate c.elements) t

-- the first port of two trees whose ratio is out of range, by its element and whether the ratio is too low: the left
-- tree's ports come before those of the right tree
abbrev pub first_out_of_range : ℕ → CircuitValue → Halves → Option (ℕ × Bool)
first_out_of_range rate c h = option_or (range_fault (ports_of rate c h.left)) (range_fault (ports_of rate c h.right))

-- the network of these two trees, with multipliers in units of 2^-k
abbrev pub network_with : (rate k : ℕ) → CircuitValue → Halves → Network
network_with rate k c h = quantised_network k (ports_of rate c h.left) (ports_of rate c h.right) c.outlet

-- a network whose ratios are in range, or the first that is not
abbrev pub unless_out_of_range : Side → Option (ℕ × Bool) → Network → Result Network DesignFault
unless_out_of_range side None n = Ok n
unless_out_of_range side (Some (element, low)) n = Err (Range side element low)

abbrev pub network_of : (rate k : ℕ) → Side → CircuitValue → Halves → Result Network DesignFault
network_of rate k side c h = unless_out_of_range side (first_out_of_range rate c h) (network_with rate k c h)

-- ---- all circuits of a netlist

-- what is done with a value, where there is no refusal
abbrev pub with_value : {X Y : Type 0} → Result X DesignFault → (X → Result Y DesignFault) → Result Y DesignFault
with_value (Ok x) f = f x
with_value (Err fault) f = Err fault

abbrev pub designed : (rate k : ℕ) → Form → Result Networks DesignFault
designed rate k (One c) =
    with_value (shape_of Whole c) (λ t. with_value (network_of rate k Whole c (trees_of c t)) (λ n. Ok (Ladder n)))
designed rate k (Two a b) =
    with_value (shape_of A a) (λ s. with_value (shape_of B b) (λ t.
    with_value (network_of rate k A a (trees_of a s)) (λ m. with_value (network_of rate k B b (trees_of b t)) (λ n. Ok (Lattice m n)))))

-- a netlist's quantised networks, with multipliers in units of 2^-k, or why it has none
abbrev pub design_of : NetlistValue → ℕ → Result Networks DesignFault
design_of n k = designed n.rate k n.form

-- these are its networks
abbrev pub IsDesigned : NetlistValue → ℕ → Networks → Type 0
IsDesigned n k ns = design_of n k ≡ Ok ns

-- an answer is that of the definition, or want of memory
abbrev pub Designs : NetlistValue → ℕ → Result Networks DesignFault → Type 0
Designs n k (Ok ns) = design_of n k ≡ Ok ns
Designs n k (Err (Core side element core)) = design_of n k ≡ Err (Core side element core)
Designs n k (Err (Range side element low)) = design_of n k ≡ Err (Range side element low)
Designs n k (Err NoMemory) = Unit {0}
