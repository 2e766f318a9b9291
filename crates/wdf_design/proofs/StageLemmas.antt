-- From stage to stage of a design.
use Rattle.std.proofs.Common.{◌≡◌, ℕ, ◌+◌, ◌^◌, ◌<◌, ◌≤◌, List, [], ◌∷◌, ◌++◌, length, Option, None, Some, Result, Ok, Err, refl, ap, sym, ◌∙◌, subst, arith, length-append}
use Rattle.std.specs.Prelude.{slice_get, IsErr, IsErrAnd}
use Rattle.std.specs.List.{All}
use Rattle.std.specs.Option.{ok_or, option_or}
use Rattle.std.proofs.lemmas.Bool.{false≢true}
use Rattle.std.proofs.lemmas.List.{length-map}
use Rattle.std.proofs.lemmas.List.Elements.{All-nil, All-cons, All-head, All-tail}
use Rattle.std.proofs.lemmas.Option.{get_or_from_slice_get}
use Rattle.wdf_law.specs.declared.outlet.Outlet.{Outlet}
use Rattle.wdf_law.specs.declared.side.Side.{Side}
use Rattle.wdf_law.specs.declared.side.Side.TheVariants.{A, B}
use Rattle.wdf_law.specs.Trees.{LeafElement}
use Rattle.wdf_law.specs.Outline.{Outline, outline_depth, outline_elements}
use Rattle.wdf_law.specs.PortOutline.{PortOutline, shape_outline}
use Rattle.wdf_law.specs.Network.{Network, elements, has_source, has_reactance, is_source, is_reactance, numbers_with}
use Rattle.wdf_law.specs.Spans.{Branch}
use Rattle.wdf_netlist.specs.declared.form.Form.{Form}
use Rattle.wdf_netlist.specs.declared.form.Form.TheVariants.{Lattice as Two}
use Rattle.wdf_netlist.specs.Circuits.{CircuitValue, IsCircuit, first_source, sources}
use Rattle.wdf_netlist.specs.Netlists.{NetlistValue}
use Rattle.wdf_sp.specs.Edges.{branch, branches}
use Rattle.wdf_sp.specs.Reduction.{shape_in}
use Rattle.wdf_sp.specs.Rerooting.{rerooted, root_of}
use Rattle.wdf_sp.specs.Structure.{Halves, HasElements, IsShapeOf, Meets, SpansCircuit, leaves_of}
use Rattle.wdf_ports.specs.PortRatio.{element_ratio}
use Rattle.wdf_ports.specs.PortRatios.{range_fault}
use Rattle.wdf_quant.specs.QuantisedNetwork.{AreNetworkElements, quantised_network}
use Rattle.wdf_lattice.specs.declared.networks.Networks.TheVariants.{Lattice}
use Rattle.wdf_design.specs.declared.design_fault.DesignFault.{DesignFault}
use Rattle.wdf_design.specs.declared.design_fault.DesignFault.TheVariants.{Core, Range, NoMemory}
use Rattle.wdf_design.specs.Designs.{core_of, shape_of, trees_of, ports_of, network_with, unless_out_of_range, network_of, with_value, design_of, designed, Designs}
use Rattle.wdf_design.specs.Realising.{Realises}
use Rattle.wdf_design.specs.Stages.{GivesNetwork, HasTrees}
use Rattle.wdf_design.proofs.CircuitElements.{AreCounted, AreLeavesOf, leaves_below, network_elements, numbers_same}
use Rattle.wdf_design.proofs.NetworkElements.{elements-quantised, outline-quantised, shape-ports}

-- ---- the trees of a shape

-- what the rerooting of a shape promises of its trees
pub record AreTreesOf (t : Outline) (source root : ℕ) (h : Halves) : Type 0 where
  pub trees : h ≡ rerooted t source root
  pub meet : (bs : List Branch) (p q : ℕ) → IsShapeOf bs source t p q → Meets bs h
  pub elements : (bs : List Branch) (p q : ℕ) → IsShapeOf bs source t p q → HasElements bs h
  pub leaves : length (outline_elements h.left) + length (outline_elements h.right) ≡ length (outline_elements t) + 1
  pub depth : (outline_depth h.left ≡ 0) × (outline_depth h.right ≤ length (outline_elements t))

pub has_trees : (side : Side) (c : CircuitValue) (t : Outline) (source root : ℕ) (h : Halves) → IsCircuit c → slice_get (sources c.elements) 0 ≡ Some source
    → shape_in (branches c.elements) (first_source c.elements) ≡ Some t → SpansCircuit (branches c.elements) (first_source c.elements) t
    → length (outline_elements t) + 1 ≡ length c.elements → root ≡ root_of c.root (first_source c.elements) (length c.elements) t
    → AreTreesOf t source root h → HasTrees side c h
has_trees side c t source root h rules first shape (p, q, spans) count at w =
    let is : first_source c.elements ≡ source = get_or_from_slice_get (sources c.elements) 0 source 0 first in
    let spans_from = subst (λ (s : ℕ). IsShapeOf (branches c.elements) s t p q) is spans in
    record {
      shape = t;
      there = ap (λ (o : Option Outline). ok_or o (core_of side c)) shape;
      trees_are = w.trees ∙ (λ j. rerooted t (sym is j) (at j));
      meet = w.meet (branches c.elements) p q spans_from;
      elements = w.elements (branches c.elements) p q spans_from;
      leaves = omega (arith, length-append (outline_elements h.left) (outline_elements h.right), w.leaves, count);
      left_depth = omega (arith, w.depth.0);
      right_depth = omega (arith, w.depth.1, count, rules.most);
    }

-- ---- their leaves

leaves_are : (side : Side) (c : CircuitValue) (h : Halves) → HasTrees side c h → AreLeavesOf c.elements (leaves_of h)
leaves_are side c h w = record {
  elements = w.elements.elements;
  once = λ i within. w.elements.once i (omega (arith, within, length-map c.elements branch));
  count = w.leaves;
}

both_parts : {X : Type 0} (P : X → Type 0) (xs ys : List X) → All P (xs ++ ys) → All P xs × All P ys
both_parts P [] ys all = (All-nil P, all)
both_parts P (x ∷ xs) ys all =
    let rest = both_parts P xs ys (All-tail P x (xs ++ ys) all) in
    (All-cons P x xs (All-head P x (xs ++ ys) all) rest.0, rest.1)

abbrev AreBelow : CircuitValue → Outline → Type 0
AreBelow c t = All (λ (x : LeafElement). x.number < length c.elements) (outline_elements t)

pub both_below : (side : Side) (c : CircuitValue) (h : Halves) → HasTrees side c h → AreBelow c h.left × AreBelow c h.right
both_below side c h w =
    both_parts (λ (x : LeafElement). x.number < length c.elements) (outline_elements h.left) (outline_elements h.right) (leaves_below c.elements (leaves_of h) (leaves_are side c h w))

-- ---- their network

abbrev port_leaves : PortOutline → List LeafElement
port_leaves p = outline_elements (shape_outline p)

-- the leaves of the ports are those of the trees
pub leaves_there : (rate : ℕ) (side : Side) (c : CircuitValue) (h : Halves) (pl pr : PortOutline) (outlet : Outlet)
    → IsCircuit c → AreCounted c.elements → HasTrees side c h → pl ≡ ports_of rate c h.left → pr ≡ ports_of rate c h.right → outlet ≡ c.outlet
    → AreNetworkElements (port_leaves pl ++ port_leaves pr) outlet
leaves_there rate side c h pl pr outlet rules counted w left right out =
    let same : leaves_of h ≡ port_leaves pl ++ port_leaves pr =
    λ j. outline_elements ((sym (ap shape_outline left ∙ shape-ports (element_ratio rate c.elements) h.left)) j) ++ outline_elements ((sym (ap shape_outline right ∙ shape-ports (element_ratio rate c.elements) h.right)) j) in
    let there = network_elements c (leaves_of h) rules counted (leaves_are side c h w) in
    subst (λ (o : Outlet). AreNetworkElements (port_leaves pl ++ port_leaves pr) o) (sym out) (subst (λ (xs : List LeafElement). AreNetworkElements xs c.outlet) same there)

pub depth_there : (rate : ℕ) (c : CircuitValue) (t : Outline) (p : PortOutline) → p ≡ ports_of rate c t → outline_depth t ≤ 128 → outline_depth (shape_outline p) ≤ 128
depth_there rate c t p is few = subst (λ (u : Outline). outline_depth u ≤ 128) (sym (ap shape_outline is ∙ shape-ports (element_ratio rate c.elements) t)) few

realises : (rate k : ℕ) (side : Side) (c : CircuitValue) (h : Halves) → IsCircuit c → AreCounted c.elements → HasTrees side c h → Realises k c (network_with rate k c h)
realises rate k side c h rules counted w =
    let ratio = element_ratio rate c.elements in
    let are = leaves_are side c h w in
    let same : elements (network_with rate k c h) ≡ leaves_of h =
    λ j. elements-quantised (2 ^ k) ratio h.left j ++ elements-quantised (2 ^ k) ratio h.right j in
    let states = ap (numbers_with has_reactance) same ∙ numbers_same is_reactance c.elements (leaves_of h) are in
    record {
      width = refl;
      meet = subst (Meets (branches c.elements)) (λ j. record { left = sym (outline-quantised (2 ^ k) ratio h.left) j; right = sym (outline-quantised (2 ^ k) ratio h.right) j }) w.meet;
      count = ap (length {A = LeafElement}) same ∙ w.leaves;
      sources_are = ap (numbers_with has_source) same ∙ numbers_same is_source c.elements (leaves_of h) are;
      reactances_are = states;
      few_states = omega (arith, ap (length {A = ℕ}) states, counted is_reactance, rules.most_reactances);
      outlet_is = refl;
    }

-- the network that is made of ports in range is that of the definition
pub record IsMade (rate k : ℕ) (side : Side) (c : CircuitValue) (h : Halves) (n : Network) : Type 0 where
  pub answer : network_of rate k side c h ≡ Ok n
  pub realises : Realises k c n

pub is_made : (rate k : ℕ) (side : Side) (c : CircuitValue) (h : Halves) (pl pr : PortOutline) (outlet : Outlet) (n : Network)
    → IsCircuit c → AreCounted c.elements → HasTrees side c h → pl ≡ ports_of rate c h.left → pr ≡ ports_of rate c h.right → outlet ≡ c.outlet
    → range_fault (ports_of rate c h.left) ≡ None → range_fault (ports_of rate c h.right) ≡ None → n ≡ quantised_network k pl pr outlet → IsMade rate k side c h n
is_made rate k side c h pl pr outlet n rules counted w left right out left_none right_none made =
    let same : network_with rate k c h ≡ n = sym (made ∙ (λ j. quantised_network k (left j) (right j) (out j))) in
    record {
      answer = (λ j. unless_out_of_range side (option_or (left_none j) (right_none j)) (same j));
      realises = subst (Realises k c) same (realises rate k side c h rules counted w);
    }

-- ---- a ratio of branch B that is out of range

pub second_fault : (n : NetlistValue) (k : ℕ) (a b : CircuitValue) (s t : Outline) (m : Network) (fault : DesignFault) → n.form ≡ Two a b
    → shape_of A a ≡ Ok s → shape_of B b ≡ Ok t → network_of n.rate k A a (trees_of a s) ≡ Ok m → network_of n.rate k B b (trees_of b t) ≡ Err fault
    → design_of n k ≡ Err fault
second_fault n k a b s t m fault form first second made refused =
    (λ j. designed n.rate k (form j))
    ∙ (λ j. with_value (first j) (λ s'. with_value (shape_of B b) (λ t'. with_value (network_of n.rate k A a (trees_of a s')) (λ m'. with_value (network_of n.rate k B b (trees_of b t')) (λ n'. Ok (Lattice m' n'))))))
    ∙ (λ j. with_value (second j) (λ t'. with_value (network_of n.rate k A a (trees_of a s)) (λ m'. with_value (network_of n.rate k B b (trees_of b t')) (λ n'. Ok (Lattice m' n')))))
    ∙ (λ j. with_value (made j) (λ m'. with_value (network_of n.rate k B b (trees_of b t)) (λ n'. Ok (Lattice m' n'))))
    ∙ (λ j. with_value (refused j) (λ n'. Ok (Lattice m n')))

pub second_refused : (n : NetlistValue) (rate k : ℕ) (form : Form) (a b : CircuitValue) (first second : Halves) (m : Network) (fault : DesignFault) → form ≡ n.form → form ≡ Two a b → rate ≡ n.rate
    → HasTrees A a first → HasTrees B b second → network_of rate k A a first ≡ Ok m → GivesNetwork rate k B b second (Err fault) → Designs n k (Err fault)
second_refused n rate k form a b first second m (Core side element core) same is at wa wb made refused = absurd refused
second_refused n rate k form a b first second m NoMemory same is at wa wb made refused = tt
second_refused n rate k form a b first second m (Range side element low) same is at wa wb made refused =
    second_fault n k a b wa.shape wb.shape m (Range side element low) (sym same ∙ is) wa.there wb.there
    ((λ j. network_of (sym at j) k A a (sym wa.trees_are j)) ∙ made) ((λ j. network_of (sym at j) k B b (sym wb.trees_are j)) ∙ refused.1)

-- the refusal of a stage is handed on
pub handed_on : {X : Type 0} (r : Result X DesignFault) (fault : DesignFault) → IsErr r → IsErrAnd r (λ (f : DesignFault). f ≡ fault) → r ≡ Err fault
handed_on (Ok x) fault h g = absurd (false≢true h)
handed_on (Err f) fault h g = ap (λ (y : DesignFault). Err y) g
