-- In a designed network the ports of all elements have ratios.
use Rattle.std.proofs.Common.{◌≡◌, ℕ, ◌*◌, ◌/◌, ◌+◌, ◌^◌, ◌<◌, Bool, true, false, if◌then◌else◌, ◌++◌, length, Option, None, Some, Result, Ok, Err, refl, sym, ap, ◌∙◌, subst, arith}
use Rattle.std.specs.Prelude.{◌||◌, ◌==◌, nat_le}
use Rattle.std.specs.Option.{option_or}
use Rattle.std.proofs.lemmas.Bool.{eqb-true, leb-true, false≢true}
use Rattle.std.proofs.lemmas.Bool.Decides.{nat_tests}
use Rattle.std.proofs.lemmas.List.Folds.{list_any-append}
use Rattle.wdf_law.specs.declared.connection.Connection.TheVariants.{Series, Parallel}
use Rattle.wdf_law.specs.declared.side.Side.{Side}
use Rattle.wdf_law.specs.declared.side.Side.TheVariants.{Whole, A, B}
use Rattle.wdf_law.specs.Outline.{Outline, single, joined, outline_first}
use Rattle.wdf_law.specs.PortOutline.{IsRatio, ratio_of, shape_outline}
use Rattle.wdf_law.specs.Trees.{AdaptorTree, LeafElement, elements_of}
use Rattle.wdf_law.specs.Network.{Network, elements, has_element, has_leaf}
use Rattle.wdf_law.specs.TreeRules.{HasNumbers}
use Rattle.wdf_netlist.specs.declared.form.Form.{Form}
use Rattle.wdf_netlist.specs.declared.form.Form.TheVariants.{Ladder as One, Lattice as Two}
use Rattle.wdf_netlist.specs.Circuits.{CircuitValue}
use Rattle.wdf_netlist.specs.Netlists.{NetlistValue}
use Rattle.wdf_sp.specs.Structure.{Halves}
use Rattle.wdf_ports.specs.PortRatio.{element_ratio, out_of_range}
use Rattle.wdf_ports.specs.PortRatios.{ports_with, range_fault}
use Rattle.wdf_quant.specs.QuantisedNetwork.{quantised}
use Rattle.wdf_lattice.specs.declared.networks.Networks.{Networks}
use Rattle.wdf_lattice.specs.declared.networks.Networks.TheVariants.{Ladder, Lattice}
use Rattle.wdf_design.specs.declared.design_fault.DesignFault.{DesignFault}
use Rattle.wdf_design.specs.Designs.{first_out_of_range, network_of, network_with, ports_of, shape_of, trees_of, unless_out_of_range, with_value, designed, IsDesigned}
use Rattle.wdf_design.specs.Realising.{Realises, RealisesEach}
use Rattle.wdf_reporting.specs.ReportText.{HasRatios}

-- ---- the leaves of a tree

neither : {X : Type 0} (p q : Option X) → option_or p q ≡ None → (p ≡ None) × (q ≡ None)
neither None q h = (refl, h)
neither (Some x) q h = absurd (cc)

has_parts : (l r : AdaptorTree) (i : ℕ) → has_element (elements_of l ++ elements_of r) i ≡ (has_leaf l i || has_leaf r i)
has_parts l r i = list_any-append (λ (x : LeafElement). x.number == i) (elements_of l) (elements_of r)

-- one of two
in_either : {X : Type 0} (b c : Bool) → (b || c) ≡ true → (b ≡ true → X) → (c ≡ true → X) → X
in_either true c h first second = first refl
in_either false c h first second = second h

-- how a ratio is out of range, by the two tests
abbrev range_by : (elem : ℕ) (zero more : Bool) → Option (ℕ × Bool)
range_by elem true more = Some (elem, true)
range_by elem false true = None
range_by elem false false = Some (elem, false)

in_range : (elem ratio : ℕ) → out_of_range elem ratio ≡ None → IsRatio ratio
in_range elem ratio h = by (ratio == 0) (nat_le ratio (2 ^ 62)) refl refl (sym (split (ratio == 0) (nat_le ratio (2 ^ 62))) ∙ h)
  where
    split : (z b : Bool) → if◌then◌else◌ {A = Option (ℕ × Bool)} z (Some (elem, true)) (if◌then◌else◌ {A = Option (ℕ × Bool)} b None (Some (elem, false))) ≡ range_by elem z b
    split true b = refl
    split false true = refl
    split false false = refl

    by : (z b : Bool) → (ratio == 0) ≡ z → nat_le ratio (2 ^ 62) ≡ b → range_by elem z b ≡ None → IsRatio ratio
    by true b e f none = absurd (cc)
    by false true e f none = (grind (arith, nat_tests), leb-true ratio (2 ^ 62) f)
    by false false e f none = absurd (cc)

-- where no port of a shape is out of range, each leaf has a ratio
leaf_in_range : (ratio : ℕ → ℕ) (t : Outline) (q i : ℕ) → range_fault (ports_with ratio t) ≡ None → has_leaf (quantised q (ports_with ratio t)) i ≡ true → IsRatio (ratio i)
leaf_in_range ratio (single elem _ _) q i none there =
    in_either (elem == i) false there
    (λ same. subst (λ (j : ℕ). IsRatio (ratio j)) (eqb-true elem i same) (in_range elem (ratio elem) none))
    (λ no. absurd (false≢true no))
leaf_in_range ratio (joined Series l r) q i none there =
    let first = neither (range_fault (ports_with ratio l)) (option_or (range_fault (ports_with ratio r)) (out_of_range (outline_first (shape_outline (ports_with ratio l))) (ratio_of (ports_with ratio l) + ratio_of (ports_with ratio r)))) none in
    let second = neither (range_fault (ports_with ratio r)) (out_of_range (outline_first (shape_outline (ports_with ratio l))) (ratio_of (ports_with ratio l) + ratio_of (ports_with ratio r))) first.1 in
    in_either (has_leaf (quantised q (ports_with ratio l)) i) (has_leaf (quantised q (ports_with ratio r)) i)
    (sym (has_parts (quantised q (ports_with ratio l)) (quantised q (ports_with ratio r)) i) ∙ there)
    (leaf_in_range ratio l q i first.0) (leaf_in_range ratio r q i second.0)
leaf_in_range ratio (joined Parallel l r) q i none there =
    let own = ratio_of (ports_with ratio l) * ratio_of (ports_with ratio r) / (ratio_of (ports_with ratio l) + ratio_of (ports_with ratio r)) in
    let first = neither (range_fault (ports_with ratio l)) (option_or (range_fault (ports_with ratio r)) (out_of_range (outline_first (shape_outline (ports_with ratio l))) own)) none in
    let second = neither (range_fault (ports_with ratio r)) (out_of_range (outline_first (shape_outline (ports_with ratio l))) own) first.1 in
    in_either (has_leaf (quantised q (ports_with ratio l)) i) (has_leaf (quantised q (ports_with ratio r)) i)
    (sym (has_parts (quantised q (ports_with ratio l)) (quantised q (ports_with ratio r)) i) ∙ there)
    (leaf_in_range ratio l q i first.0) (leaf_in_range ratio r q i second.0)

-- ---- a network

-- a value that is there was made in range
abbrev value_or : Result Network DesignFault → Network → Network
value_or (Ok n) other = n
value_or (Err fault) other = other

unless_ok : (side : Side) (o : Option (ℕ × Bool)) (m n : Network) → unless_out_of_range side o m ≡ Ok n → (o ≡ None) × (m ≡ n)
unless_ok side None m n h = (refl, ap (λ (r : Result Network DesignFault). value_or r m) h)
unless_ok side (Some (element, low)) m n h = absurd (cc)

network_ratios : (rate k : ℕ) (side : Side) (c : CircuitValue) (h : Halves) (n : Network) → network_of rate k side c h ≡ Ok n → HasNumbers n → length (elements n) ≡ length c.elements
    → HasRatios rate c.elements
network_ratios rate k side c h n made numbers count i within =
    let is = unless_ok side (first_out_of_range rate c h) (network_with rate k c h) n made in
    let both = neither (range_fault (ports_of rate c h.left)) (range_fault (ports_of rate c h.right)) is.0 in
    let there = numbers.every i (subst (λ (l : ℕ). i < l) (sym count) within) in
    in_either (has_leaf n.left i) (has_leaf n.right i) (sym (has_parts n.left n.right i) ∙ there)
    (λ left. leaf_in_range (element_ratio rate c.elements) h.left (2 ^ k) i both.0 (ap (λ (m : Network). has_leaf m.left i) is.1 ∙ left))
    (λ right. leaf_in_range (element_ratio rate c.elements) h.right (2 ^ k) i both.1 (ap (λ (m : Network). has_leaf m.right i) is.1 ∙ right))

-- ---- a design

-- what a value that is there was made of
pub record Made {X Y : Type 0} (r : Result X DesignFault) (f : X → Result Y DesignFault) (y : Y) : Type 0 where
  pub value : X
  pub there : r ≡ Ok value
  pub made : f value ≡ Ok y

value_made : {X Y : Type 0} (r : Result X DesignFault) (f : X → Result Y DesignFault) (y : Y) → with_value r f ≡ Ok y → Made r f y
value_made (Ok x) f y h = record { value = x; there = refl; made = h }
value_made (Err fault) f y h = absurd (cc)

-- the networks of a design that is there
abbrev first_in : Result Networks DesignFault → Network → Network
first_in (Ok (Ladder m)) other = m
first_in (Ok (Lattice m n)) other = m
first_in (Err fault) other = other

abbrev second_in : Result Networks DesignFault → Network → Network
second_in (Ok (Ladder m)) other = m
second_in (Ok (Lattice m n)) other = n
second_in (Err fault) other = other

made_ladder : (rate k : ℕ) (c : CircuitValue) (n : Network) → designed rate k (One c) ≡ Ok (Ladder n) → HasNumbers n
    → length (elements n) ≡ length c.elements → HasRatios rate c.elements
made_ladder rate k c n there numbers count =
    let shape = value_made (shape_of Whole c) (λ t. with_value (network_of rate k Whole c (trees_of c t)) (λ m. Ok (Ladder m))) (Ladder n) there in
    let net = value_made (network_of rate k Whole c (trees_of c shape.value)) (λ m. Ok (Ladder m)) (Ladder n) shape.made in
    let same : net.value ≡ n = ap (λ (r : Result Networks DesignFault). first_in r net.value) net.made in
    network_ratios rate k Whole c (trees_of c shape.value) n (net.there ∙ ap Ok same) numbers count

pub record LatticeRatios (rate : ℕ) (a b : CircuitValue) : Type 0 where
  pub first : HasRatios rate a.elements
  pub second : HasRatios rate b.elements

made_lattice : (rate k : ℕ) (a b : CircuitValue) (m n : Network) → designed rate k (Two a b) ≡ Ok (Lattice m n) → HasNumbers m → HasNumbers n
    → length (elements m) ≡ length a.elements → length (elements n) ≡ length b.elements → LatticeRatios rate a b
made_lattice rate k a b m n there first second count other =
    let shape = value_made (shape_of A a) (λ s. with_value (shape_of B b) (λ t. with_value (network_of rate k A a (trees_of a s)) (λ x. with_value (network_of rate k B b (trees_of b t)) (λ y. Ok (Lattice x y))))) (Lattice m n) there in
    let shape' = value_made (shape_of B b) (λ t. with_value (network_of rate k A a (trees_of a shape.value)) (λ x. with_value (network_of rate k B b (trees_of b t)) (λ y. Ok (Lattice x y)))) (Lattice m n) shape.made in
    let net = value_made (network_of rate k A a (trees_of a shape.value)) (λ x. with_value (network_of rate k B b (trees_of b shape'.value)) (λ y. Ok (Lattice x y))) (Lattice m n) shape'.made in
    let net' = value_made (network_of rate k B b (trees_of b shape'.value)) (λ y. Ok (Lattice net.value y)) (Lattice m n) net.made in
    let same : net.value ≡ m = ap (λ (r : Result Networks DesignFault). first_in r m) net'.made in
    let same' : net'.value ≡ n = ap (λ (r : Result Networks DesignFault). second_in r n) net'.made in
    record {
      first = network_ratios rate k A a (trees_of a shape.value) m (net.there ∙ ap Ok same) first count;
      second = network_ratios rate k B b (trees_of b shape'.value) n (net'.there ∙ ap Ok same') second other;
    }

-- the circuits of a netlist whose networks these are
pub ladder_ratios : (nl : NetlistValue) (ns : Networks) (k rate : ℕ) (c : CircuitValue) (n : Network) → IsDesigned nl k ns → RealisesEach k nl.form ns → nl.form ≡ One c → ns ≡ Ladder n
    → rate ≡ nl.rate → HasNumbers n → HasRatios rate c.elements
ladder_ratios nl ns k rate c n there realised form is same numbers =
    let made : designed nl.rate k (One c) ≡ Ok (Ladder n) = ap (designed nl.rate k) (sym form) ∙ there ∙ ap Ok is in
    let real : Realises k c n = subst (λ (x : Networks). RealisesEach k (One c) x) is (subst (λ (f : Form). RealisesEach k f ns) form realised) in
    subst (λ (r : ℕ). HasRatios r c.elements) (sym same) (made_ladder nl.rate k c n made numbers real.count)

pub lattice_ratios : (nl : NetlistValue) (ns : Networks) (k rate : ℕ) (a b : CircuitValue) (m n : Network) → IsDesigned nl k ns → RealisesEach k nl.form ns → nl.form ≡ Two a b
    → ns ≡ Lattice m n → rate ≡ nl.rate → HasNumbers m → HasNumbers n → LatticeRatios rate a b
lattice_ratios nl ns k rate a b m n there realised form is same first second =
    let made : designed nl.rate k (Two a b) ≡ Ok (Lattice m n) = ap (designed nl.rate k) (sym form) ∙ there ∙ ap Ok is in
    let real : RealisesEach k (Two a b) (Lattice m n) = subst (λ (x : Networks). RealisesEach k (Two a b) x) is (subst (λ (f : Form). RealisesEach k f ns) form realised) in
    subst (λ (r : ℕ). LatticeRatios r a b) (sym same) (made_lattice nl.rate k a b m n made first second real.0.count real.1.count)
