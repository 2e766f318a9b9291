-- Netlists whose networks, or whose refusals, were worked by hand or by another program, against which the definitions
-- are checked. Names don't matter here.
use Rattle.std.specs.Prelude.{◌≡◌, ℕ, ℤ, pos, negsuc, true, false, List, [], ◌∷◌, Err}
use Rattle.wdf_law.specs.declared.kind.Kind.{Kind}
use Rattle.wdf_law.specs.declared.kind.Kind.TheVariants.{Res, Cap, Ind, Src}
use Rattle.wdf_law.specs.declared.side.Side.TheVariants.{Whole, A, B}
use Rattle.wdf_law.specs.declared.outlet.Outlet.{Outlet}
use Rattle.wdf_law.specs.declared.outlet.Outlet.TheVariants.{Load, Source}
use Rattle.wdf_law.specs.Trees.{leaf, series, parallel}
use Rattle.wdf_law.specs.Network.{Network}
use Rattle.wdf_law.specs.WorkedFrames.{capacitor_circuit, inductor_circuit}
use Rattle.wdf_netlist.specs.declared.element.Element.{Element}
use Rattle.wdf_netlist.specs.declared.root_choice.RootChoice.{RootChoice}
use Rattle.wdf_netlist.specs.declared.root_choice.RootChoice.TheVariants.{Source as At_source, Element as At_element}
use Rattle.wdf_netlist.specs.declared.form.Form.TheVariants.{Ladder as One, Lattice as Two}
use Rattle.wdf_netlist.specs.Circuits.{CircuitValue}
use Rattle.wdf_netlist.specs.Netlists.{NetlistValue}
use Rattle.wdf_sp.specs.WorkedCircuits.{edge, bridge_core}
use Rattle.wdf_lattice.specs.declared.networks.Networks.TheVariants.{Ladder, Lattice}
use Rattle.wdf_lattice.specs.WorkedWaves.{branch, divider, mixer}
use Rattle.wdf_design.specs.declared.design_fault.DesignFault.{DesignFault}
use Rattle.wdf_design.specs.declared.design_fault.DesignFault.TheVariants.{Core, Range}
use Rattle.wdf_design.specs.Designs.{design_of, IsDesigned}

-- ---- elements and netlists

abbrev pub element : Kind → (from to : ℕ) → (digits : ℕ) → (exp : ℤ) → Element
element kind from to digits exp = record { name = []; kind = kind; from = from; to = to; value = record { digits = digits; exp = exp } }

-- a source of one ohm, and one of so many ohms, from node 0 to node 1
abbrev pub source : Element
source = element Src 0 1 1 (pos 0)

-- a resistor of digits·10^exp ohms
abbrev pub resistor : (from to : ℕ) → (digits : ℕ) → (exp : ℤ) → Element
resistor from to digits exp = element Res from to digits exp

abbrev pub circuit : List Element → Outlet → RootChoice → CircuitValue
circuit elements outlet root = record { elements = elements; nodes = []; outlet = outlet; root = root }

-- a ladder whose load has this number, rooted at its source
abbrev pub ladder : (rate : ℕ) → List Element → (load : ℕ) → NetlistValue
ladder rate elements load = record { rate = rate; form = One (circuit elements (Load load) At_source) }

-- and rooted at an element
abbrev pub rooted_ladder : (rate : ℕ) → List Element → (load root : ℕ) → NetlistValue
rooted_ladder rate elements load root = record { rate = rate; form = One (circuit elements (Load load) (At_element root)) }

-- a lattice of two branches
abbrev pub lattice : (rate : ℕ) → (a b : List Element) → NetlistValue
lattice rate a b = record { rate = rate; form = Two (circuit a Source At_source) (circuit b Source At_source) }

-- ---- the netlists

abbrev pub divider_text : NetlistValue
divider_text = ladder 48000 (source ∷ resistor 0 1 1 (pos 0) ∷ []) 1

-- a load that is written against the source's direction
abbrev pub opposed_text : NetlistValue
opposed_text = ladder 48000 (source ∷ resistor 1 0 1 (pos 0) ∷ []) 1

-- 10 microfarads or microhenries, and a load of one ohm
abbrev pub capacitor_elements : List Element
capacitor_elements = source ∷ element Cap 0 1 1 (negsuc 4) ∷ resistor 0 1 1 (pos 0) ∷ []

abbrev pub inductor_elements : List Element
inductor_elements = source ∷ element Ind 0 1 1 (negsuc 4) ∷ resistor 0 1 1 (pos 0) ∷ []

-- two sources and a load, in parallel
abbrev pub mixer_elements : List Element
mixer_elements = source ∷ source ∷ resistor 0 1 1 (pos 0) ∷ []

-- a resistor before the load
abbrev pub chain_elements : List Element
chain_elements = source ∷ resistor 0 2 1 (pos 0) ∷ resistor 2 1 1 (pos 0) ∷ []

-- a bridge
abbrev pub bridge_elements : List Element
bridge_elements =
    source ∷ resistor 0 2 1 (pos 0) ∷ resistor 0 3 1 (pos 0) ∷ resistor 2 3 1 (pos 0) ∷ resistor 2 1 1 (pos 0) ∷ resistor 3 1 1 (pos 0) ∷ []

-- a ladder of 600 ohms with seven reactances, at 44,100 frames per second: shunts of 47, 100, 100 and 47 nanofarads,
-- and coils of 30, 33 and 30 millihenries between them
abbrev pub usual_elements : List Element
usual_elements =
    element Src 0 1 6 (pos 2)
    ∷ element Cap 0 1 47 (negsuc 8) ∷ element Ind 0 2 3 (negsuc 1)
    ∷ element Cap 2 1 1 (negsuc 6) ∷ element Ind 2 3 33 (negsuc 2)
    ∷ element Cap 3 1 1 (negsuc 6) ∷ element Ind 3 4 3 (negsuc 1)
    ∷ element Cap 4 1 47 (negsuc 8) ∷ element Res 4 1 6 (pos 2) ∷ []

abbrev pub usual_ladder : Network
usual_ladder = record {
  k = 14;
  m = 4422;
  left = leaf 0 Src false;
  right =
      parallel 15065 (leaf 1 Cap false) (series 15734 (leaf 2 Ind false)
      (parallel 15791 (leaf 3 Cap false) (series 15793 (leaf 4 Ind false)
      (parallel 15750 (leaf 5 Cap false) (series 15384 (leaf 6 Ind false) (parallel 11686 (leaf 7 Cap false) (leaf 8 Res false)))))));
  outlet = Load 8;
}

-- a resistor as one branch
abbrev pub arm : (digits : ℕ) → (exp : ℤ) → List Element
arm digits exp = source ∷ resistor 0 1 digits exp ∷ []

-- a branch with a resistor that ends at a node of its own
abbrev pub dangling_arm : List Element
dangling_arm = source ∷ resistor 0 1 1 (pos 0) ∷ resistor 0 2 1 (pos 0) ∷ []

-- 0.4 picoohm, which is too low, and 5 megohm, which is too high
abbrev pub low_and_high : List Element
low_and_high = source ∷ resistor 0 1 4 (negsuc 12) ∷ resistor 0 1 5 (pos 6) ∷ []

-- a netlist is refused for this
abbrev pub IsRefused : NetlistValue → DesignFault → Type 0
IsRefused n fault = design_of n 14 ≡ Err fault

pub record AreWorkedDesigns : Type 0 where
  pub divider_made : IsDesigned divider_text 14 (Ladder divider)
  pub opposed_made : IsDesigned opposed_text 14 (Ladder (record { k = 14; m = 8192; left = leaf 0 Src false; right = leaf 1 Res true; outlet = Load 1 }))
  pub capacitor_made : IsDesigned (ladder 50000 capacitor_elements 2) 14 (Ladder capacitor_circuit)
  pub inductor_made : IsDesigned (ladder 50000 inductor_elements 2) 14 (Ladder inductor_circuit)
  -- rooted at the capacitor, with the source in the right tree
  pub rooted_made : IsDesigned (rooted_ladder 50000 capacitor_elements 2 1) 14
      (Ladder (record { k = 14; m = 5461; left = leaf 1 Cap false; right = parallel 8192 (leaf 0 Src false) (leaf 2 Res false); outlet = Load 2 }))
  pub mixer_made : IsDesigned (ladder 48000 mixer_elements 2) 14 (Ladder mixer)
  pub chain_made : IsDesigned (ladder 48000 chain_elements 2) 14
      (Ladder (record { k = 14; m = 10923; left = leaf 0 Src false; right = series 8192 (leaf 1 Res false) (leaf 2 Res false); outlet = Load 2 }))
  pub usual_made : IsDesigned (ladder 44100 usual_elements 8) 14 (Ladder usual_ladder)
  -- arms of a microohm and a megohm
  pub lattice_made : IsDesigned (lattice 48000 (arm 1 (negsuc 5)) (arm 1 (pos 6))) 14 (Lattice (branch 1) (branch 16383))
  pub bridge_refused : IsRefused (ladder 48000 bridge_elements 3) (Core Whole 1 bridge_core)
  -- branch A's core before B's, and B's before a ratio of A that is out of range
  pub first_branch : IsRefused (lattice 48000 dangling_arm dangling_arm) (Core A 2 (edge 1 0 1 ∷ edge 2 0 2 ∷ []))
  pub second_branch : IsRefused (lattice 48000 (arm 5 (pos 6)) dangling_arm) (Core B 2 (edge 1 0 1 ∷ edge 2 0 2 ∷ []))
  pub too_low : IsRefused (ladder 48000 (arm 4 (negsuc 12)) 1) (Range Whole 1 true)
  pub too_high : IsRefused (ladder 48000 (arm 5 (pos 6)) 1) (Range Whole 1 false)
  -- of several ratios the left tree's comes first, and then the first part's
  pub first_part : IsRefused (ladder 48000 low_and_high 2) (Range Whole 1 true)
  pub left_tree : IsRefused (rooted_ladder 48000 low_and_high 2 2) (Range Whole 2 false)
  -- and of two branches A's
  pub first_ratio : IsRefused (lattice 48000 (arm 5 (pos 6)) (arm 4 (negsuc 12))) (Range A 1 false)
  pub second_ratio : IsRefused (lattice 48000 (arm 1 (pos 0)) (arm 4 (negsuc 12))) (Range B 1 true)
