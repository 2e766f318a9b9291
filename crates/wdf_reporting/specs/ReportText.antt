-- The report: what was made of a netlist under a plan, in lines that LF ends.
--
--   wdf report 1
--   form ladder, or lattice
--   rate N
--   plan k K guard G shift H frames F amp A bits B
--
-- and then the lines of the ladder's circuit, or those of branch A and of branch B:
--
--   branch X                             of a lattice
--   root NAME                            the element of the left tree
--   element NAME KIND ratio R bound W    for each element: source, input for a source behind it, r, l or c; its port's ratio
--                                        over the source's, and the bound of its port's words
--   junction root M
--   junction series M, or parallel       for each junction of the left tree and then of the right tree, before its parts
--   largest W limit L                    the largest bound of all ports, of junctions too
--   states N certified yes, or no
use Rattle.std.specs.Prelude.{ℕ, ◌<◌, Bool, not, ◌==◌, if◌then◌else◌, List, [], ◌∷◌, ◌++◌, length, map, flat_map, codes, decimal}
use Rattle.std.specs.List.{range_with_len}
use Rattle.wdf_law.specs.declared.side.Side.{Side}
use Rattle.wdf_law.specs.declared.side.Side.TheVariants.{Whole, A, B}
use Rattle.wdf_law.specs.Trees.{AdaptorTree, leaf, series, parallel, first_of}
use Rattle.wdf_law.specs.Network.{Network, reactances}
use Rattle.wdf_law.specs.PortOutline.{IsRatio}
use Rattle.wdf_netlist.specs.declared.element.Element.{Element}
use Rattle.wdf_netlist.specs.declared.form.Form.{Form}
use Rattle.wdf_netlist.specs.declared.form.Form.TheVariants.{Ladder as One, Lattice as Two}
use Rattle.wdf_netlist.specs.Canonical.{element_word}
use Rattle.wdf_netlist.specs.Circuits.{first_source}
use Rattle.wdf_netlist.specs.Netlists.{NetlistValue}
use Rattle.wdf_ports.specs.PortRatio.{element_at, element_ratio}
use Rattle.wdf_quant.specs.PortBound.{number_at, walk}
use Rattle.wdf_bounds.specs.Plans.{PlanOf}
use Rattle.wdf_bounds.specs.WordBound.{bound, bounds_of, greatest_of, word_limit}
use Rattle.wdf_lattice.specs.declared.networks.Networks.{Networks}
use Rattle.wdf_lattice.specs.declared.networks.Networks.TheVariants.{Ladder, Lattice}

abbrev pub lines_text : List (List ℕ) → List ℕ
lines_text ls = flat_map (λ (line : List ℕ). line ++ 10 ∷ []) ls

-- ---- the head

abbrev pub form_word : Form → List ℕ
form_word (One c) = codes "ladder"
form_word (Two a b) = codes "lattice"

abbrev pub plan_line : PlanOf → List ℕ
plan_line plan =
    codes "plan k " ++ decimal plan.k ++ codes " guard " ++ decimal plan.guard ++ codes " shift " ++ decimal plan.shift
    ++ codes " frames " ++ decimal plan.frames ++ codes " amp " ++ decimal plan.amp ++ codes " bits " ++ decimal plan.bits

abbrev pub head_lines : NetlistValue → PlanOf → List (List ℕ)
head_lines n plan =
    codes "wdf report 1"
    ∷ (codes "form " ++ form_word n.form)
    ∷ (codes "rate " ++ decimal n.rate)
    ∷ plan_line plan
    ∷ []

-- ---- a circuit and its network

abbrev pub branch_lines : Side → List (List ℕ)
branch_lines Whole = []
branch_lines A = codes "branch A" ∷ []
branch_lines B = codes "branch B" ∷ []

abbrev pub name_of : List Element → ℕ → List ℕ
name_of elements i = (element_at elements i).name

-- the word of an element's kind: a source behind the first one is an input
abbrev pub kind_word : List Element → ℕ → List ℕ
kind_word elements i = element_word (not (i == first_source elements)) (element_at elements i).kind

abbrev pub element_line : (rate : ℕ) → List Element → (i : ℕ) → (words : ℕ) → List ℕ
element_line rate elements i words =
    codes "element " ++ name_of elements i ++ codes " " ++ kind_word elements i
    ++ codes " ratio " ++ decimal (element_ratio rate elements i) ++ codes " bound " ++ decimal words

abbrev pub element_lines : (rate : ℕ) → PlanOf → List Element → Network → List (List ℕ)
element_lines rate plan elements n = map (λ (i : ℕ). element_line rate elements i (bound plan (number_at n i))) (range_with_len 0 (length elements))

abbrev pub junction_lines : AdaptorTree → List (List ℕ)
junction_lines (leaf _ _ _) = []
junction_lines (series m first second) = (codes "junction series " ++ decimal m) ∷ junction_lines first ++ junction_lines second
junction_lines (parallel m first second) = (codes "junction parallel " ++ decimal m) ∷ junction_lines first ++ junction_lines second

abbrev pub largest_line : PlanOf → Network → List ℕ
largest_line plan n = codes "largest " ++ decimal (greatest_of (bounds_of plan (walk n))) ++ codes " limit " ++ decimal (word_limit plan)

abbrev pub states_line : Network → (certified : Bool) → List ℕ
states_line n certified = codes "states " ++ decimal (length (reactances n)) ++ codes " certified " ++ (if certified then codes "yes" else codes "no")

abbrev pub circuit_lines : Side → (rate : ℕ) → PlanOf → List Element → Network → (certified : Bool) → List (List ℕ)
circuit_lines side rate plan elements n certified =
    branch_lines side
    ++ (codes "root " ++ name_of elements (first_of n.left))
    ∷ element_lines rate plan elements n
    ++ (codes "junction root " ++ decimal n.m)
    ∷ junction_lines n.left
    ++ junction_lines n.right
    ++ largest_line plan n
    ∷ states_line n certified
    ∷ []

-- ---- all circuits of a netlist

abbrev pub form_lines : (rate : ℕ) → PlanOf → Form → Networks → (certified : Side → Bool) → List (List ℕ)
form_lines rate plan (One c) (Ladder n) certified = circuit_lines Whole rate plan c.elements n (certified Whole)
form_lines rate plan (One c) (Lattice m n) certified = []
form_lines rate plan (Two a b) (Ladder n) certified = []
form_lines rate plan (Two a b) (Lattice m n) certified =
    circuit_lines A rate plan a.elements m (certified A)
    ++ circuit_lines B rate plan b.elements n (certified B)

abbrev pub report_text : NetlistValue → Networks → PlanOf → (certified : Side → Bool) → List ℕ
report_text n ns plan certified = lines_text (head_lines n plan ++ form_lines n.rate plan n.form ns certified)

-- ---- where a circuit has a text

-- the ports of all elements have ratios
abbrev pub HasRatios : (rate : ℕ) → List Element → Type 0
HasRatios rate elements = (i : ℕ) → i < length elements → IsRatio (element_ratio rate elements i)
