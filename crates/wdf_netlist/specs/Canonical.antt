-- The canonical text of a netlist: lines of words that are parted by one space, each line ended by LF.
--
--   rate N
-- of a ladder the elements in order, and then
--   load NAME
--   root NAME, or shallow, or neither
-- and of a lattice
--   lattice VALUE
--   branch A FROM TO, the elements of branch A but its source in order, and its root NAME or shallow
--   branch B FROM TO, and the same of branch B
use Rattle.std.specs.Prelude.{ℕ, ℤ, pos, negsuc, ◌+◌, ◌-◌, Bool, true, false, ◌||◌, if◌then◌else◌, List, [], ◌∷◌, ◌++◌, length, map, flat_map, take, drop, replicate, slice_index_or, codes, decimal}
use Rattle.wdf_text.specs.DecimalNumber.{DecimalNumber}
use Rattle.wdf_law.specs.Network.{is_source}
use Rattle.wdf_law.specs.declared.kind.Kind.{Kind}
use Rattle.wdf_law.specs.declared.kind.Kind.TheVariants.{Src, Res, Ind, Cap}
use Rattle.wdf_law.specs.declared.outlet.Outlet.{Outlet}
use Rattle.wdf_law.specs.declared.outlet.Outlet.TheVariants as outlets
use Rattle.wdf_netlist.specs.declared.element.Element.{Element}
use Rattle.wdf_netlist.specs.declared.form.Form.{Form}
use Rattle.wdf_netlist.specs.declared.form.Form.TheVariants.{Ladder, Lattice}
use Rattle.wdf_netlist.specs.declared.root_choice.RootChoice.{RootChoice}
use Rattle.wdf_netlist.specs.declared.root_choice.RootChoice.TheVariants as roots
use Rattle.wdf_netlist.specs.Circuits.{CircuitValue, names}
use Rattle.wdf_netlist.specs.Netlists.{NetlistValue}

-- ---- lines

-- the words of a line: the first, and those behind it
pub record Words : Type 0 where
  pub first : List ℕ
  pub rest : List (List ℕ)

-- a line of words
abbrev pub line_text : Words → List ℕ
line_text l = l.first ++ flat_map (λ (word : List ℕ). 32 ∷ word) l.rest ++ 10 ∷ []

abbrev pub lines_text : List Words → List ℕ
lines_text ls = flat_map line_text ls

-- ---- values

-- these digits with so many of them behind a dot, and at least one before it
abbrev pub with_dot : List ℕ → ℕ → List ℕ
with_dot digits places =
    let all = replicate (places + 1 - length digits) 48 ++ digits in
    take (length all - places) all ++ 46 ∷ drop (length all - places) all

-- these digits times a power of ten
abbrev pub scaled_digits : List ℕ → ℤ → List ℕ
scaled_digits digits (pos zeros) = digits ++ replicate zeros 48
scaled_digits digits (negsuc n) = with_dot digits (n + 1)

-- a value as a plain decimal without a unit
abbrev pub value_text : DecimalNumber → List ℕ
value_text v = scaled_digits (decimal v.digits) v.exp

-- ---- the lines of elements

-- the first source of a circuit is its `source`, and each one behind it an `input`
abbrev pub element_word : Bool → Kind → List ℕ
element_word sourced Src = if sourced then codes "input" else codes "source"
element_word sourced Res = codes "r"
element_word sourced Ind = codes "l"
element_word sourced Cap = codes "c"

abbrev pub node_name : List (List ℕ) → ℕ → List ℕ
node_name nodes i = slice_index_or nodes i []

-- WORD NAME FROM TO VALUE
abbrev pub element_words : List ℕ → List (List ℕ) → Element → Words
element_words word nodes e = record { first = word; rest = e.name ∷ node_name nodes e.from ∷ node_name nodes e.to ∷ value_text e.value ∷ [] }

-- elements between these nodes, behind a source or not
abbrev pub element_lines : List (List ℕ) → Bool → List Element → List Words
element_lines nodes sourced [] = []
element_lines nodes sourced (e ∷ es) = element_words (element_word sourced e.kind) nodes e ∷ element_lines nodes (sourced || is_source e.kind) es

-- ---- the lines of a circuit

abbrev pub element_name : List Element → ℕ → List ℕ
element_name elements i = slice_index_or (names elements) i []

abbrev pub load_lines : List Element → Outlet → List Words
load_lines elements (outlets.Load i) = record { first = codes "load"; rest = element_name elements i ∷ [] } ∷ []
load_lines elements outlets.Source = []

abbrev pub root_lines : List Element → RootChoice → List Words
root_lines elements roots.Source = []
root_lines elements (roots.Element i) = record { first = codes "root"; rest = element_name elements i ∷ [] } ∷ []
root_lines elements roots.Shallow = record { first = codes "shallow"; rest = [] } ∷ []

abbrev pub ladder_lines : CircuitValue → List Words
ladder_lines c = element_lines c.nodes false c.elements ++ (load_lines c.elements c.outlet ++ root_lines c.elements c.root)

-- a branch runs between its nodes 0 and 1; its source, element 0, has no line
abbrev pub branch_lines : List ℕ → CircuitValue → List Words
branch_lines letter c =
    record { first = codes "branch"; rest = letter ∷ node_name c.nodes 0 ∷ node_name c.nodes 1 ∷ [] } ∷ (element_lines c.nodes true (drop 1 c.elements) ++ root_lines c.elements c.root)

-- ---- the lines of a netlist

-- the termination of a lattice is the value of the source of its first branch
abbrev pub termination_of : List Element → DecimalNumber
termination_of elements = slice_index_or (map (λ (e : Element). e.value) elements) 0 (record { digits = 0; exp = pos 0 })

abbrev pub form_lines : Form → List Words
form_lines (Ladder c) = ladder_lines c
form_lines (Lattice a b) = record { first = codes "lattice"; rest = value_text (termination_of a.elements) ∷ [] } ∷ (branch_lines (codes "A") a ++ branch_lines (codes "B") b)

abbrev pub netlist_lines : NetlistValue → List Words
netlist_lines n = record { first = codes "rate"; rest = decimal n.rate ∷ [] } ∷ form_lines n.form

abbrev pub canonical : NetlistValue → List ℕ
canonical n = lines_text (netlist_lines n)
