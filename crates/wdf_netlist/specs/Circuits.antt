-- A circuit: its elements, the names of its nodes, its outlet and its choice of root. The number of an
-- element and of a node is its place in its list.
use Rattle.std.specs.Prelude.{◌≡◌, ◌≢◌, ℕ, pos, negsuc, ◌%◌, ◌<◌, ◌≤◌, ◌≤ℤ◌, Bool, false, List, [], ◌∷◌, ◌++◌, if◌then◌else◌, length, map, fold, flat_map, filter, count_by, eqb, Option, Some, unwrap_or, option_map, slice_get, slice_index_or, All, IsTrue}
use Rattle.std.specs.List.{list_any, range_with_len}
use Rattle.wdf_text.specs.DecimalNumber.{DecimalNumber}
use Rattle.wdf_text.specs.Names.{IsName, is_name_or_at_sign}
use Rattle.wdf_law.specs.Network.{is_source, is_reactance}
use Rattle.wdf_law.specs.declared.kind.Kind.{Kind}
use Rattle.wdf_law.specs.declared.kind.Kind.TheVariants.{Res, Src}
use Rattle.wdf_law.specs.declared.outlet.Outlet.{Outlet}
use Rattle.wdf_law.specs.declared.outlet.Outlet.TheVariants.{Load, Source as At_source}
use Rattle.wdf_law.specs.declared.TheConstants.{MAX_SOURCES}
use Rattle.wdf_netlist.specs.declared.TheConstants.{MAX_ELEMENTS, MAX_REACTANCES}
use Rattle.wdf_netlist.specs.declared.element.Element.{Element}
use Rattle.wdf_netlist.specs.declared.root_choice.RootChoice.{RootChoice}
use Rattle.wdf_netlist.specs.declared.root_choice.RootChoice.TheVariants.{Source, Element as At_element, Shallow}

pub record CircuitValue : Type 0 where
  pub elements : List Element
  pub nodes : List (List ℕ)
  pub outlet : Outlet
  pub root : RootChoice

-- ---- elements by their numbers

-- the kind of the element with this number
abbrev pub kind_at : List Element → ℕ → Option Kind
kind_at elements i = option_map (λ (e : Element). e.kind) (slice_get elements i)

-- the element with this number is of such a kind
abbrev pub is_kind_at : (Kind → Bool) → List Element → ℕ → Bool
is_kind_at test elements i = unwrap_or (option_map test (kind_at elements i)) false

-- the numbers of the elements of such a kind, in their order
abbrev pub numbers_where : (Kind → Bool) → List Element → List ℕ
numbers_where test elements = filter (is_kind_at test elements) (range_with_len 0 (length elements))

-- the numbers of the sources
abbrev pub sources : List Element → List ℕ
sources elements = numbers_where is_source elements

-- the number of source 0, between whose ends a circuit is reduced and over whose resistance ratios are counted
abbrev pub first_source : List Element → ℕ
first_source elements = slice_index_or (sources elements) 0 0

-- the element with this number is a source, between two nodes
pub record IsSourceAt (elements : List Element) (i : ℕ) : Type 0 where
  pub within : i < length elements
  pub element : Element
  pub there : slice_get elements i ≡ Some element
  pub source : element.kind ≡ Src
  pub ends_differ : element.from ≢ element.to

-- how many elements are of such a kind
abbrev pub count_kind : (Kind → Bool) → List Element → ℕ
count_kind test elements = count_by (λ (e : Element). test e.kind) elements

abbrev pub names : List Element → List (List ℕ)
names elements = map (λ (e : Element). e.name) elements

-- no two places hold the same
abbrev pub AreDistinct : List (List ℕ) → Type 0
AreDistinct xs = (i j : ℕ) (x : List ℕ) → slice_get xs i ≡ Some x → slice_get xs j ≡ Some x → i ≡ j

-- ---- nodes in the order in which they are first mentioned

-- the nodes that the elements mention, in order, each element's `from` before its `to`
abbrev pub mentions : List Element → List ℕ
mentions elements = flat_map (λ (e : Element). e.from ∷ e.to ∷ []) elements

-- a list with x behind it, if x is not in it yet
abbrev pub with_new : {X : Type 0} → (X → X → Bool) → List X → X → List X
with_new same xs x = if list_any (same x) xs then xs else (xs ++ x ∷ [])

-- what is in a list, each once, in the order in which it first comes
abbrev pub first_mentions : {X : Type 0} → (X → X → Bool) → List X → List X
first_mentions same xs = fold (with_new same) [] xs

-- ---- what the type of a circuit keeps

-- a value is digits · 10^exp with digits in 1..=999,999,999, not ending in 0, and exp in -18..=9
pub record IsElementValue (v : DecimalNumber) : Type 0 where
  pub some : 1 ≤ v.digits
  pub few : v.digits ≤ 999999999
  pub last : 1 ≤ v.digits % 10
  pub low : negsuc 17 ≤ℤ v.exp
  pub high : v.exp ≤ℤ pos 9

-- a load is a resistor
abbrev pub HasOutlet : List Element → Outlet → Type 0
HasOutlet elements (Load i) = kind_at elements i ≡ Some Res
HasOutlet elements At_source = Unit {0}

-- a root at an element is at one that is there
abbrev pub HasRoot : List Element → RootChoice → Type 0
HasRoot elements (At_element i) = i < length elements
HasRoot elements Source = Unit {0}
HasRoot elements Shallow = Unit {0}

pub record IsCircuit (c : CircuitValue) : Type 0 where
  pub fewest : 2 ≤ length c.elements
  pub most : length c.elements ≤ MAX_ELEMENTS
  pub most_reactances : count_kind is_reactance c.elements ≤ MAX_REACTANCES
  pub fewest_sources : 1 ≤ count_kind is_source c.elements
  pub most_sources : count_kind is_source c.elements ≤ MAX_SOURCES
  pub named : All (λ (e : Element). IsTrue (is_name_or_at_sign e.name)) c.elements
  pub distinct : AreDistinct (names c.elements)
  pub ends_differ : All (λ (e : Element). e.from ≢ e.to) c.elements
  pub from_node : All (λ (e : Element). e.from < length c.nodes) c.elements
  pub to_node : All (λ (e : Element). e.to < length c.nodes) c.elements
  pub values : All (λ (e : Element). IsElementValue e.value) c.elements
  -- no node is named `@`, which is no name of a text
  pub nodes_named : All IsName c.nodes
  pub nodes_distinct : AreDistinct c.nodes
  -- the nodes are numbered in the order in which the elements first mention them
  pub nodes_in_order : first_mentions eqb (mentions c.elements) ≡ range_with_len 0 (length c.nodes)
  pub outlet : HasOutlet c.elements c.outlet
  pub root : HasRoot c.elements c.root
