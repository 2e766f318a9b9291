-- A quantised network: two trees of adaptors joined at the root, with the width k of its multipliers,
-- the root's multiplier m, and the element whose down wave is the output.
use Rattle.std.specs.Prelude.{◌≡◌, ℕ, ◌+◌, ◌^◌, if◌then◌else◌, ◌≤◌, ◌<◌, Bool, true, false, ◌&&◌, ◌==◌, List, [], ◌∷◌, ◌++◌, length, map, filter, IsTrue, All}
use Rattle.std.specs.List.{range_with_len, list_any}
use Rattle.wdf_law.specs.declared.kind.Kind.{Kind}
use Rattle.wdf_law.specs.declared.kind.Kind.TheVariants.{Res, Cap, Ind, Src}
use Rattle.wdf_law.specs.declared.TheConstants.{MAX_SOURCES}
use Rattle.wdf_law.specs.declared.outlet.Outlet.{Outlet}
use Rattle.wdf_law.specs.declared.outlet.Outlet.TheVariants.{Load, Source}
use Rattle.wdf_law.specs.declared.tree.Tree.{Tree}
use Rattle.wdf_law.specs.Trees.{AdaptorTree, adaptor_tree, leaf, series, parallel, LeafElement, elements_of, first_of, depth_of}

pub record Network : Type 0 where
  pub k : ℕ
  pub m : ℕ
  pub left : AdaptorTree
  pub right : AdaptorTree
  pub outlet : Outlet

-- a network by the fields of its type
abbrev pub network_of : ℕ → ℕ → Tree → Tree → Outlet → Network
network_of k m left right outlet = record { k = k; m = m; left = adaptor_tree left; right = adaptor_tree right; outlet = outlet }

-- q = 2^k, the units of 1/q in a whole
abbrev pub unit_of : Network → ℕ
unit_of n = 2 ^ n.k

-- the elements, left tree before right tree
abbrev pub elements : Network → List LeafElement
elements n = elements_of n.left ++ elements_of n.right

-- the numbers of a tree's elements, and of a network's
abbrev pub numbers_of : AdaptorTree → List ℕ
numbers_of t = map (λ (x : LeafElement). x.number) (elements_of t)

abbrev pub numbers : Network → List ℕ
numbers n = map (λ (x : LeafElement). x.number) (elements n)

-- an adaptor: the multiplier of a junction and the number of its first leaf
pub record Adaptor : Type 0 where
  pub multiplier : ℕ
  pub first : ℕ

-- the adaptors of a tree, each before those of its parts
abbrev pub adaptors_of : AdaptorTree → List Adaptor
adaptors_of (leaf elem _ _) = []
adaptors_of (series m l r) = record { multiplier = m; first = first_of l } ∷ adaptors_of l ++ adaptors_of r
adaptors_of (parallel m l r) = record { multiplier = m; first = first_of l } ∷ adaptors_of l ++ adaptors_of r

-- their multipliers
abbrev pub multipliers_of : AdaptorTree → List ℕ
multipliers_of t = map (λ (a : Adaptor). a.multiplier) (adaptors_of t)

-- the root, then the adaptors of the left tree and of the right tree
abbrev pub adaptors_between : ℕ → AdaptorTree → AdaptorTree → List Adaptor
adaptors_between m left right = record { multiplier = m; first = first_of left } ∷ adaptors_of left ++ adaptors_of right

abbrev pub adaptors : Network → List Adaptor
adaptors n = adaptors_between n.m n.left n.right

-- the multipliers in that order
abbrev pub multipliers : Network → List ℕ
multipliers n = map (λ (a : Adaptor). a.multiplier) (adaptors n)

abbrev pub is_source : Kind → Bool
is_source Src = true
is_source Res = false
is_source Cap = false
is_source Ind = false

abbrev pub is_resistor : Kind → Bool
is_resistor Res = true
is_resistor Src = false
is_resistor Cap = false
is_resistor Ind = false

-- capacitors and inductors
abbrev pub is_reactance : Kind → Bool
is_reactance Cap = true
is_reactance Ind = true
is_reactance Res = false
is_reactance Src = false

-- resistors and sources
abbrev pub is_absorbing : Kind → Bool
is_absorbing Res = true
is_absorbing Src = true
is_absorbing Cap = false
is_absorbing Ind = false

-- an element with this number is among the elements
abbrev pub has_element : List LeafElement → ℕ → Bool
has_element xs i = list_any (λ (x : LeafElement). x.number == i) xs

-- a leaf of the tree has this number
abbrev pub has_leaf : AdaptorTree → ℕ → Bool
has_leaf t i = has_element (elements_of t) i

-- an element with this number that is of such a kind is among the elements
abbrev pub has_kind : (Kind → Bool) → List LeafElement → ℕ → Bool
has_kind is xs i = list_any (λ (x : LeafElement). (x.number == i) && is x.kind) xs

abbrev pub has_reactance : List LeafElement → ℕ → Bool
has_reactance xs i = has_kind is_reactance xs i

abbrev pub has_resistor : List LeafElement → ℕ → Bool
has_resistor xs i = has_kind is_resistor xs i

abbrev pub has_source : List LeafElement → ℕ → Bool
has_source xs i = has_kind is_source xs i

abbrev pub has_absorbing : List LeafElement → ℕ → Bool
has_absorbing xs i = has_kind is_absorbing xs i

-- a load is the number of a resistor
abbrev pub has_outlet : List LeafElement → Outlet → Bool
has_outlet xs (Load i) = has_resistor xs i
has_outlet xs Source = true

-- the numbers below the count of the elements at which they have what is asked, in their order
abbrev pub numbers_with : (List LeafElement → ℕ → Bool) → List LeafElement → List ℕ
numbers_with has xs = filter (has xs) (range_with_len 0 (length xs))

-- the numbers of the sources, in netlist order: source 0, source 1, ..
abbrev pub source_numbers : Network → List ℕ
source_numbers n = numbers_with has_source (elements n)

-- how often a number stands in a list
abbrev pub times_in : List ℕ → ℕ → ℕ
times_in [] i = 0
times_in (x ∷ xs) i = (if x == i then 1 else 0) + times_in xs i

-- what the type of a network keeps
pub record IsNetwork (n : Network) : Type 0 where
  pub width : (1 ≤ n.k) × (n.k ≤ 20)
  -- every multiplier is in 1..=q-1
  pub multipliers : All (λ (m : ℕ). (1 ≤ m) × (m < unit_of n)) (multipliers n)
  pub fewest : 2 ≤ length (elements n)
  pub most : length (elements n) ≤ 128
  -- the elements are the numbers below their count, each once
  pub below : All (λ (i : ℕ). i < length (elements n)) (numbers n)
  pub once : (i : ℕ) → i < length (elements n) → times_in (numbers n) i ≡ 1
  pub some_source : 1 ≤ length (source_numbers n)
  pub few_sources : length (source_numbers n) ≤ MAX_SOURCES
  pub outlet : IsTrue (has_outlet (elements n) n.outlet)
  pub left_depth : depth_of n.left ≤ 128
  pub right_depth : depth_of n.right ≤ 128

-- the numbers of the reactances, in netlist order
abbrev pub reactances : Network → List ℕ
reactances n = numbers_with has_reactance (elements n)

-- those of the resistors and the sources, in netlist order
abbrev pub absorbing_numbers : Network → List ℕ
absorbing_numbers n = numbers_with has_absorbing (elements n)
