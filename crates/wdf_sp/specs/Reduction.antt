-- The reduction of a circuit to one edge between two nodes p and q, the ends of the source, or to a core. Two
-- edges between the same nodes are merged in parallel; only where there are none, two edges that meet at a
-- node which is neither p nor q and which no other edge touches are merged in series. Of several pairs the one
-- with the earliest first edge is taken, and of these the one with the earliest second edge.
use Rattle.std.specs.Prelude.{ℕ, zero, suc, ◌+◌, ◌==◌, if◌then◌else◌, Bool, false, not, ◌&&◌, ◌||◌, List, [], ◌∷◌, length, Option, None, Some, unwrap_or, count_by, remove, slice_set, slice_index_or, find}
use Rattle.std.specs.Option.{option_or, option_map}
use Rattle.wdf_law.specs.declared.connection.Connection.{Connection}
use Rattle.wdf_law.specs.declared.connection.Connection.TheVariants.{Series, Parallel}
use Rattle.wdf_law.specs.declared.kind.Kind.TheVariants.{Res}
use Rattle.wdf_law.specs.Outline.{Outline, single, joined, outline_first}
use Rattle.wdf_law.specs.Reversal.{reversed}
use Rattle.wdf_law.specs.Spans.{Branch}
use Rattle.wdf_sp.specs.declared.merge.Merge.{Merge}

-- an edge of the list: a network that stands from one node to another
pub record Arc : Type 0 where
  pub shape : Outline
  pub from : ℕ
  pub to : ℕ

-- ---- one edge

-- one of its ends is the node x
abbrev pub touches : ℕ → Arc → Bool
touches x a = (a.from == x) || (a.to == x)

-- the same edge from its end to its beginning
abbrev pub turned : Arc → Arc
turned a = record { shape = reversed a.shape; from = a.to; to = a.from }

-- an edge that touches x, directed so that it begins there, or so that it ends there
abbrev pub leaving : ℕ → Arc → Arc
leaving x a = if a.from == x then a else turned a

abbrev pub arriving : ℕ → Arc → Arc
arriving x a = if a.to == x then a else turned a

-- ---- two edges

-- both stand between the same two nodes
abbrev pub have_same_ends : Arc → Arc → Bool
have_same_ends a b = ((b.from == a.from) && (b.to == a.to)) || ((b.from == a.to) && (b.to == a.from))

-- how many edges touch the node x
abbrev pub degree : List Arc → ℕ → ℕ
degree es x = count_by (touches x) es

-- x is neither p nor q, and n edges touch it
abbrev pub is_free : ℕ → ℕ → List Arc → ℕ → ℕ → Bool
is_free p q es n x = not (x == p) && (not (x == q) && (degree es x == n))

-- the node x, an end of an edge, is one of the second edge too, and no third edge touches it
abbrev pub meet_at : ℕ → ℕ → List Arc → ℕ → Arc → Bool
meet_at p q es x b = touches x b && is_free p q es 2 x

-- they meet so at an end of a
abbrev pub are_in_series : ℕ → ℕ → List Arc → Arc → Arc → Bool
are_in_series p q es a b = meet_at p q es a.to b || meet_at p q es a.from b

-- the node where they do
abbrev pub inner_node : ℕ → ℕ → List Arc → Arc → Arc → ℕ
inner_node p q es a b = if meet_at p q es a.to b then a.to else a.from

-- the merged edge: in parallel it has the direction of a, in series it runs from a's other end to b's other end
abbrev pub side_by_side : Arc → Arc → Arc
side_by_side a b = record { shape = joined Parallel a.shape (leaving a.from b).shape; from = a.from; to = a.to }

abbrev pub end_to_end : ℕ → Arc → Arc → Arc
end_to_end x a b = record { shape = joined Series (arriving x a).shape (leaving x b).shape; from = (arriving x a).from; to = (leaving x b).to }

abbrev pub joined_at : Connection → ℕ → Arc → Arc → Arc
joined_at Parallel x a b = side_by_side a b
joined_at Series x a b = end_to_end x a b

abbrev pub merged : ℕ → ℕ → List Arc → Connection → Arc → Arc → Arc
merged p q es c a b = joined_at c (inner_node p q es a b) a b

-- the ends of the edge are p and q
abbrev pub is_between : ℕ → ℕ → Arc → Bool
is_between p q a = ((a.from == p) && (a.to == q)) || ((a.from == q) && (a.to == p))

-- ---- the list

-- the first place whose edge passes, where the list begins at the place n
abbrev pub first_place : (Arc → Bool) → ℕ → List Arc → Option ℕ
first_place test n [] = None
first_place test n (a ∷ es) = if test a then Some n else first_place test (n + 1) es

-- the pair that passes with the least first place, and then the least second place above it
abbrev pub first_pair : Connection → (Arc → Arc → Bool) → ℕ → List Arc → Option Merge
first_pair c test n [] = None
first_pair c test n (a ∷ es) =
    option_or (option_map (λ j. record { connection = c; first = n; second = j }) (first_place (test a) (n + 1) es)) (first_pair c test (n + 1) es)

-- what the rule for this connection asks of two edges
abbrev pub fit : ℕ → ℕ → List Arc → Connection → Arc → Arc → Bool
fit p q es Parallel a b = have_same_ends a b
fit p q es Series a b = are_in_series p q es a b

abbrev pub pair_by : ℕ → ℕ → List Arc → Connection → Option Merge
pair_by p q es c = first_pair c (fit p q es c) 0 es

-- the merge that the two rules ask for
abbrev pub next_merge : ℕ → ℕ → List Arc → Option Merge
next_merge p q es = option_or (pair_by p q es Parallel) (pair_by p q es Series)

abbrev pub no_arc : Arc
no_arc = record { shape = single 0 Res false; from = 0; to = 0 }

abbrev pub arc_at : List Arc → ℕ → Arc
arc_at es i = slice_index_or es i no_arc

-- the list after a merge: the merged edge takes the first place, and the second edge is taken out
abbrev pub after_merge : ℕ → ℕ → List Arc → Merge → List Arc
after_merge p q es m = slice_set (remove es m.second) m.first (merged p q es m.connection (arc_at es m.first) (arc_at es m.second))

abbrev pub next : ℕ → ℕ → List Arc → Option (List Arc)
next p q es = option_map (after_merge p q es) (next_merge p q es)

-- the list after at most n merges; each shortens it, so its length is enough to reach the end
abbrev pub reduced : ℕ → ℕ → ℕ → List Arc → List Arc
reduced zero p q es = es
reduced (suc n) p q es = unwrap_or (option_map (reduced n p q) (next p q es)) es

abbrev pub fully_reduced : ℕ → ℕ → List Arc → List Arc
fully_reduced p q es = reduced (length es) p q es

-- ---- a circuit

-- an element as the circuit has it
abbrev pub branch_at : List Branch → ℕ → Branch
branch_at bs i = slice_index_or bs i (record { kind = Res; from = 0; to = 0 })

-- an element as an edge in its own direction
abbrev pub leaf_arc : ℕ → Branch → Arc
leaf_arc i b = record { shape = single i b.kind false; from = b.from; to = b.to }

-- each element but the source as an edge, where the list begins with the element n
abbrev pub edges_from : ℕ → ℕ → List Branch → List Arc
edges_from source n [] = []
edges_from source n (b ∷ bs) = if n == source then edges_from source (n + 1) bs else leaf_arc n b ∷ edges_from source (n + 1) bs

-- the list where the reduction of the circuit ends
abbrev pub reduction : List Branch → ℕ → List Arc
reduction bs source = fully_reduced (branch_at bs source).from (branch_at bs source).to (edges_from source 0 bs)

-- the shape of a list that is one edge between p and q, directed from p to q
abbrev pub accepted : ℕ → ℕ → List Arc → Option Outline
accepted p q [] = None
accepted p q (a ∷ []) =
    if (a.from == p) && (a.to == q) then Some a.shape else if (a.from == q) && (a.to == p) then Some (reversed a.shape) else None
accepted p q (a ∷ b ∷ es) = None

abbrev pub shape_in : List Branch → ℕ → Option Outline
shape_in bs source = accepted (branch_at bs source).from (branch_at bs source).to (reduction bs source)

-- an edge hangs where no other touches one of its ends, and that end is neither p nor q
abbrev pub hangs : ℕ → ℕ → List Arc → Arc → Bool
hangs p q es a = is_free p q es 1 a.from || is_free p q es 1 a.to

-- the element that a core is named by: the first leaf of the first edge that hangs, or of the first edge
abbrev pub naming_element : ℕ → ℕ → List Arc → ℕ
naming_element p q es = outline_first (unwrap_or (find (hangs p q es) es) (arc_at es 0)).shape
