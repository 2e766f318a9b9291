-- Circuits whose reduction and whose root were worked by hand, against which the definitions are checked: the
-- order of the merges and the choice among several roots can't be told from what a shape spans.
use Rattle.std.specs.Prelude.{◌≡◌, ℕ, true, false, List, [], ◌∷◌, None, Some}
use Rattle.wdf_law.specs.declared.connection.Connection.TheVariants.{Series, Parallel}
use Rattle.wdf_law.specs.declared.kind.Kind.TheVariants.{Res, Cap, Src}
use Rattle.wdf_law.specs.Outline.{Outline, single, joined}
use Rattle.wdf_law.specs.Spans.{Branch}
use Rattle.wdf_sp.specs.Reduction.{Arc, shape_in, reduction, naming_element}
use Rattle.wdf_sp.specs.Rerooting.{rerooted, rooted_depth, shallowest}

abbrev pub resistor_from : ℕ → ℕ → Branch
resistor_from p q = record { kind = Res; from = p; to = q }

abbrev pub capacitor_from : ℕ → ℕ → Branch
capacitor_from p q = record { kind = Cap; from = p; to = q }

abbrev pub the_source : Branch
the_source = record { kind = Src; from = 0; to = 1 }

abbrev pub resistor : ℕ → Outline
resistor i = single i Res false

abbrev pub edge : ℕ → ℕ → ℕ → Arc
edge i p q = record { shape = resistor i; from = p; to = q }

-- a source that is not the first element
abbrev pub later_source : List Branch
later_source = resistor_from 0 2 ∷ the_source ∷ resistor_from 2 1 ∷ []

-- a load against the source's direction: its leaf is flipped
abbrev pub opposed : List Branch
opposed = the_source ∷ resistor_from 1 0 ∷ []

-- a bridge: no two edges are in parallel, and every inner node has three
abbrev pub bridge : List Branch
bridge = the_source ∷ resistor_from 0 2 ∷ resistor_from 0 3 ∷ resistor_from 2 3 ∷ resistor_from 2 1 ∷ resistor_from 3 1 ∷ []

abbrev pub bridge_core : List Arc
bridge_core = edge 1 0 2 ∷ edge 2 0 3 ∷ edge 3 2 3 ∷ edge 4 2 1 ∷ edge 5 3 1 ∷ []

-- a capacitor that ends at a node of its own
abbrev pub dangling : List Branch
dangling = the_source ∷ resistor_from 0 1 ∷ capacitor_from 0 2 ∷ []

abbrev pub dangling_core : List Arc
dangling_core = edge 1 0 1 ∷ record { shape = single 2 Cap false; from = 0; to = 2 } ∷ []

-- four resistors one behind the other
abbrev pub chain : List Branch
chain = the_source ∷ resistor_from 0 2 ∷ resistor_from 2 3 ∷ resistor_from 3 4 ∷ resistor_from 4 1 ∷ []

abbrev pub chain_shape : Outline
chain_shape = joined Series (joined Series (joined Series (resistor 1) (resistor 2)) (resistor 3)) (resistor 4)

-- and of five
abbrev pub longer_chain_shape : Outline
longer_chain_shape = joined Series chain_shape (resistor 5)

-- two in parallel before a third: the pair in parallel is merged before the pair in series, and the second is
-- written against the first
abbrev pub anti_parallel : List Branch
anti_parallel = the_source ∷ resistor_from 0 2 ∷ resistor_from 2 0 ∷ resistor_from 2 1 ∷ []

-- two pairs in parallel: the first is merged first, and each merged edge takes the place of its first edge
abbrev pub two_pairs : List Branch
two_pairs = the_source ∷ resistor_from 0 2 ∷ resistor_from 2 1 ∷ resistor_from 0 2 ∷ resistor_from 2 1 ∷ []

-- a pair in series before a pair in parallel, which is merged first all the same
abbrev pub series_and_parallel : List Branch
series_and_parallel = the_source ∷ resistor_from 0 2 ∷ resistor_from 2 1 ∷ resistor_from 0 1 ∷ resistor_from 0 1 ∷ []

-- a loop that hangs on one node
abbrev pub loop : List Branch
loop = the_source ∷ resistor_from 0 1 ∷ resistor_from 1 2 ∷ resistor_from 1 2 ∷ []

-- two parts that touch only at a node that is no end of the source's
abbrev pub looped_chain : List Branch
looped_chain = the_source ∷ resistor_from 0 2 ∷ resistor_from 2 1 ∷ resistor_from 2 3 ∷ resistor_from 3 2 ∷ []

pub record AreWorkedCircuits : Type 0 where
  pub later_source_shape : shape_in later_source 1 ≡ Some (joined Series (resistor 0) (resistor 2))
  pub opposed_shape : shape_in opposed 0 ≡ Some (single 1 Res true)
  pub bridge_is_core : shape_in bridge 0 ≡ None
  pub bridge_end : reduction bridge 0 ≡ bridge_core
  pub bridge_named : naming_element 0 1 (reduction bridge 0) ≡ 1
  pub dangling_is_core : shape_in dangling 0 ≡ None
  pub dangling_end : reduction dangling 0 ≡ dangling_core
  pub dangling_named : naming_element 0 1 (reduction dangling 0) ≡ 2
  pub chain_reduced : shape_in chain 0 ≡ Some chain_shape
  pub anti_parallel_shape : shape_in anti_parallel 0 ≡ Some (joined Series (joined Parallel (resistor 1) (single 2 Res true)) (resistor 3))
  pub two_pairs_shape : shape_in two_pairs 0 ≡ Some (joined Series (joined Parallel (resistor 1) (resistor 3)) (joined Parallel (resistor 2) (resistor 4)))
  pub series_and_parallel_shape : shape_in series_and_parallel 0 ≡ Some (joined Parallel (joined Series (resistor 1) (resistor 2)) (joined Parallel (resistor 3) (resistor 4)))
  pub loop_end : reduction loop 0 ≡ edge 1 0 1 ∷ record { shape = joined Parallel (resistor 2) (resistor 3); from = 1; to = 2 } ∷ []
  pub loop_named : naming_element 0 1 (reduction loop 0) ≡ 2
  pub looped_chain_end : reduction looped_chain 0 ≡ edge 1 0 2 ∷ edge 2 2 1 ∷ record { shape = joined Parallel (resistor 3) (single 4 Res true); from = 2; to = 3 } ∷ []
  -- rooted at each element the chain has the greater depth 3, but 2 at the third
  pub chain_depths : (rooted_depth chain_shape 0 0 ≡ 3) × (rooted_depth chain_shape 0 1 ≡ 3) × (rooted_depth chain_shape 0 2 ≡ 3) × (rooted_depth chain_shape 0 3 ≡ 2) × (rooted_depth chain_shape 0 4 ≡ 3)
  pub chain_root : shallowest chain_shape 0 5 ≡ 3
  -- of five in a chain the third and the fourth are the best roots, and the third comes first
  pub longer_chain_depths : (rooted_depth longer_chain_shape 0 0 ≡ 4) × (rooted_depth longer_chain_shape 0 3 ≡ 3) × (rooted_depth longer_chain_shape 0 4 ≡ 3)
  pub longer_chain_root : shallowest longer_chain_shape 0 6 ≡ 3
  pub chain_halves : rerooted chain_shape 0 3
      ≡ record { left = resistor 3; right = joined Series (joined Series (single 2 Res true) (single 1 Res true)) (joined Series (single 0 Src false) (single 4 Res true)) }
  -- a source and two in parallel, rooted at the first of these
  pub pair_halves : rerooted (joined Parallel (single 1 Cap false) (resistor 2)) 0 1 ≡ record { left = single 1 Cap false; right = joined Parallel (single 0 Src false) (resistor 2) }
  -- of several roots the source, where it is among the best
  pub pair_root : shallowest (joined Parallel (single 1 Cap false) (resistor 2)) 0 3 ≡ 0
