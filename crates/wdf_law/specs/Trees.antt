-- Trees of adaptors as clauses see them: without their boxes.
use Rattle.std.specs.Prelude.{ℕ, ◌+◌, Bool, max, List, [], ◌∷◌, ◌++◌}
use Rattle.wdf_law.specs.declared.kind.Kind.{Kind}
use Rattle.wdf_law.specs.declared.tree.Tree.{Tree, Leaf, Series', Parallel'}

pub data AdaptorTree : Type 0 where
  leaf : (elem : ℕ) (kind : Kind) (flip : Bool) → AdaptorTree
  series : (m : ℕ) (l r : AdaptorTree) → AdaptorTree
  parallel : (m : ℕ) (l r : AdaptorTree) → AdaptorTree

abbrev pub adaptor_tree : Tree → AdaptorTree
adaptor_tree (Leaf elem kind flip) = leaf elem kind flip
adaptor_tree (Series' m p l q r) = series m (adaptor_tree l) (adaptor_tree r)
adaptor_tree (Parallel' m p l q r) = parallel m (adaptor_tree l) (adaptor_tree r)

-- an element as its leaf has it
pub record LeafElement : Type 0 where
  pub number : ℕ
  pub kind : Kind
  pub flip : Bool

-- the elements, the first part before the second
abbrev pub elements_of : AdaptorTree → List LeafElement
elements_of (leaf elem kind flip) = record { number = elem; kind = kind; flip = flip } ∷ []
elements_of (series m l r) = elements_of l ++ elements_of r
elements_of (parallel m l r) = elements_of l ++ elements_of r

-- the first leaf's number
abbrev pub first_of : AdaptorTree → ℕ
first_of (leaf elem _ _) = elem
first_of (series m l r) = first_of l
first_of (parallel m l r) = first_of l

-- 0 for a leaf, and one more than the deeper part
abbrev pub depth_of : AdaptorTree → ℕ
depth_of (leaf _ _ _) = 0
depth_of (series m l r) = 1 + max (depth_of l) (depth_of r)
depth_of (parallel m l r) = 1 + max (depth_of l) (depth_of r)
