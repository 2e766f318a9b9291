-- Shapes as clauses see them: without their boxes, and with one constructor for a junction.
use Rattle.std.specs.Prelude.{ℕ, ◌+◌, ◌==◌, if◌then◌else◌, Bool, ◌||◌, max, List, [], ◌∷◌, ◌++◌}
use Rattle.wdf_law.specs.declared.connection.Connection.{Connection}
use Rattle.wdf_law.specs.declared.connection.Connection.TheVariants.{Series, Parallel}
use Rattle.wdf_law.specs.declared.kind.Kind.{Kind}
use Rattle.wdf_law.specs.declared.shape.Shape.{Shape, Leaf, Ser', Par'}
use Rattle.wdf_law.specs.Trees.{LeafElement}

pub data Outline : Type 0 where
  single : (elem : ℕ) (kind : Kind) (flip : Bool) → Outline
  joined : (connection : Connection) (l r : Outline) → Outline

abbrev pub outline : Shape → Outline
outline (Leaf elem kind flip) = single elem kind flip
outline (Ser' p l q r) = joined Series (outline l) (outline r)
outline (Par' p l q r) = joined Parallel (outline l) (outline r)

-- 0 for a leaf, and one more than the deeper part
abbrev pub outline_depth : Outline → ℕ
outline_depth (single _ _ _) = 0
outline_depth (joined c l r) = 1 + max (outline_depth l) (outline_depth r)

-- the elements, the first part before the second
abbrev pub outline_elements : Outline → List LeafElement
outline_elements (single elem kind flip) = record { number = elem; kind = kind; flip = flip } ∷ []
outline_elements (joined c l r) = outline_elements l ++ outline_elements r

-- the first leaf's number
abbrev pub outline_first : Outline → ℕ
outline_first (single elem _ _) = elem
outline_first (joined c l r) = outline_first l

-- how many leaves have the number i
abbrev pub times : Outline → ℕ → ℕ
times (single elem _ _) i = if elem == i then 1 else 0
times (joined c l r) i = times l i + times r i

-- a leaf has the number i
abbrev pub has_number : Outline → ℕ → Bool
has_number (single elem _ _) i = elem == i
has_number (joined c l r) i = has_number l i || has_number r i
