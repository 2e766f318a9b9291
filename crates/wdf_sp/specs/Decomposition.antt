-- What the decomposition of a circuit answers, and what it promises of a shape.
use Rattle.std.specs.Prelude.{◌≡◌, ◌<◌, ℕ, List, None, Some, Result, Ok, Err, Vec}
use Rattle.std.specs.declared.alloc.Global.{Global}
use Rattle.wdf_law.specs.Outline.{outline}
use Rattle.wdf_law.specs.Spans.{Branch}
use Rattle.wdf_law.specs.declared.shape.Shape.{Shape}
use Rattle.wdf_sp.specs.declared.edge.Edge.{Edge}
use Rattle.wdf_sp.specs.declared.sp_fault.SpFault.{SpFault}
use Rattle.wdf_sp.specs.declared.sp_fault.SpFault.TheVariants.{Core, NoMemory}
use Rattle.wdf_sp.specs.Edges.{arcs}
use Rattle.wdf_sp.specs.Reduction.{Arc, accepted, branch_at, naming_element, reduction, shape_in}

-- the shape of the edge that the reduction leaves, or the core where it ends with the element that names it
abbrev pub Decomposes : List Branch → ℕ → Result Shape SpFault → Type 0
Decomposes bs source (Ok shape) = shape_in bs source ≡ Some (outline shape)
Decomposes bs source (Err (Core element core)) =
    (shape_in bs source ≡ None) × (core ≡ reduction bs source)
    × (element ≡ naming_element (branch_at bs source).from (branch_at bs source).to (reduction bs source))
Decomposes bs source (Err NoMemory) = Unit {0}

-- a core is named by an element with a number below the count
abbrev pub NamesBelow : {A : Type 0} → ℕ → Result A SpFault → Type 0
NamesBelow count (Ok _) = Unit {0}
NamesBelow count (Err (Core element _)) = element < count
NamesBelow count (Err NoMemory) = Unit {0}

-- the one edge of the list between p and q as a shape, or the list where it is none
abbrev pub Accepts : ℕ → ℕ → List Arc → Result Shape (Vec Edge Global) → Type 0
Accepts p q es (Ok shape) = accepted p q es ≡ Some (outline shape)
Accepts p q es (Err edges) = (accepted p q es ≡ None) × (arcs edges.items ≡ es)
