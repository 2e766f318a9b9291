-- What a shape and two rooted trees are of a circuit, which is the list of its elements; an element's number is
-- its place.
use Rattle.std.specs.Prelude.{◌≡◌, ◌≢◌, ℕ, ◌+◌, ◌<◌, false, List, ◌++◌, length, map, Some, slice_get, All}
use Rattle.wdf_law.specs.declared.kind.Kind.TheVariants.{Src}
use Rattle.wdf_law.specs.Network.{times_in}
use Rattle.wdf_law.specs.Outline.{Outline, single, joined, outline_elements, times}
use Rattle.wdf_law.specs.Spans.{Branch, Spans, AreApart}
use Rattle.wdf_law.specs.Trees.{LeafElement}

-- no element joins a node to itself, and the source is a source
pub record IsDriven (bs : List Branch) (source : ℕ) : Type 0 where
  pub source_at : (b : Branch) × (slice_get bs source ≡ Some b) × (b.kind ≡ Src)
  pub ends : (i : ℕ) (b : Branch) → slice_get bs i ≡ Some b → b.from ≢ b.to

-- the outline spans the elements without the source, from the source's first node p to its second node q
pub record IsShapeOf (bs : List Branch) (source : ℕ) (t : Outline) (p q : ℕ) : Type 0 where
  pub ends : p ≢ q
  pub source_at : Spans (slice_get bs) (single source Src false) p q
  pub spans : Spans (slice_get bs) t p q
  pub source_apart : times t source ≡ 0
  pub others : (i : ℕ) → i < length bs → i ≢ source → 0 < times t i

abbrev pub SpansCircuit : List Branch → ℕ → Outline → Type 0
SpansCircuit bs source t = (p : ℕ) × (q : ℕ) × IsShapeOf bs source t p q

-- both outlines span from p to q, and together they hold every element once
pub record Meet (bs : List Branch) (l r : Outline) (p q : ℕ) : Type 0 where
  pub ends : p ≢ q
  pub left : Spans (slice_get bs) l p q
  pub right : Spans (slice_get bs) r p q
  pub apart : AreApart l r
  pub all : (i : ℕ) → i < length bs → 0 < times l i + times r i

-- the two trees at a root: the left and the right
pub record Halves : Type 0 where
  pub left : Outline
  pub right : Outline

-- both span from one node to another, and together they hold every element once
abbrev pub Meets : List Branch → Halves → Type 0
Meets bs h = (p : ℕ) × (q : ℕ) × Meet bs h.left h.right p q

-- the leaf has the number and the kind of an element of the circuit
pub record IsElementOf (bs : List Branch) (x : LeafElement) : Type 0 where
  pub branch : Branch
  pub at : slice_get bs x.number ≡ Some branch
  pub kind : branch.kind ≡ x.kind

-- the leaves of both trees, the left before the right
abbrev pub leaves_of : Halves → List LeafElement
leaves_of h = outline_elements h.left ++ outline_elements h.right

-- they are the elements of the circuit, each once
pub record HasElements (bs : List Branch) (h : Halves) : Type 0 where
  pub elements : All (IsElementOf bs) (leaves_of h)
  pub once : (i : ℕ) → i < length bs → times_in (map (λ (x : LeafElement). x.number) (leaves_of h)) i ≡ 1

-- no leaf with the number i is flipped
abbrev pub IsUnflipped : ℕ → Outline → Type 0
IsUnflipped i (single elem _ flip) = elem ≡ i → flip ≡ false
IsUnflipped i (joined _ l r) = IsUnflipped i l × IsUnflipped i r
