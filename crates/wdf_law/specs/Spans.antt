-- A series-parallel network between two nodes of a circuit, by the usual recursion: an element that is written
-- between them; two networks one behind the other, joined at an inner node that no other element touches; two
-- networks side by side. No element is in two parts.
use Rattle.std.specs.Prelude.{◌≡◌, ◌≢◌, ℕ, ◌+◌, ◌<◌, ◌≤◌, Bool, true, false, ◌⊎◌, Option, Some}
use Rattle.wdf_law.specs.declared.connection.Connection.TheVariants.{Series, Parallel}
use Rattle.wdf_law.specs.declared.kind.Kind.{Kind}
use Rattle.wdf_law.specs.Outline.{Outline, single, joined, times}
use Rattle.wdf_law.specs.Trees.{AdaptorTree, leaf, series, parallel}

-- an element as a circuit has it, written from one node to another
pub record Branch : Type 0 where
  pub kind : Kind
  pub from : ℕ
  pub to : ℕ

-- the element that stands from p to q, and so is written from q to p where it is flipped
abbrev pub placed : Kind → Bool → ℕ → ℕ → Branch
placed kind false p q = record { kind = kind; from = p; to = q }
placed kind true p q = record { kind = kind; from = q; to = p }

-- one of the element's ends is the node x
abbrev pub Touches : Branch → ℕ → Type 0
Touches b x = (b.from ≡ x) ⊎ (b.to ≡ x)

-- no number is that of two leaves
abbrev pub AreApart : Outline → Outline → Type 0
AreApart l r = (i : ℕ) → times l i + times r i ≤ 1

-- the node s is no end of a network from p to q, and every element of the circuit that touches it is in l or r
pub record IsInner (circuit : ℕ → Option Branch) (l r : Outline) (p q s : ℕ) : Type 0 where
  pub not_first : s ≢ p
  pub not_last : s ≢ q
  pub alone : (i : ℕ) (b : Branch) → circuit i ≡ Some b → Touches b s → 0 < times l i + times r i

-- the outline stands from the node p to the node q, over the elements that its leaves have the numbers of
abbrev pub Spans : (ℕ → Option Branch) → Outline → ℕ → ℕ → Type 0
Spans circuit (single elem kind flip) p q = circuit elem ≡ Some (placed kind flip p q)
Spans circuit (joined Series l r) p q = (s : ℕ) × Spans circuit l p s × Spans circuit r s q × AreApart l r × IsInner circuit l r p q s
Spans circuit (joined Parallel l r) p q = Spans circuit l p q × Spans circuit r p q × AreApart l r

-- the outline of a tree of adaptors, which spans where its outline does
abbrev pub outline_of : AdaptorTree → Outline
outline_of (leaf elem kind flip) = single elem kind flip
outline_of (series m l r) = joined Series (outline_of l) (outline_of r)
outline_of (parallel m l r) = joined Parallel (outline_of l) (outline_of r)
