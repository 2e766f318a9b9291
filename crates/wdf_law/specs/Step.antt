-- The reference step: waves at every port of a network and outgoing values at every junction that meet
-- Kirchhoff's laws at each junction and the element's law at each leaf. Each value is truncated towards
-- zero as it leaves its junction, and nothing else is lost.
use Rattle.std.specs.Prelude.{◌≡◌, ℕ, ℤ, pos, ◌==◌, if◌then◌else◌, List, map}
use Rattle.wdf_algebra.specs.Truncation.{trunc}
use Rattle.wdf_law.specs.Trees.{AdaptorTree, leaf, series, parallel}
use Rattle.wdf_law.specs.Network.{Network, unit_of, has_leaf, reactances}
use Rattle.wdf_law.specs.Conductance.{conductance, series_first, series_second, parallel_first, parallel_second, left_factor, right_factor}
use Rattle.wdf_law.specs.Junction.{IsParallel, IsSeries, IsRoot, Truncates}
use Rattle.wdf_law.specs.Elements.{ObeysElementLaw}

-- A tree's waves, in its shape: at each port the wave u that the tree reflects and the wave d that it is
-- sent, at each junction the outgoing values b1 and b2 to its parts and b to its own port as well.
pub data Waves : Type 0 where
  ends : (u d : ℤ) → Waves
  forks : (u d b1 b2 b : ℤ) (l r : Waves) → Waves

abbrev pub up_wave : Waves → ℤ
up_wave (ends u d) = u
up_wave (forks u d b1 b2 b l r) = u

abbrev pub down_wave : Waves → ℤ
down_wave (ends u d) = d
down_wave (forks u d b1 b2 b l r) = d

-- The waves meet every law of a tree with the factor f, where the element i has the state x i and, as a
-- source, the value e i.
abbrev pub Follows : ℕ → (ℕ → ℤ) → (ℕ → ℤ) → ℕ → AdaptorTree → Waves → Type 0
Follows q x e f (leaf i k flip) (ends u d) = ObeysElementLaw k flip (x i) (e i) u d
Follows q x e f (leaf i k flip) (forks u d b1 b2 b wl wr) = ⊥
Follows q x e f (series m l r) (ends u d) = ⊥
Follows q x e f (series m l r) (forks u d b1 b2 b wl wr) =
    IsSeries q (conductance q (series_first q f m r) l) (conductance q (series_second q f m l) r) (conductance q f (series m l r)) (up_wave wl) (up_wave wr) d b1 b2 b
    × Truncates q u (down_wave wl) (down_wave wr) b1 b2 b
    × Follows q x e (series_first q f m r) l wl
    × Follows q x e (series_second q f m l) r wr
Follows q x e f (parallel m l r) (ends u d) = ⊥
Follows q x e f (parallel m l r) (forks u d b1 b2 b wl wr) =
    IsParallel q (conductance q (parallel_first q f m r) l) (conductance q (parallel_second q f m l) r) (conductance q f (parallel m l r)) (up_wave wl) (up_wave wr) d b1 b2 b
    × Truncates q u (down_wave wl) (down_wave wr) b1 b2 b
    × Follows q x e (parallel_first q f m r) l wl
    × Follows q x e (parallel_second q f m l) r wr

-- one frame's waves: the outgoing values at the root, and the waves of the two trees
pub record Frame : Type 0 where
  pub b1 : ℤ
  pub b2 : ℤ
  pub left : Waves
  pub right : Waves

-- the step of a network from the states x with the inputs e, both by the element's number
pub record IsStep (n : Network) (x e : ℕ → ℤ) (s : Frame) : Type 0 where
  pub root : IsRoot (unit_of n) (conductance (unit_of n) (left_factor n) n.left) (conductance (unit_of n) (right_factor n) n.right) (up_wave s.left) (up_wave s.right) s.b1 s.b2
  pub to_left : down_wave s.left ≡ trunc s.b1 (unit_of n)
  pub to_right : down_wave s.right ≡ trunc s.b2 (unit_of n)
  pub left : Follows (unit_of n) x e (left_factor n) n.left s.left
  pub right : Follows (unit_of n) x e (right_factor n) n.right s.right

-- what pick takes of the waves up and down of the leaf with this number, 0 where there is none
abbrev pub leaf_wave : (ℤ → ℤ → ℤ) → AdaptorTree → Waves → ℕ → ℤ
leaf_wave pick (leaf j _ _) (ends u d) i = if j == i then pick u d else pos 0
leaf_wave pick (leaf j _ _) (forks u d b1 b2 b wl wr) i = pos 0
leaf_wave pick (series m l r) (ends u d) i = pos 0
leaf_wave pick (series m l r) (forks u d b1 b2 b wl wr) i = if has_leaf l i then leaf_wave pick l wl i else leaf_wave pick r wr i
leaf_wave pick (parallel m l r) (ends u d) i = pos 0
leaf_wave pick (parallel m l r) (forks u d b1 b2 b wl wr) i = if has_leaf l i then leaf_wave pick l wl i else leaf_wave pick r wr i

-- the wave that it is sent
abbrev pub sent : AdaptorTree → Waves → ℕ → ℤ
sent t w i = leaf_wave (λ (u d : ℤ). d) t w i

abbrev pub sent_in : Network → Frame → ℕ → ℤ
sent_in n s i = if has_leaf n.left i then sent n.left s.left i else sent n.right s.right i

-- the state after a step: the down waves of the reactances, in netlist order
abbrev pub after : Network → Frame → List ℤ
after n s = map (sent_in n s) (reactances n)
