-- The energies of trees and networks are sums over the elements of a kind, by the elements' numbers.
use Rattle.std.proofs.Common.{◌≡◌, ℕ, ◌+◌, ◌*◌, Bool, true, false, if◌then◌else◌, ◌++◌, refl, ap, sym, ◌∙◌, arith}
use Rattle.std.proofs.lemmas.Bool.{eq-eqb}
use lib.IntN.{ℤ, pos}
use Rattle.wdf_algebra.specs.Squares.{square}
use Rattle.wdf_law.specs.declared.kind.Kind.{Kind}
use Rattle.wdf_law.specs.Trees.{AdaptorTree, leaf, series, parallel, elements_of}
use Rattle.wdf_law.specs.Network.{Network, IsNetwork, unit_of, elements, has_leaf}
use Rattle.wdf_law.specs.Conductance.{conductance, series_first, series_second, parallel_first, parallel_second, left_factor, right_factor}
use Rattle.wdf_law.specs.Step.{Waves, ends, forks, Follows, Frame, IsStep, sent, sent_in}
use Rattle.wdf_law.specs.Energy.{energy_in, sent_energy_in}
use Rattle.wdf_law.specs.TreeRules.{AreDisjoint, HasDistinctLeaves}
use Rattle.wdf_law.specs.Ports.{leaf_conductance, conductance_at}
use Rattle.wdf_law.proofs.NumberLemmas.{kind_among, disjoint_trees, distinct_left, distinct_right}
use Rattle.wdf_law.proofs.SumLemmas.{over, over-append, over-same}

-- ---- two trees

-- g·z² at the port of an element of a tree
abbrev weighed : ℕ → ℕ → AdaptorTree → (ℕ → ℤ) → ℕ → ℕ
weighed q f t z i = leaf_conductance q i f t * square (z i)

-- and of two trees
abbrev weighed_among : ℕ → ℕ → ℕ → AdaptorTree → AdaptorTree → (ℕ → ℤ) → (ℕ → ℤ) → ℕ → ℕ
weighed_among q f1 f2 l r z1 z2 i =
    (if has_leaf l i then leaf_conductance q i f1 l else leaf_conductance q i f2 r) * square (if has_leaf l i then z1 i else z2 i)

-- one sum over two trees is the sum of theirs
sums_among : (is : Kind → Bool) (q f1 f2 : ℕ) (l r : AdaptorTree) (z1 z2 : ℕ → ℤ) → AreDisjoint l r
    → over is (weighed_among q f1 f2 l r z1 z2) (elements_of l ++ elements_of r) ≡ over is (weighed q f1 l z1) (elements_of l) + over is (weighed q f2 r z2) (elements_of r)
sums_among is q f1 f2 l r z1 z2 disjoint =
    let all = weighed_among q f1 f2 l r z1 z2 in
    let first = over-same is all (weighed q f1 l z1) (elements_of l) (λ i h. by i (kind_among is (elements_of l) i h)) in
    let second = over-same is all (weighed q f2 r z2) (elements_of r) (λ i h. by i (disjoint i (kind_among is (elements_of r) i h))) in
    over-append is all (elements_of l) (elements_of r) ∙ (λ j. first j + second j)
  where
    by : {b : Bool} (i : ℕ) → has_leaf l i ≡ b
        → weighed_among q f1 f2 l r z1 z2 i ≡ (if b then leaf_conductance q i f1 l else leaf_conductance q i f2 r) * square (if b then z1 i else z2 i)
    by i h = ap (λ (b : Bool). (if b then leaf_conductance q i f1 l else leaf_conductance q i f2 r) * square (if b then z1 i else z2 i)) h

-- the same value on both sides
same_among : (is : Kind → Bool) (q f1 f2 : ℕ) (l r : AdaptorTree) (z : ℕ → ℤ) → AreDisjoint l r
    → over is (λ (i : ℕ). (if has_leaf l i then leaf_conductance q i f1 l else leaf_conductance q i f2 r) * square (z i)) (elements_of l ++ elements_of r)
    ≡ over is (weighed q f1 l z) (elements_of l) + over is (weighed q f2 r z) (elements_of r)
same_among is q f1 f2 l r z disjoint =
    over-same is _ (weighed_among q f1 f2 l r z z) (elements_of l ++ elements_of r) (λ i h. one i (has_leaf l i)) ∙ sums_among is q f1 f2 l r z z disjoint
  where
    one : (i : ℕ) (b : Bool) → (if has_leaf l i then leaf_conductance q i f1 l else leaf_conductance q i f2 r) * square (z i)
        ≡ (if has_leaf l i then leaf_conductance q i f1 l else leaf_conductance q i f2 r) * square (if b then z i else z i)
    one i true = refl
    one i false = refl

-- ---- a tree

energy-over : (is : Kind → Bool) (q f : ℕ) (z : ℕ → ℤ) (t : AdaptorTree) → HasDistinctLeaves t → energy_in is q z f t ≡ over is (weighed q f t z) (elements_of t)
energy-over is q f z (leaf i k flip) once =
    let here = ap (λ (b : Bool). if is k then (if b then conductance q f (leaf i k flip) else 0) * square (z i) else 0) (eq-eqb i i refl) in omega arith
energy-over is q f z (series m l r) once =
    (λ j. energy-over is q (series_first q f m r) z l once.1 j + energy-over is q (series_second q f m l) z r once.2 j)
    ∙ sym (same_among is q (series_first q f m r) (series_second q f m l) l r z once.0)
energy-over is q f z (parallel m l r) once =
    (λ j. energy-over is q (parallel_first q f m r) z l once.1 j + energy-over is q (parallel_second q f m l) z r once.2 j)
    ∙ sym (same_among is q (parallel_first q f m r) (parallel_second q f m l) l r z once.0)

sent_energy-over : (is : Kind → Bool) (q f : ℕ) (x e : ℕ → ℤ) (t : AdaptorTree) (w : Waves) → HasDistinctLeaves t → Follows q x e f t w
    → sent_energy_in is q f t w ≡ over is (weighed q f t (sent t w)) (elements_of t)
sent_energy-over is q f x e (leaf i k flip) (ends u d) once h =
    let here = ap (λ (b : Bool). if is k then (if b then conductance q f (leaf i k flip) else 0) * square (if b then d else pos 0) else 0) (eq-eqb i i refl) in omega arith
sent_energy-over is q f x e (leaf i k flip) (forks u d b1 b2 b wl wr) once h = absurd h
sent_energy-over is q f x e (series m l r) (ends u d) once h = absurd h
sent_energy-over is q f x e (series m l r) (forks u d b1 b2 b wl wr) once h =
    (λ j. sent_energy-over is q (series_first q f m r) x e l wl once.1 h.2 j + sent_energy-over is q (series_second q f m l) x e r wr once.2 h.3 j)
    ∙ sym (sums_among is q (series_first q f m r) (series_second q f m l) l r (sent l wl) (sent r wr) once.0)
sent_energy-over is q f x e (parallel m l r) (ends u d) once h = absurd h
sent_energy-over is q f x e (parallel m l r) (forks u d b1 b2 b wl wr) once h =
    (λ j. sent_energy-over is q (parallel_first q f m r) x e l wl once.1 h.2 j + sent_energy-over is q (parallel_second q f m l) x e r wr once.2 h.3 j)
    ∙ sym (sums_among is q (parallel_first q f m r) (parallel_second q f m l) l r (sent l wl) (sent r wr) once.0)

-- ---- a network

pub energy_over : (n : Network) → IsNetwork n → (is : Kind → Bool) (z : ℕ → ℤ)
    → energy_in is (unit_of n) z (left_factor n) n.left + energy_in is (unit_of n) z (right_factor n) n.right
    ≡ over is (λ (i : ℕ). conductance_at n i * square (z i)) (elements n)
energy_over n rules is z =
    (λ j. energy-over is (unit_of n) (left_factor n) z n.left (distinct_left n rules) j + energy-over is (unit_of n) (right_factor n) z n.right (distinct_right n rules) j)
    ∙ sym (same_among is (unit_of n) (left_factor n) (right_factor n) n.left n.right z (disjoint_trees n rules))

pub sent_energy_over : (n : Network) → IsNetwork n → (is : Kind → Bool) (x e : ℕ → ℤ) (s : Frame) → IsStep n x e s
    → sent_energy_in is (unit_of n) (left_factor n) n.left s.left + sent_energy_in is (unit_of n) (right_factor n) n.right s.right
    ≡ over is (λ (i : ℕ). conductance_at n i * square (sent_in n s i)) (elements n)
sent_energy_over n rules is x e s step =
    (λ j. sent_energy-over is (unit_of n) (left_factor n) x e n.left s.left (distinct_left n rules) step.left j
    + sent_energy-over is (unit_of n) (right_factor n) x e n.right s.right (distinct_right n rules) step.right j)
    ∙ sym (sums_among is (unit_of n) (left_factor n) (right_factor n) n.left n.right (sent n.left s.left) (sent n.right s.right) (disjoint_trees n rules))
