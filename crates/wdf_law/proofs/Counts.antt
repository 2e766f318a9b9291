-- How many leaves and multipliers a network has, how large its multiplier is at the root, and which element its outlet
-- names.
use Rattle.std.proofs.Common.{◌<◌, ◌^◌, map, ◌≡◌, ◌+◌, ◌++◌, ◌-◌, ◌↔◌, zero, suc, length, length-append, List, [], ◌∷◌, None, Some, refl, arith}
use Rattle.std.specs.List.{slice_get}
use Rattle.std.proofs.lemmas.List.{length-map}
use Rattle.std.proofs.Common.{ℕ, ◌≤◌}
use Rattle.std.proofs.lemmas.List.Elements.{All-head}
use Rattle.wdf_law.specs.Trees.{AdaptorTree, leaf, series, parallel, elements_of}
use Rattle.wdf_law.specs.declared.outlet.Outlet.TheVariants.{Source}
use Rattle.wdf_law.specs.Network.{Network, IsNetwork, Adaptor, unit_of, elements, adaptors_of, adaptors, multipliers}
use Rattle.wdf_law.specs.OutputRule.{outlet_among}

pub counts_of : (l r : AdaptorTree) → length (elements_of l ++ elements_of r) ≡ length (elements_of l) + length (elements_of r)
counts_of l r = length-append (elements_of l) (elements_of r)

-- the root's multiplier is in its range
pub root_range : (n : Network) → IsNetwork n → (1 ≤ n.m) × (n.m < 2 ^ n.k)
root_range n rules = All-head (λ (m : ℕ). (1 ≤ m) × (m < unit_of n)) n.m (map (λ (a : Adaptor). a.multiplier) (adaptors_of n.left ++ adaptors_of n.right)) rules.multipliers

-- the outlet Source is the first of the sources
pub outlet_source : (xs : List ℕ) (i : ℕ) → slice_get xs 0 ≡ Some i → outlet_among Source xs ≡ i
outlet_source [] i h = absurd (cc)
outlet_source (x ∷ xs) i h = cc

-- two trees have two adaptors fewer than elements
both_counts : (l r : AdaptorTree) → length (adaptors_of l) + 1 ≡ length (elements_of l) → length (adaptors_of r) + 1 ≡ length (elements_of r)
    → length (adaptors_of l ++ adaptors_of r) + 1 + 1 ≡ length (elements_of l ++ elements_of r)
both_counts l r h k =
    let first = length-append (adaptors_of l) (adaptors_of r) in
    let second = length-append (elements_of l) (elements_of r) in
    omega arith

-- a tree has one adaptor fewer than elements
adaptor_count : (t : AdaptorTree) → length (adaptors_of t) + 1 ≡ length (elements_of t)
adaptor_count (leaf i k flip) = refl
adaptor_count (series m l r) = let both = both_counts l r (adaptor_count l) (adaptor_count r) in omega arith
adaptor_count (parallel m l r) = let both = both_counts l r (adaptor_count l) (adaptor_count r) in omega arith

pub multiplier_count : (n : Network) → length (multipliers n) + 1 ≡ length (elements n)
multiplier_count n =
    let mapped = length-map (adaptors n) (λ (a : Adaptor). a.multiplier) in
    let both = both_counts n.left n.right (adaptor_count n.left) (adaptor_count n.right) in
    omega arith

-- so there is none at that place or behind it
pub multiplier_none : (n : Network) (i : ℕ) → (slice_get (multipliers n) i ≡ None) ↔ (length (elements n) - 1 ≤ i)
multiplier_none n i =
    let count = multiplier_count n in
    ((λ none. let h : length (multipliers n) ≤ i = behind (multipliers n) i none in omega arith), (λ most. past (multipliers n) i (omega arith)))
  where
    behind : (xs : List ℕ) (i : ℕ) → slice_get xs i ≡ None → length xs ≤ i
    behind [] i h = omega arith
    behind (x ∷ xs) zero h = absurd (cc)
    behind (x ∷ xs) (suc i) h = let rest = behind xs i h in omega arith

    past : (xs : List ℕ) (i : ℕ) → length xs ≤ i → slice_get xs i ≡ None
    past [] i h = refl
    past (x ∷ xs) zero h = absurd (omega arith)
    past (x ∷ xs) (suc i) h = past xs i (omega arith)
