-- A quantised network keeps the rules of a network: its multipliers are in range, its leaves are those of the ports.
use Rattle.std.proofs.Common.{◌≡◌, ℕ, ◌+◌, ◌-◌, ◌*◌, ◌^◌, ◌<◌, ◌≤◌, max, min, Bool, true, false, if◌then◌else◌, List, [], ◌∷◌, ◌++◌, length, map, refl, sym, subst, arith}
use Rattle.std.specs.Prelude.{All, IsTrue}
use Rattle.std.proofs.Math.Nat.{pow-le-pow_right}
use Rattle.std.proofs.lemmas.List.{map-append}
use Rattle.std.proofs.lemmas.List.Elements.{All-nil, All-cons, All-same, All-head, All-tail}
use Rattle.wdf_law.specs.declared.TheConstants.{MAX_SOURCES}
use Rattle.wdf_law.specs.declared.outlet.Outlet.{Outlet}
use Rattle.wdf_law.specs.Trees.{AdaptorTree, LeafElement, elements_of, depth_of}
use Rattle.wdf_law.specs.Outline.{outline_elements, outline_depth}
use Rattle.wdf_law.specs.PortOutline.{PortOutline, leaf_port, series_port, parallel_port, ratio_of, shape_outline, IsRatio, HaveRatios}
use Rattle.wdf_law.specs.Network.{IsNetwork, Adaptor, adaptors_of, multipliers_of, times_in, numbers_with, has_source, has_outlet}
use Rattle.wdf_frac.specs.Units.{nearest}
use Rattle.wdf_quant.specs.Multiplier.{multiplier}
use Rattle.wdf_quant.specs.QuantisedNetwork.{quantised, quantised_network, AreNetworkElements}

pub own_ratio : (p : PortOutline) → HaveRatios p → IsRatio (ratio_of p)
own_ratio (leaf_port elem k flip ratio) h = h
own_ratio (series_port ratio l r) h = h.0
own_ratio (parallel_port ratio l r) h = h.0

-- ---- leaves and depth

elements-quantised : (q : ℕ) (p : PortOutline) → elements_of (quantised q p) ≡ outline_elements (shape_outline p)
elements-quantised q (leaf_port elem k flip ratio) = refl
elements-quantised q (series_port ratio l r) = λ j. elements-quantised q l j ++ elements-quantised q r j
elements-quantised q (parallel_port ratio l r) = λ j. elements-quantised q l j ++ elements-quantised q r j

depth-quantised : (q : ℕ) (p : PortOutline) → depth_of (quantised q p) ≡ outline_depth (shape_outline p)
depth-quantised q (leaf_port elem k flip ratio) = refl
depth-quantised q (series_port ratio l r) = λ j. 1 + max (depth-quantised q l j) (depth-quantised q r j)
depth-quantised q (parallel_port ratio l r) = λ j. 1 + max (depth-quantised q l j) (depth-quantised q r j)

-- ---- multipliers

abbrev InRange : ℕ → ℕ → Type 0
InRange q m = (1 ≤ m) × (m < q)

limited : (q x : ℕ) → 2 ≤ q → InRange q (max 1 (min (q - 1) x))
limited q x two = (omega arith, omega arith)

in_range : (q : ℕ) (is_series : Bool) (r1 r2 : ℕ) → 2 ≤ q → InRange q (multiplier q is_series r1 r2)
in_range q is_series r1 r2 two = limited q (nearest (q * (if is_series then r1 else r2)) (r1 + r2)) two

All-both : (q : ℕ) (xs ys : List ℕ) → All (InRange q) xs → All (InRange q) ys → All (InRange q) (xs ++ ys)
All-both q [] ys first second = second
All-both q (x ∷ xs) ys first second = All-cons (InRange q) x (xs ++ ys) (All-head (InRange q) x xs first) (All-both q xs ys (All-tail (InRange q) x xs first) second)

-- those of an adaptor and of its two parts
joined-range : (q m : ℕ) (l r : AdaptorTree) → InRange q m → All (InRange q) (multipliers_of l) → All (InRange q) (multipliers_of r)
    → All (InRange q) (m ∷ map (λ (a : Adaptor). a.multiplier) (adaptors_of l ++ adaptors_of r))
joined-range q m l r here first second =
    let both = All-both q (multipliers_of l) (multipliers_of r) first second in
    All-cons (InRange q) m (map (λ (a : Adaptor). a.multiplier) (adaptors_of l ++ adaptors_of r)) here
    (All-same (InRange q) _ _ (map-append (λ (a : Adaptor). a.multiplier) (adaptors_of l) (adaptors_of r)) both)

multipliers-quantised : (q : ℕ) (p : PortOutline) → 2 ≤ q → All (InRange q) (multipliers_of (quantised q p))
multipliers-quantised q (leaf_port elem k flip ratio) two = All-nil (InRange q)
multipliers-quantised q (series_port ratio l r) two =
    joined-range q (multiplier q true (ratio_of l) (ratio_of r)) (quantised q l) (quantised q r) (in_range q true (ratio_of l) (ratio_of r) two)
    (multipliers-quantised q l two) (multipliers-quantised q r two)
multipliers-quantised q (parallel_port ratio l r) two =
    joined-range q (multiplier q false (ratio_of l) (ratio_of r)) (quantised q l) (quantised q r) (in_range q false (ratio_of l) (ratio_of r) two)
    (multipliers-quantised q l two) (multipliers-quantised q r two)

-- ---- the network

pub network-rules : (k : ℕ) (l r : PortOutline) (outlet : Outlet) → 1 ≤ k → k ≤ 20
    → AreNetworkElements (outline_elements (shape_outline l) ++ outline_elements (shape_outline r)) outlet
    → outline_depth (shape_outline l) ≤ 128 → outline_depth (shape_outline r) ≤ 128 → IsNetwork (quantised_network k l r outlet)
network-rules k l r outlet some few leaves left_depth right_depth =
    let q = 2 ^ k in
    let two : 2 ^ 1 ≤ 2 ^ k = pow-le-pow_right (omega arith) some in
    let same : outline_elements (shape_outline l) ++ outline_elements (shape_outline r) ≡ elements_of (quantised q l) ++ elements_of (quantised q r) =
    λ j. sym (elements-quantised q l) j ++ sym (elements-quantised q r) j in
    record {
      width = (some, few);
      multipliers = joined-range q (multiplier q false (ratio_of l) (ratio_of r)) (quantised q l) (quantised q r) (in_range q false (ratio_of l) (ratio_of r) two)
          (multipliers-quantised q l two) (multipliers-quantised q r two);
      fewest = subst (λ (xs : List LeafElement). 2 ≤ length xs) same leaves.fewest;
      most = subst (λ (xs : List LeafElement). length xs ≤ 128) same leaves.most;
      below = subst (λ (xs : List LeafElement). All (λ (i : ℕ). i < length xs) (map (λ (x : LeafElement). x.number) xs)) same leaves.below;
      once = subst (λ (xs : List LeafElement). (i : ℕ) → i < length xs → times_in (map (λ (x : LeafElement). x.number) xs) i ≡ 1) same leaves.once;
      some_source = subst (λ (xs : List LeafElement). 1 ≤ length (numbers_with has_source xs)) same leaves.some_source;
      few_sources = subst (λ (xs : List LeafElement). length (numbers_with has_source xs) ≤ MAX_SOURCES) same leaves.few_sources;
      outlet = subst (λ (xs : List LeafElement). IsTrue (has_outlet xs outlet)) same leaves.outlet_there;
      left_depth = subst (λ (d : ℕ). d ≤ 128) (sym (depth-quantised q l)) left_depth;
      right_depth = subst (λ (d : ℕ). d ≤ 128) (sym (depth-quantised q r)) right_depth;
    }
