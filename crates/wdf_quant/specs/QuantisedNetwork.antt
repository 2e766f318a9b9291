-- The quantised network of two trees of ports: adaptors in their shape, whose multipliers are those of the ratios.
use Rattle.std.specs.Prelude.{◌≡◌, ℕ, ◌<◌, ◌≤◌, ◌^◌, true, false, List, length, map, IsTrue, All}
use Rattle.wdf_law.specs.declared.TheConstants.{MAX_SOURCES}
use Rattle.wdf_law.specs.declared.outlet.Outlet.{Outlet}
use Rattle.wdf_law.specs.Trees.{AdaptorTree, leaf, series, parallel, LeafElement}
use Rattle.wdf_law.specs.PortOutline.{PortOutline, leaf_port, series_port, parallel_port, ratio_of}
use Rattle.wdf_law.specs.Network.{Network, times_in, numbers_with, has_source, has_outlet}
use Rattle.wdf_quant.specs.Multiplier.{multiplier}

abbrev pub quantised : ℕ → PortOutline → AdaptorTree
quantised q (leaf_port elem kind flip ratio) = leaf elem kind flip
quantised q (series_port ratio l r) = series (multiplier q true (ratio_of l) (ratio_of r)) (quantised q l) (quantised q r)
quantised q (parallel_port ratio l r) = parallel (multiplier q false (ratio_of l) (ratio_of r)) (quantised q l) (quantised q r)

abbrev pub quantised_network : ℕ → PortOutline → PortOutline → Outlet → Network
quantised_network k left right outlet = record {
  k = k;
  m = multiplier (2 ^ k) false (ratio_of left) (ratio_of right);
  left = quantised (2 ^ k) left;
  right = quantised (2 ^ k) right;
  outlet = outlet;
}

-- leaves that a network may have: 2 to 128 of them with the numbers below their count, each once, among them 1 to 8
-- sources, and the resistor that the outlet names
pub record AreNetworkElements (xs : List LeafElement) (outlet : Outlet) : Type 0 where
  pub fewest : 2 ≤ length xs
  pub most : length xs ≤ 128
  pub below : All (λ (i : ℕ). i < length xs) (map (λ (x : LeafElement). x.number) xs)
  pub once : (i : ℕ) → i < length xs → times_in (map (λ (x : LeafElement). x.number) xs) i ≡ 1
  pub some_source : 1 ≤ length (numbers_with has_source xs)
  pub few_sources : length (numbers_with has_source xs) ≤ MAX_SOURCES
  pub outlet_there : IsTrue (has_outlet xs outlet)
