-- Walks worked by hand, k = 14 and so q = 16384, against which the definitions of the ports' numbers are checked.
use Rattle.std.specs.Prelude.{◌≡◌, ℕ, true, false, [], ◌∷◌}
use Rattle.wdf_law.specs.declared.kind.Kind.TheVariants.{Res, Cap, Src}
use Rattle.wdf_law.specs.declared.outlet.Outlet.TheVariants.{Load}
use Rattle.wdf_law.specs.Trees.{leaf, series, parallel}
use Rattle.wdf_law.specs.Network.{Network}
use Rattle.wdf_quant.specs.declared.port_ratio.PortRatio.{PortRatio}
use Rattle.wdf_quant.specs.PortBound.{walk}

-- the port of an element, and that of a junction
abbrev pub element_port : ℕ → ℕ → PortRatio
element_port e p = record { elem = e; leaf = true; ratio = p }

abbrev pub junction_port : ℕ → ℕ → PortRatio
junction_port e p = record { elem = e; leaf = false; ratio = p }

-- a source and, in parallel, a capacitor and the load
abbrev pub one_source : Network
one_source = record {
  k = 14;
  m = 5461;
  left = leaf 0 Src false;
  right = parallel 8192 (leaf 1 Cap false) (leaf 2 Res false);
  outlet = Load 2;
}

-- the same with a second source in the capacitor's place, whose walk goes up through the junction
abbrev pub two_sources : Network
two_sources = record {
  k = 14;
  m = 5461;
  left = leaf 0 Src false;
  right = parallel 8192 (leaf 1 Src false) (leaf 2 Res false);
  outlet = Load 2;
}

-- A source in the second part of a series junction, which is the first part of a parallel one, in the right tree. From
-- the source it goes up by 16384/12288 and 12288/16384 and into the left tree by 11000/5384; then, beside the way, down
-- by 16384/4096 to the capacitor and by 4096/16384 to the other resistor.
abbrev pub inner_source : Network
inner_source = record {
  k = 14;
  m = 5384;
  left = leaf 1 Res false;
  right = parallel 12288 (series 4096 (leaf 3 Res false) (leaf 0 Src false)) (leaf 2 Cap false);
  outlet = Load 1;
}

pub record AreWorkedWalks : Type 0 where
  pub one : walk one_source ≡ element_port 0 1099511627776 ∷ junction_port 1 549705483776 ∷ element_port 1 1099410967552 ∷ element_port 2 1099410967552 ∷ []
  pub two : walk two_sources ≡ element_port 0 2199123924993 ∷ junction_port 1 1099461297664 ∷ element_port 1 2198922595328 ∷ element_port 2 2198922595328 ∷ []
  pub inner : walk inner_source ≡ element_port 0 1099511627776 ∷ junction_port 3 1466015503702 ∷ junction_port 3 1099511627777 ∷ element_port 1 2246401914107 ∷ element_port 2 4398046511108 ∷ element_port 3 366503875926 ∷ []
