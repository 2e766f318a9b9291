-- Load waves worked by hand, against which the definitions of a run over channels are checked.
use Rattle.std.specs.Prelude.{◌≡◌, ℕ, ℤ, pos, neg_ℤ, false, List, [], ◌∷◌, map}
use Rattle.wdf_law.specs.declared.kind.Kind.TheVariants.{Res, Src}
use Rattle.wdf_law.specs.declared.outlet.Outlet.TheVariants.{Load, Source}
use Rattle.wdf_law.specs.Trees.{leaf, parallel}
use Rattle.wdf_law.specs.Network.{Network}
use Rattle.wdf_law.specs.OutputRule.{output_of}
use Rattle.wdf_law.specs.WorkedFrames.{capacitor_circuit}
use Rattle.wdf_lattice.specs.declared.networks.Networks.{Networks}
use Rattle.wdf_lattice.specs.declared.networks.Networks.TheVariants.{Ladder, Lattice}
use Rattle.wdf_lattice.specs.Sides.{down_shift_of}
use Rattle.wdf_lattice.specs.SolvedWaves.{waves_for}

-- these samples give these output values of 16 bits, with no shift
abbrev pub Gives : Networks → (guard runs : ℕ) → (samples values : List ℤ) → Type 0
Gives ns guard runs samples values = map (output_of (down_shift_of ns guard 0) 16) (waves_for ns guard runs samples) ≡ values

-- a source and a load of the same resistance
abbrev pub divider : Network
divider = record { k = 14; m = 8192; left = leaf 0 Src false; right = leaf 1 Res false; outlet = Load 1 }

-- two sources and a load, all in parallel and of the same resistance
abbrev pub mixer : Network
mixer = record {
  k = 14;
  m = 5461;
  left = leaf 0 Src false;
  right = parallel 8192 (leaf 1 Src false) (leaf 2 Res false);
  outlet = Load 2;
}

-- a branch of a lattice: its source and one resistor
abbrev pub branch : ℕ → Network
branch m = record { k = 14; m = m; left = leaf 0 Src false; right = leaf 1 Res false; outlet = Source }

pub record AreWorkedWaves : Type 0 where
  pub divider : Gives (Ladder divider) 4 1 (pos 1 ∷ neg_ℤ (pos 2) ∷ pos 32767 ∷ neg_ℤ (pos 32768) ∷ []) (pos 1 ∷ neg_ℤ (pos 2) ∷ pos 32767 ∷ neg_ℤ (pos 32768) ∷ [])
  pub capacitor : Gives (Ladder capacitor_circuit) 0 1 (pos 16384 ∷ pos 0 ∷ pos 0 ∷ []) (pos 10922 ∷ pos 7281 ∷ neg_ℤ (pos 2426) ∷ [])
  -- five channels, each from rest, with states of its own
  pub channels : Gives (Ladder capacitor_circuit) 0 5
      (pos 16384 ∷ neg_ℤ (pos 16384) ∷ pos 0 ∷ pos 0 ∷ pos 16384
      ∷ pos 0 ∷ pos 0 ∷ pos 0 ∷ pos 0 ∷ pos 0
      ∷ pos 0 ∷ pos 0 ∷ pos 0 ∷ pos 0 ∷ pos 0 ∷ [])
      (pos 10922 ∷ neg_ℤ (pos 10922) ∷ pos 0 ∷ pos 0 ∷ pos 10922
      ∷ pos 7281 ∷ neg_ℤ (pos 7281) ∷ pos 0 ∷ pos 0 ∷ pos 7281
      ∷ neg_ℤ (pos 2426) ∷ pos 2426 ∷ pos 0 ∷ pos 0 ∷ neg_ℤ (pos 2426) ∷ [])
  -- two sources in one run, each driven by its channel
  pub mixer : Gives (Ladder mixer) 0 1 (pos 3000 ∷ pos 6000 ∷ pos 3 ∷ neg_ℤ (pos 3) ∷ []) (pos 6000 ∷ pos 0 ∷ [])
  -- arms of a microohm and a megohm, and two arms that are alike
  pub lattice : Gives (Lattice (branch 1) (branch 16383)) 4 1 (pos 1000 ∷ neg_ℤ (pos 32768) ∷ []) (pos 999 ∷ neg_ℤ (pos 32764) ∷ [])
  pub balanced : Gives (Lattice (branch 16376) (branch 16376)) 4 2 (pos 1000 ∷ neg_ℤ (pos 32768) ∷ []) (pos 0 ∷ pos 0 ∷ [])
