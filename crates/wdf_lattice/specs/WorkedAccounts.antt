-- Totals worked by hand, k = 14, guard 0, against which the accounts of samples are checked.
use Rattle.std.specs.Prelude.{◌≡◌, ℕ, ℤ, pos, neg_ℤ, List, [], ◌∷◌, Option, Some, None}
use Rattle.wdf_law.specs.declared.side.Side.{Side}
use Rattle.wdf_law.specs.declared.side.Side.TheVariants.{Whole, A, B}
use Rattle.wdf_quant.specs.WorkedWalks.{one_source, two_sources}
use Rattle.wdf_energy.specs.declared.totals.Totals.{Totals}
use Rattle.wdf_lattice.specs.declared.networks.Networks.{Networks}
use Rattle.wdf_lattice.specs.declared.networks.Networks.TheVariants.{Ladder, Lattice}
use Rattle.wdf_lattice.specs.SideAccounts.{accounts_for, totals_with}

-- the totals of a run of samples from rest
abbrev pub totals_for : Networks → (runs : ℕ) → List ℤ → Side → ℕ → Option Totals
totals_for ns runs samples = totals_with ns runs (accounts_for ns 0 runs samples)

pub record AreWorkedAccounts : Type 0 where
  -- 16384, 0, 0 into a source with a capacitor and a load in parallel
  pub pulse : totals_for (Ladder one_source) 1 (pos 16384 ∷ pos 0 ∷ pos 0 ∷ []) Whole 0
      ≡ Some (record { incident = 268435456; absorbed = 266936716; stored = 1473930 })
  -- the same as the second of two channels, whose first is silent
  pub silent : totals_for (Ladder one_source) 2 (pos 0 ∷ pos 16384 ∷ pos 0 ∷ pos 0 ∷ pos 0 ∷ pos 0 ∷ []) Whole 0
      ≡ Some (record { incident = 0; absorbed = 0; stored = 0 })
  pub second : totals_for (Ladder one_source) 2 (pos 0 ∷ pos 16384 ∷ pos 0 ∷ pos 0 ∷ pos 0 ∷ pos 0 ∷ []) Whole 1
      ≡ Some (record { incident = 268435456; absorbed = 266936716; stored = 1473930 })
  -- 3000 and 6000, then 3 and -3, into two sources with the load in parallel to the second, in one run
  pub pairs : totals_for (Ladder two_sources) 1 (pos 3000 ∷ pos 6000 ∷ pos 3 ∷ neg_ℤ (pos 3) ∷ []) Whole 0
      ≡ Some (record { incident = 45000018; absorbed = 22500621; stored = 0 })
  -- branch B of a lattice, whose branch A is another circuit; a ladder has no branch, and there is no run beyond the last
  pub branch : totals_for (Lattice two_sources one_source) 1 (pos 16384 ∷ pos 0 ∷ pos 0 ∷ []) B 0
      ≡ Some (record { incident = 268435456; absorbed = 266936716; stored = 1473930 })
  pub no_side : totals_for (Ladder one_source) 1 (pos 16384 ∷ []) A 0 ≡ None
  pub no_run : totals_for (Ladder one_source) 1 (pos 16384 ∷ []) Whole 1 ≡ None
