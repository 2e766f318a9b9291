-- What the accounts of samples tell of the runs on them.
use Rattle.std.specs.Prelude.{◌≡◌, ℕ, ◌<◌, ◌≤◌, ℤ, List, Option, Some, None}
use Rattle.wdf_law.specs.declared.side.Side.{Side}
use Rattle.wdf_law.specs.Network.{Network}
use Rattle.wdf_law.specs.Step.{Frame}
use Rattle.wdf_law.specs.Run.{IsRun, at_rest}
use Rattle.wdf_energy.specs.declared.totals.Totals.{Totals}
use Rattle.wdf_energy.specs.Totals.{run_totals}
use Rattle.wdf_lattice.specs.declared.networks.Networks.{Networks}
use Rattle.wdf_lattice.specs.Sides.{network_at}
use Rattle.wdf_lattice.specs.Waves.{frames_of, inputs_for}
use Rattle.wdf_lattice.specs.SideAccounts.{Accounts, totals_with}
use Rattle.wdf_lattice.specs.RunnerLaws.{AreAccountsOf}

-- these are the totals of the runs on the samples: of every reference run of each side's network from rest
pub record AreRunTotals (ns : Networks) (guard runs : ℕ) (samples : List ℤ) (totals : Side → ℕ → Option Totals) : Type 0 where
  pub each : (side : Side) (n : Network) → network_at ns side ≡ Some n → (run : ℕ) → run < runs
      → (steps : List Frame) → IsRun n (at_rest n) (inputs_for ns guard run n (frames_of ns runs samples)) steps
      → totals side run ≡ Some (run_totals n (inputs_for ns guard run n (frames_of ns runs samples)) steps)
  -- and there are none of other sides or runs
  pub no_side : (side : Side) (run : ℕ) → network_at ns side ≡ None → totals side run ≡ None
  pub no_run : (side : Side) (run : ℕ) → runs ≤ run → totals side run ≡ None

-- the accounts of samples from rest have those totals
abbrev pub TellsTotals : Networks → Type 0
TellsTotals ns = (guard runs : ℕ) (samples : List ℤ) (accounts : Accounts) → AreAccountsOf ns guard runs samples accounts
    → AreRunTotals ns guard runs samples (totals_with ns runs accounts)
