-- Where the energy of all runs went: the account of each, by the side of its network and its number.
use Rattle.std.specs.Prelude.{ℕ, nat_lt, if◌then◌else◌, ℤ, List, [], Option, None, unwrap_or, option_map}
use Rattle.wdf_law.specs.declared.side.Side.{Side}
use Rattle.wdf_law.specs.Network.{Network}
use Rattle.wdf_energy.specs.declared.totals.Totals.{Totals}
use Rattle.wdf_energy.specs.Accounts.{AccountOf, opened, all_noted, totals_of}
use Rattle.wdf_lattice.specs.declared.networks.Networks.{Networks}
use Rattle.wdf_lattice.specs.Sides.{network_at}
use Rattle.wdf_lattice.specs.Waves.{frames_of, inputs_for}
use Rattle.wdf_lattice.specs.SolvedWaves.{States, all_at_rest, solved_family}

abbrev pub Accounts : Type 0
Accounts = Side → ℕ → AccountOf

-- that of no run
abbrev pub no_account : AccountOf
no_account = record { incident = 0; squares = []; state = [] }

-- what a side's network gives, no account where the form has no such side
abbrev pub account_with : Networks → Side → (Network → AccountOf) → AccountOf
account_with ns side f = unwrap_or (option_map f (network_at ns side)) no_account

-- before the first frame
abbrev pub all_opened : Networks → Accounts
all_opened ns side run = account_with ns side opened

-- with these frames more, made from the states zs
abbrev pub accounts_behind : Networks → ℕ → States → Accounts → List (List ℤ) → Accounts
accounts_behind ns guard zs before frames side run =
    account_with ns side (λ n. all_noted n (inputs_for ns guard run n frames) (solved_family ns guard zs frames side run) (before side run))

-- with all frames of samples from rest
abbrev pub accounts_for : Networks → (guard runs : ℕ) → List ℤ → Accounts
accounts_for ns guard runs samples = accounts_behind ns guard (all_at_rest ns) (all_opened ns) (frames_of ns runs samples)

-- the totals of a run's account, nothing where there is no such side or run
abbrev pub totals_with : Networks → (runs : ℕ) → Accounts → Side → ℕ → Option Totals
totals_with ns runs accounts side run = if nat_lt run runs then option_map (λ n. totals_of n (accounts side run)) (network_at ns side) else None
