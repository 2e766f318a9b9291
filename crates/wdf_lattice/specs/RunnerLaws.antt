-- What the runs of a runner give from rest, block after block.
use Rattle.std.specs.Prelude.{◌≡◌, ℕ, ◌*◌, ◌<◌, ℤ, List, [], ◌++◌, length}
use Rattle.wdf_law.specs.declared.side.Side.{Side}
use Rattle.wdf_lattice.specs.declared.networks.Networks.{Networks}
use Rattle.wdf_lattice.specs.Sides.{sources_driven}
use Rattle.wdf_lattice.specs.Waves.{frames_of}
use Rattle.wdf_lattice.specs.SolvedWaves.{States, all_at_rest, states_behind, waves_for}
use Rattle.wdf_lattice.specs.SideAccounts.{Accounts, accounts_for}
use Rattle.wdf_lattice.specs.Runners.{AreAtRest, AreOpened, RunsOn, NotesOn}

-- these samples are whole frames, and take the runs from rest to the states zs
pub record LeadsTo (ns : Networks) (guard runs : ℕ) (samples : List ℤ) (zs : States) : Type 0 where
  pub whole : (count : ℕ) × (length samples ≡ count * (runs * sources_driven ns))
  pub states_are : (side : Side) (run : ℕ) → run < runs → zs side run ≡ states_behind ns guard (all_at_rest ns) (frames_of ns runs samples) side run

-- the runs' accounts have just the frames of these samples
abbrev pub AreAccountsOf : Networks → (guard runs : ℕ) → (samples : List ℤ) → Accounts → Type 0
AreAccountsOf ns guard runs samples accounts = (side : Side) (run : ℕ) → run < runs → accounts side run ≡ accounts_for ns guard runs samples side run

-- however samples are cut into blocks, the waves and the accounts of the blocks are those of all samples
pub record GoesOnFromRest (ns : Networks) : Type 0 where
  pub begins : (guard runs : ℕ) (zs : States) → 0 < runs * sources_driven ns → AreAtRest ns runs zs → LeadsTo ns guard runs [] zs
  pub none : (guard runs : ℕ) → 0 < runs * sources_driven ns → waves_for ns guard runs [] ≡ []
  pub waves : (guard runs : ℕ) (samples more waves : List ℤ) (zs ys : States) → 0 < runs * sources_driven ns → LeadsTo ns guard runs samples zs
      → RunsOn ns guard runs zs ys more waves → waves_for ns guard runs (samples ++ more) ≡ waves_for ns guard runs samples ++ waves
  pub leads : (guard runs count : ℕ) (samples more waves : List ℤ) (zs ys : States) → 0 < runs * sources_driven ns → LeadsTo ns guard runs samples zs
      → length more ≡ count * (runs * sources_driven ns) → RunsOn ns guard runs zs ys more waves → LeadsTo ns guard runs (samples ++ more) ys
  pub opens : (guard runs : ℕ) (accounts : Accounts) → 0 < runs * sources_driven ns → AreOpened ns runs accounts → AreAccountsOf ns guard runs [] accounts
  pub notes : (guard runs : ℕ) (samples more : List ℤ) (zs : States) (before behind : Accounts) → 0 < runs * sources_driven ns → LeadsTo ns guard runs samples zs
      → AreAccountsOf ns guard runs samples before → NotesOn ns guard runs zs before behind more → AreAccountsOf ns guard runs (samples ++ more) behind
