-- The runs of a runner: what their networks, their plan, their states and their slots are, and how they go on over whole frames.
use Rattle.std.specs.Prelude.{◌≡◌, ℕ, ◌+◌, ◌*◌, ◌<◌, ◌≤◌, ◌⊎◌, nat_lt, if◌then◌else◌, ℤ, pos, List, [], ◌∷◌, ◌++◌, Option, Some, None, length, unwrap_or, option_map, refl}
use Rattle.std.specs.Coded.{Coded, code_by, coded×, coded⊎, coded_ℕ}
use mathlib.Core.Logic.{inl, inr}
use Rattle.wdf_law.specs.declared.side.Side.{Side}
use Rattle.wdf_law.specs.declared.side.Side.TheVariants.{Whole, A, B}
use Rattle.wdf_law.specs.Network.{Network, elements, source_numbers}
use Rattle.wdf_law.specs.NetworkCode.{network_code}
use Rattle.wdf_law.specs.OutputRule.{drive}
use Rattle.wdf_law.specs.Run.{states}
use Rattle.wdf_law.specs.Solved.{solved}
use Rattle.wdf_law.specs.Step.{sent_in}
use Rattle.wdf_bounds.specs.Plans.{PlanOf}
use Rattle.wdf_bounds.specs.WordBound.{Fits}
use Rattle.wdf_energy.specs.declared.totals.Totals.{Totals}
use Rattle.wdf_energy.specs.Accounts.{LedgerOf, account_at, ledger_code}
use Rattle.wdf_sched.specs.Meaning.{Starts, slot_at}
use Rattle.wdf_sched.specs.Operations.{Slots}
use Rattle.wdf_sched.specs.Schedules.{ScheduleValue}
use Rattle.wdf_loop.specs.Engines.{EngineValue, engine_code, slot_of, state_of}
use Rattle.wdf_lattice.specs.declared.engines.Engines.{Engines}
use Rattle.wdf_lattice.specs.declared.engines.Engines.TheVariants.{One, Two}
use Rattle.wdf_lattice.specs.declared.networks.Networks.{Networks}
use Rattle.wdf_lattice.specs.declared.networks.Networks.TheVariants.{Ladder, Lattice}
use Rattle.wdf_lattice.specs.declared.side_runs.SideRuns.{SideRuns}
use Rattle.wdf_lattice.specs.Sides.{sources_driven}
use Rattle.wdf_lattice.specs.Waves.{frames_of, samples_for}
use Rattle.wdf_lattice.specs.SolvedWaves.{States, all_at_rest, states_behind, waves_from}
use Rattle.wdf_lattice.specs.SideAccounts.{Accounts, no_account, all_opened, accounts_behind, totals_with}

-- ---- what runs

-- the plan fits each network
abbrev pub FitsEach : Networks → PlanOf → Type 0
FitsEach (Ladder n) plan = Fits n plan
FitsEach (Lattice a b) plan = Fits a plan × Fits b plan

-- so many runs drive all sources: a ladder of several sources has one run, and each branch of a lattice one source
abbrev pub DriveAll : Networks → (runs : ℕ) → Type 0
DriveAll (Ladder n) runs = 1 < length (source_numbers n) → runs ≡ 1
DriveAll (Lattice a b) runs = (length (source_numbers a) ≡ 1) × (length (source_numbers b) ≡ 1)

-- ---- the runner as clauses see it

pub record RunnerValue : Type 0 where
  pub networks : Networks
  pub plan : PlanOf
  pub runs : ℕ
  pub done : ℕ
  -- an engine and a ledger of all runs for each network: one for a ladder's, two for those of a lattice's branches
  pub engines : Engines

-- those of a side, where the form has it
abbrev pub side_at : Engines → Side → Option SideRuns
side_at (One x) Whole = Some x
side_at (One x) A = None
side_at (One x) B = None
side_at (Two x y) Whole = None
side_at (Two x y) A = Some x
side_at (Two x y) B = Some y

-- the states by side and run, nothing where the form has no such side
abbrev pub states_by : Engines → States
states_by es side run = unwrap_or (option_map (λ (x : SideRuns). state_of x.engine run) (side_at es side)) []

abbrev pub states_of : RunnerValue → States
states_of r = states_by r.engines

-- the accounts by side and run
abbrev pub accounts_by : Engines → Accounts
accounts_by es side run = unwrap_or (option_map (λ (x : SideRuns). account_at x.ledger run) (side_at es side)) no_account

abbrev pub accounts_of : RunnerValue → Accounts
accounts_of r = accounts_by r.engines

-- the totals of a run, nothing where there is no such side or run
abbrev pub totals_by : RunnerValue → Side → ℕ → Option Totals
totals_by r = totals_with r.networks r.runs (accounts_of r)

-- ---- schedules and slots

-- the schedule of a side, where the form has it
abbrev pub schedule_by : Engines → Side → Option ScheduleValue
schedule_by es side = option_map (λ (x : SideRuns). x.engine.schedule) (side_at es side)

abbrev pub schedule_of : RunnerValue → Side → Option ScheduleValue
schedule_of r = schedule_by r.engines

-- what its slots hold in a run, by their numbers
abbrev pub slots_by : Engines → Side → ℕ → Slots
slots_by es side run slot = unwrap_or (option_map (λ (x : SideRuns). slot_of x.engine run slot) (side_at es side)) (pos 0)

abbrev pub slots_of : RunnerValue → Side → ℕ → Slots
slots_of r = slots_by r.engines

-- what one slot holds, nothing where there is no such side, run or slot
abbrev pub slot_among : Option ScheduleValue → Slots → ℕ → Option ℤ
slot_among None slots slot = None
slot_among (Some s) slots slot = if nat_lt slot s.slot_count then Some (slots slot) else None

abbrev pub slot_with : RunnerValue → Side → (run slot : ℕ) → Option ℤ
slot_with r side run slot = if nat_lt run r.runs then slot_among (schedule_of r side) (slots_of r side run) slot else None

-- the elements' slots hold the waves of the step from the states zs with the inputs e
pub record ShowsStep (s : ScheduleValue) (zs : List ℤ) (e : ℕ → ℤ) (v : Slots) : Type 0 where
  pub up : Starts s.net (states s.net zs) e v
  pub down : (i : ℕ) → i < length (elements s.net) → v (slot_at s.down_slots i) ≡ sent_in s.net (solved s.net (states s.net zs) e) i

-- in each run they hold those of the last of these frames, made from the states zs
abbrev pub ShowLast : Networks → (guard runs : ℕ) → (zs : States) → Engines → (frames : List (List ℤ)) → Type 0
ShowLast ns guard runs zs es frames =
    (side : Side) (s : ScheduleValue) → schedule_by es side ≡ Some s → (run : ℕ) → run < runs → (front : List (List ℤ)) (last : List ℤ) → frames ≡ front ++ last ∷ []
    → ShowsStep s (states_behind ns guard zs front side run) (drive guard s.net (samples_for (sources_driven ns) run last)) (slots_by es side run)

-- each slot holds 0
abbrev pub AreSilent : RunnerValue → Type 0
AreSilent r = (side : Side) (run slot : ℕ) → run < r.runs → slots_of r side run slot ≡ pos 0

-- ---- how runs go on

-- these runs' states are those at rest
abbrev pub AreAtRest : Networks → (runs : ℕ) → States → Type 0
AreAtRest ns runs zs = (side : Side) (run : ℕ) → run < runs → zs side run ≡ all_at_rest ns side run

-- their accounts have no frame
abbrev pub AreOpened : Networks → (runs : ℕ) → Accounts → Type 0
AreOpened ns runs accounts = (side : Side) (run : ℕ) → run < runs → accounts side run ≡ all_opened ns side run

-- frames take the runs from the states zs to the states ys, with these load waves
pub record RunOver (ns : Networks) (guard runs : ℕ) (zs ys : States) (frames : List (List ℤ)) (waves : List ℤ) : Type 0 where
  pub waves_are : waves ≡ waves_from ns guard runs zs frames
  pub states_are : (side : Side) (run : ℕ) → run < runs → ys side run ≡ states_behind ns guard zs frames side run

-- and so do the frames of these samples
abbrev pub RunsOn : Networks → (guard runs : ℕ) → (zs ys : States) → (samples waves : List ℤ) → Type 0
RunsOn ns guard runs zs ys samples waves = RunOver ns guard runs zs ys (frames_of ns runs samples) waves

-- frames made from the states zs take the runs' accounts from before to behind
abbrev pub NoteOver : Networks → (guard runs : ℕ) → (zs : States) → (before behind : Accounts) → (frames : List (List ℤ)) → Type 0
NoteOver ns guard runs zs before behind frames =
    (side : Side) (run : ℕ) → run < runs → behind side run ≡ accounts_behind ns guard zs before frames side run

-- and so do the frames of these samples
abbrev pub NotesOn : Networks → (guard runs : ℕ) → (zs : States) → (before behind : Accounts) → (samples : List ℤ) → Type 0
NotesOn ns guard runs zs before behind samples = NoteOver ns guard runs zs before behind (frames_of ns runs samples)

-- samples of so many frames, and as many load waves
pub record AreFrames (runs sources count : ℕ) (samples waves : List ℤ) : Type 0 where
  pub taken : length samples ≡ count * (runs * sources)
  pub given : length waves ≡ count * runs

-- a block of whole frames, of which there are no more than are left
abbrev pub IsBlock : (runs sources done frames : ℕ) → (samples waves : List ℤ) → Type 0
IsBlock runs sources done frames samples waves = (count : ℕ) × AreFrames runs sources count samples waves × (done + count ≤ frames)

-- a runner that has just begun, at rest
pub record IsBegun (r : RunnerValue) (ns : Networks) (plans : PlanOf) (count : ℕ) : Type 0 where
  pub networks_are : r.networks ≡ ns
  pub plan_is : r.plan ≡ plans
  pub runs_are : r.runs ≡ count
  pub none_done : r.done ≡ 0
  pub rest : AreAtRest ns count (states_of r)
  pub accounts_are : AreOpened ns count (accounts_of r)

-- ---- the code that the model of its type wants

abbrev pub NetworksParts : Type 0
NetworksParts = Network ⊎ (Network × Network)

abbrev pub networks_parts : Networks → NetworksParts
networks_parts (Ladder n) = inl n
networks_parts (Lattice a b) = inr (a, b)

abbrev pub networks_from : NetworksParts → Networks
networks_from (inl n) = Ladder n
networks_from (inr p) = Lattice p.0 p.1

pub networks_back : (ns : Networks) → networks_from (networks_parts ns) ≡ ns
networks_back (Ladder n) = refl
networks_back (Lattice a b) = refl

abbrev pub networks_code : Coded Networks
networks_code = code_by NetworksParts (coded⊎ network_code (coded× network_code network_code)) networks_parts networks_from networks_back

abbrev pub PlanParts : Type 0
PlanParts = ℕ × (ℕ × (ℕ × (ℕ × (ℕ × ℕ))))

abbrev pub coded_plan : Coded PlanParts
coded_plan = coded× coded_ℕ (coded× coded_ℕ (coded× coded_ℕ (coded× coded_ℕ (coded× coded_ℕ coded_ℕ))))

abbrev pub SideParts : Type 0
SideParts = EngineValue × LedgerOf

abbrev pub coded_side : Coded SideRuns
coded_side = code_by SideParts (coded× engine_code ledger_code) (λ x. (x.engine, x.ledger)) (λ p. record { engine = p.0; ledger = p.1 }) (λ _. refl)

abbrev pub EnginesParts : Type 0
EnginesParts = SideRuns ⊎ (SideRuns × SideRuns)

abbrev pub engines_parts : Engines → EnginesParts
engines_parts (One x) = inl x
engines_parts (Two x y) = inr (x, y)

abbrev pub engines_from : EnginesParts → Engines
engines_from (inl x) = One x
engines_from (inr p) = Two p.0 p.1

pub engines_back : (es : Engines) → engines_from (engines_parts es) ≡ es
engines_back (One x) = refl
engines_back (Two x y) = refl

abbrev pub engines_code : Coded Engines
engines_code = code_by EnginesParts (coded⊎ coded_side (coded× coded_side coded_side)) engines_parts engines_from engines_back

abbrev pub RunnerParts : Type 0
RunnerParts = Networks × (PlanParts × (ℕ × (ℕ × Engines)))

abbrev pub runner_parts : RunnerValue → RunnerParts
runner_parts r = (r.networks, ((r.plan.k, (r.plan.guard, (r.plan.shift, (r.plan.frames, (r.plan.amp, r.plan.bits))))), (r.runs, (r.done, r.engines))))

abbrev pub runner_from : RunnerParts → RunnerValue
runner_from p = record {
  networks = p.0;
  plan = record { k = p.1.0.0; guard = p.1.0.1.0; shift = p.1.0.1.1.0; frames = p.1.0.1.1.1.0; amp = p.1.0.1.1.1.1.0; bits = p.1.0.1.1.1.1.1 };
  runs = p.1.1.0;
  done = p.1.1.1.0;
  engines = p.1.1.1.1;
}

abbrev pub runner_code : Coded RunnerValue
runner_code = code_by RunnerParts (coded× networks_code (coded× coded_plan (coded× coded_ℕ (coded× coded_ℕ engines_code)))) runner_parts runner_from (λ _. refl)
