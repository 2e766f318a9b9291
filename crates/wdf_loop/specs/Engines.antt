-- The engine as clauses see it: its schedule and plan, the frames done, and of each run the value of every slot; and how runs go
-- on.
use Rattle.std.specs.Prelude.{◌≡◌, ℕ, ◌+◌, ◌*◌, ◌<◌, ◌≤◌, ℤ, pos, List, [], length, map, slice_index_or, refl}
use Rattle.std.specs.Coded.{Coded, code_by, coded×, coded_ℕ, coded_ℤ, coded_list}
use Rattle.wdf_law.specs.Network.{reactances, source_numbers, unit_of}
use Rattle.wdf_law.specs.Run.{at_rest}
use Rattle.wdf_bounds.specs.HeldWords.{IsReached}
use Rattle.wdf_bounds.specs.Plans.{PlanOf}
use Rattle.wdf_bounds.specs.WordBound.{Fits}
use Rattle.wdf_energy.specs.Accounts.{LedgerOf, account_at}
use Rattle.wdf_energy.specs.LedgerLaws.{HoldsFrames}
use Rattle.wdf_sched.specs.Meaning.{slot_at}
use Rattle.wdf_sched.specs.Operations.{HoldAll}
use Rattle.wdf_sched.specs.ScheduleCode.{schedule_code}
use Rattle.wdf_sched.specs.Schedules.{ScheduleValue}
use Rattle.wdf_loop.specs.RunFrames.{RunsOn}

pub record EngineValue : Type 0 where
  pub schedule : ScheduleValue
  pub plan : PlanOf
  pub done : ℕ
  -- of each run by the slots' numbers; each 0 before the first frame
  pub slots : List (List ℤ)

-- how many runs it has
abbrev pub runs_of : EngineValue → ℕ
runs_of a = length a.slots

-- what a slot holds for a run
abbrev pub slot_of : EngineValue → ℕ → ℕ → ℤ
slot_of a run slot = slice_index_or (slice_index_or a.slots run []) slot (pos 0)

-- what an element was sent last in a run
abbrev pub sent_at : EngineValue → ℕ → ℕ → ℤ
sent_at a run i = slot_of a run (slot_at a.schedule.down_slots i)

-- the state of a run: the down waves of the reactances, in netlist order
abbrev pub state_of : EngineValue → ℕ → List ℤ
state_of a run = map (sent_at a run) (reactances a.schedule.net)

-- What the type keeps, as callers see it: the plan fits; the energy stored in the state of each run is at most what the sources
-- can have sent in; and at all times the slots of each run hold what each operation of the schedule writes.
pub record KeepsPlan (a : EngineValue) : Type 0 where
  pub fits : Fits a.schedule.net a.plan
  pub frames : a.done ≤ a.plan.frames
  pub reached : (run : ℕ) → run < runs_of a → IsReached a.schedule.net a.plan a.done (state_of a run)
  pub holds : (run : ℕ) → run < runs_of a → HoldAll (unit_of a.schedule.net) (slot_of a run) a.schedule.ops
  pub each : (run : ℕ) → run < runs_of a → length (slice_index_or a.slots run []) ≡ a.schedule.slot_count

-- a new engine
pub record IsFresh (a : EngineValue) (s : ScheduleValue) (plan : PlanOf) (runs : ℕ) : Type 0 where
  pub schedules : a.schedule ≡ s
  pub plans : a.plan ≡ plan
  pub count : runs_of a ≡ runs
  pub done : a.done ≡ 0
  pub state : (run : ℕ) → run < runs → state_of a run ≡ at_rest s.net
  pub slots : (run i : ℕ) → run < runs → slot_of a run i ≡ pos 0

-- ---- a block

-- So many whole frames of samples, and a place for a load wave of each run in each frame; the plan has as many left.
pub record AreFrames (a : EngineValue) (count : ℕ) (input output : List ℤ) : Type 0 where
  pub samples : length input ≡ count * (runs_of a * length (source_numbers a.schedule.net))
  pub places : length output ≡ count * runs_of a
  pub left : a.done + count ≤ a.plan.frames

-- the ledger is of the engine's network, and its accounts hold the frames of the runs
pub record HoldsLedger (a : EngineValue) (l : LedgerOf) : Type 0 where
  pub net : l.net ≡ a.schedule.net
  pub count : length l.accounts ≡ runs_of a
  pub frames : (run : ℕ) → run < runs_of a → HoldsFrames a.schedule.net a.plan a.done (sent_at a run) (account_at l run)

-- each run of an engine goes on so, with its account of the ledger, and nothing else is changed
pub record IsBlock (a b : EngineValue) (count : ℕ) (input output : List ℤ) (l m : LedgerOf) : Type 0 where
  pub on : (run : ℕ) → run < runs_of a
      → RunsOn a.schedule.net a.plan (runs_of a) count input output run (state_of a run) (state_of b run) (slot_of b run) (sent_at b run) (account_at l run) (account_at m run)
  pub schedules : b.schedule ≡ a.schedule
  pub plans : b.plan ≡ a.plan
  pub runs : runs_of b ≡ runs_of a
  pub done : b.done ≡ a.done + count
  pub ledger : HoldsLedger b m
  pub still : count ≡ 0 → b.slots ≡ a.slots

-- ---- the code that the model of its type wants

abbrev pub PlanParts : Type 0
PlanParts = ℕ × (ℕ × (ℕ × (ℕ × (ℕ × ℕ))))

abbrev pub EngineParts : Type 0
EngineParts = ScheduleValue × (PlanParts × (ℕ × List (List ℤ)))

abbrev pub parts_of : EngineValue → EngineParts
parts_of a = (a.schedule, ((a.plan.k, (a.plan.guard, (a.plan.shift, (a.plan.frames, (a.plan.amp, a.plan.bits))))), (a.done, a.slots)))

abbrev pub engine_from : EngineParts → EngineValue
engine_from p = record {
  schedule = p.0;
  plan = record { k = p.1.0.0; guard = p.1.0.1.0; shift = p.1.0.1.1.0; frames = p.1.0.1.1.1.0; amp = p.1.0.1.1.1.1.0; bits = p.1.0.1.1.1.1.1 };
  done = p.1.1.0;
  slots = p.1.1.1;
}

abbrev pub coded_plan : Coded PlanParts
coded_plan = coded× coded_ℕ (coded× coded_ℕ (coded× coded_ℕ (coded× coded_ℕ (coded× coded_ℕ coded_ℕ))))

abbrev pub engine_code : Coded EngineValue
engine_code = code_by EngineParts (coded× schedule_code (coded× coded_plan (coded× coded_ℕ (coded_list (coded_list coded_ℤ))))) parts_of engine_from (λ _. refl)
