-- The runs of each network, by their fields: what a runner keeps of them, and how they go over frames.
use Rattle.std.specs.Prelude.{◌≡◌, ℕ, ◌+◌, ◌*◌, ◌<◌, ◌≤◌, ◌^◌, ℤ, pos, unsigned_abs, All, List, [], ◌∷◌, ◌++◌, length, map, slice_index_or}
use Rattle.wdf_algebra.specs.Pieces.{pieces}
use Rattle.wdf_law.specs.declared.side.Side.{Side}
use Rattle.wdf_law.specs.Network.{Network, source_numbers}
use Rattle.wdf_law.specs.Step.{Frame}
use Rattle.wdf_law.specs.Run.{at_rest, at_end}
use Rattle.wdf_law.specs.RunOutputs.{inputs}
use Rattle.wdf_law.specs.OutputRule.{drive}
use Rattle.wdf_law.specs.Solved.{solved_run}
use Rattle.wdf_bounds.specs.Plans.{PlanOf}
use Rattle.wdf_energy.specs.Accounts.{account_at, all_noted, opened}
use Rattle.wdf_loop.specs.Engines.{HoldsLedger, runs_of, slot_of, state_of}
use Rattle.wdf_lattice.specs.declared.engines.Engines.{Engines}
use Rattle.wdf_lattice.specs.declared.engines.Engines.TheVariants.{One, Two}
use Rattle.wdf_lattice.specs.declared.networks.Networks.{Networks}
use Rattle.wdf_lattice.specs.declared.networks.Networks.TheVariants.{Ladder, Lattice}
use Rattle.wdf_lattice.specs.declared.side_runs.SideRuns.{SideRuns}
use Rattle.wdf_lattice.specs.Sides.{sources_driven}
use Rattle.wdf_lattice.specs.Waves.{samples_for, wave_in}
use Rattle.wdf_lattice.specs.Runners.{DriveAll, NoteOver, RunOver, ShowLast, ShowsStep, accounts_by, schedule_by, slots_by, states_by}

-- ---- what is kept

-- the ledgers hold the frames of their engines; the engines have one plan, the same runs and as many frames done
abbrev pub AreAlike : Engines → Type 0
AreAlike (One x) = HoldsLedger x.engine x.ledger
AreAlike (Two x y) = HoldsLedger x.engine x.ledger × HoldsLedger y.engine y.ledger
    × (y.engine.plan ≡ x.engine.plan) × (runs_of y.engine ≡ runs_of x.engine) × (y.engine.done ≡ x.engine.done)

abbrev pub plan_by : Engines → PlanOf
plan_by (One x) = x.engine.plan
plan_by (Two x y) = x.engine.plan

abbrev pub runs_by : Engines → ℕ
runs_by (One x) = runs_of x.engine
runs_by (Two x y) = runs_of x.engine

abbrev pub done_by : Engines → ℕ
done_by (One x) = x.engine.done
done_by (Two x y) = x.engine.done

-- the networks that they run
abbrev pub networks_by : Engines → Networks
networks_by (One x) = Ladder x.engine.schedule.net
networks_by (Two x y) = Lattice x.engine.schedule.net y.engine.schedule.net

-- room for the load waves of a lattice's branch A in a piece of a block
abbrev pub IsRoomFor : Networks → (runs : ℕ) → List ℤ → Type 0
IsRoomFor (Ladder n) runs room = Unit {0}
IsRoomFor (Lattice a b) runs room = length room ≡ 256 * runs

-- what the type of a runner keeps, by its fields
pub record IsRunner (ns : Networks) (plan : PlanOf) (runs : ℕ) (es : Engines) (room : List ℤ) : Type 0 where
  pub some_run : 1 ≤ runs
  pub few_runs : runs ≤ 8
  pub driven : DriveAll ns runs
  pub alike : AreAlike es
  pub networks_are : networks_by es ≡ ns
  pub plan_is : plan_by es ≡ plan
  pub runs_are : runs_by es ≡ runs
  pub room_is : IsRoomFor ns runs room

-- ---- the beginning

pub record IsNewSide (n : Network) (plan : PlanOf) (runs : ℕ) (x : SideRuns) : Type 0 where
  pub net : x.engine.schedule.net ≡ n
  pub plans : x.engine.plan ≡ plan
  pub runs_are : runs_of x.engine ≡ runs
  pub none_done : x.engine.done ≡ 0
  pub held : HoldsLedger x.engine x.ledger
  pub rest : (run : ℕ) → run < runs → state_of x.engine run ≡ at_rest n
  pub opens : (run : ℕ) → run < runs → account_at x.ledger run ≡ opened n
  pub silent : (run slot : ℕ) → run < runs → slot_of x.engine run slot ≡ pos 0

abbrev pub AreNewSides : Networks → PlanOf → (runs : ℕ) → Engines → Type 0
AreNewSides (Ladder n) plan runs (One x) = IsNewSide n plan runs x
AreNewSides (Ladder n) plan runs (Two x y) = ⊥
AreNewSides (Lattice a b) plan runs (One x) = ⊥
AreNewSides (Lattice a b) plan runs (Two x y) = IsNewSide a plan runs x × IsNewSide b plan runs y

-- ---- frames

-- what the frames send into a run of a network, each run taking so many samples of a frame, and its steps from the state z
abbrev pub drives_of : Network → (guard sources run : ℕ) → List (List ℤ) → List (ℕ → ℤ)
drives_of n guard sources run frames = inputs guard n (map (samples_for sources run) frames)

abbrev pub steps_of : Network → (guard sources run : ℕ) → (z : List ℤ) → List (List ℤ) → List Frame
steps_of n guard sources run z frames = solved_run n z (drives_of n guard sources run frames)

-- the frames take the runs of a network to new states, and give these load waves, run after run in each frame
pub record SideOver (n : Network) (guard runs sources : ℕ) (frames : List (List ℤ)) (x y : SideRuns) (waves : List ℤ) : Type 0 where
  pub states_are : (run : ℕ) → run < runs → state_of y.engine run ≡ at_end n (state_of x.engine run) (steps_of n guard sources run (state_of x.engine run) frames)
  pub waves_are : (frame run : ℕ) → frame < length frames → run < runs
      → slice_index_or waves (frame * runs + run) (pos 0) ≡ wave_in n (steps_of n guard sources run (state_of x.engine run) frames) frame
  pub accounts_are : (run : ℕ) → run < runs
      → account_at y.ledger run
      ≡ all_noted n (drives_of n guard sources run frames) (steps_of n guard sources run (state_of x.engine run) frames) (account_at x.ledger run)
  pub leaves : (run : ℕ) → run < runs → (front : List (List ℤ)) (last : List ℤ) → frames ≡ front ++ last ∷ []
      → ShowsStep y.engine.schedule (at_end n (state_of x.engine run) (steps_of n guard sources run (state_of x.engine run) front)) (drive guard n (samples_for sources run last))
      (slot_of y.engine run)

-- so do the frames of a block of so many, a sample for each source of each run
abbrev pub GoesOver : (count : ℕ) → (input waves : List ℤ) → SideRuns → SideRuns → Type 0
GoesOver count input waves x y =
    let n = x.engine.schedule.net in
    let runs = runs_of x.engine in
    let sources = length (source_numbers n) in
    SideOver n x.engine.plan.guard runs sources (pieces count (runs * sources) input) x y waves

-- so many frames later, nothing else being changed
pub record KeepsSide (count : ℕ) (x y : SideRuns) : Type 0 where
  pub schedule : y.engine.schedule ≡ x.engine.schedule
  pub plans : y.engine.plan ≡ x.engine.plan
  pub counted : runs_of y.engine ≡ runs_of x.engine
  pub done : y.engine.done ≡ x.engine.done + count
  pub held : HoldsLedger y.engine y.ledger
  pub still : count ≡ 0 → y.engine.slots ≡ x.engine.slots

-- the frames take the runs of all networks on
pub record SidesOver (ns : Networks) (guard runs : ℕ) (frames : List (List ℤ)) (es fs : Engines) (waves : List ℤ) : Type 0 where
  pub on : RunOver ns guard runs (states_by es) (states_by fs) frames waves
  pub notes : NoteOver ns guard runs (states_by es) (accounts_by es) (accounts_by fs) frames
  pub leaves : ShowLast ns guard runs (states_by es) fs frames
  pub schedules : (side : Side) → schedule_by fs side ≡ schedule_by es side

-- so many frames of a block, and nothing else is changed
pub record GoOn (count : ℕ) (input output : List ℤ) (es fs : Engines) : Type 0 where
  pub alike : AreAlike fs
  pub networks_are : networks_by fs ≡ networks_by es
  pub plan_is : plan_by fs ≡ plan_by es
  pub runs_are : runs_by fs ≡ runs_by es
  pub done : done_by fs ≡ done_by es + count
  pub still : count ≡ 0 → (side : Side) (run slot : ℕ) → slots_by fs side run slot ≡ slots_by es side run slot
  pub over : SidesOver (networks_by es) (plan_by es).guard (runs_by es) (pieces count (runs_by es * sources_driven (networks_by es)) input) es fs output

-- each of these is at most 2^60
abbrev pub AreSmall : List ℤ → Type 0
AreSmall ws = All (λ (w : ℤ). unsigned_abs w ≤ 2 ^ 60) ws
