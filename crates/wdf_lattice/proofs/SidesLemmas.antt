-- The runs of a ladder's network, and of both branches of a lattice, go over frames.
use Rattle.std.proofs.Common.{◌≡◌, ℕ, ◌+◌, ◌*◌, ◌<◌, ◌≤◌, ◌-ℤ◌, List, [], ◌∷◌, ◌++◌, length, Some, refl, sym, ap, ap₂, ◌∙◌, subst, arith}
use Rattle.std.specs.Prelude.{ℤ, pos, slice_index_or}
use Rattle.std.proofs.Math.Nat.{mul-le-mul_right}
use Rattle.wdf_law.specs.declared.side.Side.{Side}
use Rattle.wdf_law.specs.declared.side.Side.TheVariants.{Whole, A, B}
use Rattle.wdf_law.specs.Network.{Network, source_numbers}
use Rattle.wdf_law.specs.OutputRule.{drive}
use Rattle.wdf_law.specs.Run.{at_end}
use Rattle.wdf_sched.specs.Operations.{Slots}
use Rattle.wdf_sched.specs.Schedules.{ScheduleValue}
use Rattle.wdf_loop.specs.Engines.{slot_of, state_of}
use Rattle.wdf_lattice.specs.declared.engines.Engines.{Engines}
use Rattle.wdf_lattice.specs.declared.engines.Engines.TheVariants.{One, Two}
use Rattle.wdf_lattice.specs.declared.networks.Networks.{Networks}
use Rattle.wdf_lattice.specs.declared.networks.Networks.TheVariants.{Ladder, Lattice}
use Rattle.wdf_lattice.specs.declared.side_runs.SideRuns.{SideRuns}
use Rattle.wdf_lattice.specs.Sides.{sources_driven}
use Rattle.wdf_lattice.specs.Waves.{samples_for, wave_at}
use Rattle.wdf_lattice.specs.SolvedWaves.{solved_family, states_behind}
use Rattle.wdf_lattice.specs.Runners.{NoteOver, ShowLast, ShowsStep, accounts_by, schedule_by, slots_by, states_by}
use Rattle.wdf_lattice.specs.RunSides.{SideOver, SidesOver, networks_by, steps_of}
use Rattle.wdf_lattice.proofs.AccountLemmas.{note_more}
use Rattle.wdf_lattice.proofs.CutLemmas.{last_behind}
use Rattle.wdf_lattice.proofs.FrameLemmas.{interleaved_is}
use Rattle.wdf_lattice.proofs.RunOverLemmas.{over_more, states_agree}
use Rattle.wdf_lattice.proofs.WaveLemmas.{states-append}

-- the step that a side's schedule shows, by its name
shown_by : (n : Network) (s t : ScheduleValue) (guard : ℕ) (z samples : List ℤ) (v : Slots) → t.net ≡ n → Some t ≡ Some s → ShowsStep t z (drive guard n samples) v
    → ShowsStep s z (drive guard s.net samples) v
shown_by n s t guard z samples v net there shows =
    let same : t ≡ s = cc in
    subst (λ (r : ScheduleValue). ShowsStep r z (drive guard r.net samples) v) same
    (subst (λ (m : Network). ShowsStep t z (drive guard m samples) v) (sym net) shows)

-- ---- a ladder

pub one_over : (guard runs : ℕ) (frames : List (List ℤ)) (x y : SideRuns) (waves : List ℤ) → length waves ≡ length frames * runs → y.engine.schedule ≡ x.engine.schedule
    → SideOver x.engine.schedule.net guard runs (length (source_numbers x.engine.schedule.net)) frames x y waves
    → SidesOver (Ladder x.engine.schedule.net) guard runs frames (One x) (One y) waves
one_over guard runs frames x y waves long same over = record {
  on = record {
    waves_are = interleaved_is (length frames) runs (wave_at (networks_by (One x)) (solved_family (networks_by (One x)) guard (states_by (One x)) frames)) waves long (λ f r below few. over.waves_are f r below few);
    states_are = states;
  };
  notes = notes;
  leaves = leaves;
  schedules = schedules;
}
  where
    states : (side : Side) (run : ℕ) → run < runs → states_by (One y) side run ≡ states_behind (networks_by (One x)) guard (states_by (One x)) frames side run
    states Whole run few = over.states_are run few
    states A run few = refl
    states B run few = refl

    notes : NoteOver (networks_by (One x)) guard runs (states_by (One x)) (accounts_by (One x)) (accounts_by (One y)) frames
    notes Whole run few = over.accounts_are run few
    notes A run few = refl
    notes B run few = refl

    leaves : ShowLast (networks_by (One x)) guard runs (states_by (One x)) (One y) frames
    leaves Whole s there run few front last are =
        shown_by x.engine.schedule.net s y.engine.schedule guard (at_end x.engine.schedule.net (state_of x.engine run) (steps_of x.engine.schedule.net guard (length (source_numbers x.engine.schedule.net)) run (state_of x.engine run) front))
        (samples_for (length (source_numbers x.engine.schedule.net)) run last) (slot_of y.engine run) (ap (λ (t : ScheduleValue). t.net) same) there (over.leaves run few front last are)
    leaves A s there run few front last are = absurd (cc)
    leaves B s there run few front last are = absurd (cc)

    schedules : (side : Side) → schedule_by (One y) side ≡ schedule_by (One x) side
    schedules Whole = ap Some same
    schedules A = refl
    schedules B = refl

-- ---- a lattice

-- the wave of a frame and run stands inside
inside : (frames runs f r : ℕ) → f < frames → r < runs → f * runs + r < frames * runs
inside frames runs f r below few =
    let most : (f + 1) * runs ≤ frames * runs = mul-le-mul_right runs (omega (arith, below)) in
    omega (arith, few, most)

pub two_over : (guard runs : ℕ) (frames : List (List ℤ)) (x y x' y' : SideRuns) (first second waves : List ℤ) → length waves ≡ length frames * runs
    → x'.engine.schedule ≡ x.engine.schedule → y'.engine.schedule ≡ y.engine.schedule
    → SideOver x.engine.schedule.net guard runs 1 frames x x' first → SideOver y.engine.schedule.net guard runs 1 frames y y' second
    → ((i : ℕ) → i < length waves → slice_index_or waves i (pos 0) ≡ slice_index_or second i (pos 0) -ℤ slice_index_or first i (pos 0))
    → SidesOver (Lattice x.engine.schedule.net y.engine.schedule.net) guard runs frames (Two x y) (Two x' y') waves
two_over guard runs frames x y x' y' first second waves long same_x same_y over_x over_y less = record {
  on = record {
    waves_are = interleaved_is (length frames) runs (wave_at (networks_by (Two x y)) (solved_family (networks_by (Two x y)) guard (states_by (Two x y)) frames)) waves long
        (λ f r below few.
        let at : f * runs + r < length waves = let within = inside (length frames) runs f r below few in omega (arith, long, within) in
        less (f * runs + r) at ∙ ap₂ (λ (v w : ℤ). v -ℤ w) (over_y.waves_are f r below few) (over_x.waves_are f r below few));
    states_are = states;
  };
  notes = notes;
  leaves = leaves;
  schedules = schedules;
}
  where
    states : (side : Side) (run : ℕ) → run < runs → states_by (Two x' y') side run ≡ states_behind (networks_by (Two x y)) guard (states_by (Two x y)) frames side run
    states Whole run few = refl
    states A run few = over_x.states_are run few
    states B run few = over_y.states_are run few

    notes : NoteOver (networks_by (Two x y)) guard runs (states_by (Two x y)) (accounts_by (Two x y)) (accounts_by (Two x' y')) frames
    notes Whole run few = refl
    notes A run few = over_x.accounts_are run few
    notes B run few = over_y.accounts_are run few

    -- what the slots of a branch show
    branch : (z z' : SideRuns) → z'.engine.schedule ≡ z.engine.schedule → (w : List ℤ) → SideOver z.engine.schedule.net guard runs 1 frames z z' w → (s : ScheduleValue)
        → Some z'.engine.schedule ≡ Some s → (run : ℕ) → run < runs → (front : List (List ℤ)) (last : List ℤ) → frames ≡ front ++ last ∷ []
        → ShowsStep s (at_end z.engine.schedule.net (state_of z.engine run) (steps_of z.engine.schedule.net guard 1 run (state_of z.engine run) front))
        (drive guard s.net (samples_for 1 run last)) (slot_of z'.engine run)
    branch z z' same w over s there run few front last are =
        let n = z.engine.schedule.net in
        shown_by n s z'.engine.schedule guard (at_end n (state_of z.engine run) (steps_of n guard 1 run (state_of z.engine run) front)) (samples_for 1 run last)
        (slot_of z'.engine run) (ap (λ (t : ScheduleValue). t.net) same) there (over.leaves run few front last are)

    leaves : ShowLast (networks_by (Two x y)) guard runs (states_by (Two x y)) (Two x' y') frames
    leaves Whole s there run few front last are = absurd (cc)
    leaves A s there run few front last are = branch x x' same_x first over_x s there run few front last are
    leaves B s there run few front last are = branch y y' same_y second over_y s there run few front last are

    schedules : (side : Side) → schedule_by (Two x' y') side ≡ schedule_by (Two x y) side
    schedules Whole = refl
    schedules A = ap Some same_x
    schedules B = ap Some same_y

-- ---- no frame of a lattice, and more frames

pub two_none : (ns : Networks) (guard runs : ℕ) (x y : SideRuns) → ns ≡ Lattice x.engine.schedule.net y.engine.schedule.net
    → SidesOver ns guard runs [] (Two x y) (Two x y) []
two_none ns guard runs x y is = subst (λ (m : Networks). SidesOver m guard runs [] (Two x y) (Two x y) []) (sym is) none
  where
    states : (side : Side) (run : ℕ) → run < runs → states_by (Two x y) side run ≡ states_behind (networks_by (Two x y)) guard (states_by (Two x y)) [] side run
    states Whole run few = refl
    states A run few = refl
    states B run few = refl

    notes : NoteOver (networks_by (Two x y)) guard runs (states_by (Two x y)) (accounts_by (Two x y)) (accounts_by (Two x y)) []
    notes Whole run few = refl
    notes A run few = refl
    notes B run few = refl

    leaves : ShowLast (networks_by (Two x y)) guard runs (states_by (Two x y)) (Two x y) []
    leaves side s there run few [] last are = absurd (cc)
    leaves side s there run few (f ∷ front) last are = absurd (cc)

    none : SidesOver (networks_by (Two x y)) guard runs [] (Two x y) (Two x y) []
    none = record { on = record { waves_are = refl; states_are = states }; notes = notes; leaves = leaves; schedules = λ side. refl }

pub sides_more : (ns : Networks) (guard runs : ℕ) (xs ys : List (List ℤ)) (es fs gs : Engines) (ws vs : List ℤ) → 1 ≤ length ys
    → SidesOver ns guard runs xs es fs ws → SidesOver ns guard runs ys fs gs vs → SidesOver ns guard runs (xs ++ ys) es gs (ws ++ vs)
sides_more ns guard runs xs ys es fs gs ws vs some front next = record {
  on = over_more ns guard runs (states_by es) (states_by fs) (states_by gs) xs ys ws vs front.on next.on;
  notes = note_more ns guard runs (states_by es) (states_by fs) (accounts_by es) (accounts_by fs) (accounts_by gs) xs ys ws front.on front.notes next.notes;
  leaves = λ side s there run few before last are.
      let behind = last_behind xs ys before last some are in
      let rest = behind.0 in
      let state : states_behind ns guard (states_by fs) rest side run ≡ states_behind ns guard (states_by es) before side run
      = states_agree ns guard (states_behind ns guard (states_by es) xs) (states_by fs) rest side run (front.on.states_are side run few)
      ∙ (sym (states-append ns guard (states_by es) xs rest side run)
      ∙ ap (λ (l : List (List ℤ)). states_behind ns guard (states_by es) l side run) (sym behind.1.1)) in
      subst (λ (z : List ℤ). ShowsStep s z (drive guard s.net (samples_for (sources_driven ns) run last)) (slots_by gs side run)) state
      (next.leaves side s there run few rest last behind.1.0);
  schedules = λ side. next.schedules side ∙ front.schedules side;
}
