-- The engine of one network takes its runs over the frames of a block.
use Rattle.std.proofs.Common.{◌≡◌, ◌≢◌, ℕ, zero, suc, ◌+◌, ◌*◌, ◌/◌, ◌%◌, ◌^◌, ◌-◌, ◌<◌, ◌≤◌, List, [], ◌∷◌, ◌++◌, length, get_or, refl, sym, ap, ap₂, ◌∙◌, subst, arith}
use Rattle.std.specs.Prelude.{ℤ, pos, unsigned_abs, slice_index_or}
use mathlib.Core.Logic.{◌⊎◌, inl, inr}
use Rattle.std.proofs.Math.Nat.{mod-lt, mul-div_cancel, mul-le-mul, pow-le-pow_right}
use Rattle.std.proofs.lemmas.Bool.{cases_lt}
use Rattle.std.proofs.lemmas.Nat.{div-add-mod'}
use Rattle.std.proofs.lemmas.List.{length-append}
use Rattle.std.proofs.lemmas.List.Elements.{All-from_get_or}
use Rattle.std.proofs.lemmas.List.FromFn.{get_or-map-range_with_len}
use Rattle.wdf_algebra.specs.Pieces.{pieces}
use Rattle.wdf_algebra.proofs.PieceLemmas.{length-pieces}
use Rattle.wdf_law.specs.Network.{Network, elements, source_numbers}
use Rattle.wdf_law.specs.Step.{Frame, sent_in}
use Rattle.wdf_law.specs.Run.{states, at_end}
use Rattle.wdf_law.specs.RunOutputs.{load_waves}
use Rattle.wdf_law.specs.OutputRule.{drive}
use Rattle.wdf_law.specs.Laws.{HasOneStep}
use Rattle.wdf_law.specs.Solved.{solved, solved_run}
use Rattle.wdf_bounds.specs.Plans.{PlanOf}
use Rattle.wdf_bounds.specs.WordBound.{word_limit}
use Rattle.wdf_energy.specs.Accounts.{AccountOf, LedgerOf, all_noted}
use Rattle.wdf_sched.specs.Meaning.{Starts, slot_at}
use Rattle.wdf_sched.specs.Schedules.{ScheduleValue}
use Rattle.wdf_loop.specs.Engines.{AreFrames, EngineValue, HoldsLedger, IsBlock, runs_of}
use Rattle.wdf_loop.specs.RunFrames.{RunsOn, samples_of}
use Rattle.wdf_lattice.specs.declared.side_runs.SideRuns.{SideRuns}
use Rattle.wdf_lattice.specs.Waves.{samples_for, wave_in}
use Rattle.wdf_lattice.specs.Runners
use Rattle.wdf_lattice.specs.Runners.{ShowsStep}
use Rattle.wdf_lattice.specs.RunSides.{AreSmall, GoesOver, KeepsSide, drives_of, steps_of}
use Rattle.wdf_lattice.proofs.CutLemmas.{last_piece}
use Rattle.wdf_lattice.proofs.DriveLemmas.{drives_are, run_samples}
use Rattle.wdf_lattice.proofs.SequenceLemmas.{account_made, driven_from, end_made, frame_solved, waves_made}

-- ---- one run

module _ (n : Network) (plan : PlanOf) (one : HasOneStep n) (runs count : ℕ) (input output : List ℤ) (run : ℕ) (few : run < runs) (zs ys : List ℤ) (ups last : ℕ → ℤ)
    (opens closes : AccountOf) (r : RunsOn n plan runs count input output run zs ys ups last opens closes) where
  abbrev sources : ℕ
  sources = length (source_numbers n)

  abbrev samples : ℕ → List ℤ
  samples f = samples_of runs sources run f input

  abbrev wave : ℕ → ℤ
  wave f = slice_index_or output (f * runs + run) (pos 0)

  -- the first frames, by their inputs
  abbrev front : ℕ → List (ℕ → ℤ)
  front f = driven_from n plan.guard samples 0 f

  front_is : (f : ℕ) → drives_of n plan.guard sources run (pieces f (runs * sources) input) ≡ front f
  front_is f = drives_are n plan.guard runs sources run f input few

  -- lead to the states of the run
  leads : (f : ℕ) → f ≤ count → at_end n zs (steps_of n plan.guard sources run zs (pieces f (runs * sources) input)) ≡ r.state f
  leads f most =
      let same : 0 + f ≡ f = omega arith in
      ap (λ (es : List (ℕ → ℤ)). at_end n zs (solved_run n zs es)) (front_is f)
      ∙ (ap (λ (z : List ℤ). at_end n z (solved_run n z (front f))) (sym r.begins)
      ∙ (end_made n plan one samples r.state wave f 0 (λ g low below. r.frames g (omega (arith, below, most))) ∙ ap r.state same))

  pub run_ends : ys ≡ at_end n zs (steps_of n plan.guard sources run zs (pieces count (runs * sources) input))
  run_ends = sym (leads count (omega arith) ∙ r.ends)

  pub run_waves : (f : ℕ) → f < count → wave f ≡ wave_in n (steps_of n plan.guard sources run zs (pieces count (runs * sources) input)) f
  run_waves f below =
      sym
      (ap (λ (es : List (ℕ → ℤ)). get_or (load_waves n (solved_run n zs es)) f (pos 0)) (front_is count)
      ∙ (ap (λ (z : List ℤ). get_or (load_waves n (solved_run n z (front count))) f (pos 0)) (sym r.begins)
      ∙ (ap (λ (ws : List ℤ). get_or ws f (pos 0)) (waves_made n plan one samples r.state wave count 0 (λ g low less. r.frames g (omega (arith, less))))
      ∙ get_or-map-range_with_len wave 0 count f f (pos 0) below (omega arith))))

  pub run_account : closes
      ≡ all_noted n (drives_of n plan.guard sources run (pieces count (runs * sources) input)) (steps_of n plan.guard sources run zs (pieces count (runs * sources) input)) opens
  run_account =
      let same : 0 + count ≡ count = omega arith in
      let less : (f : ℕ) → f < 0 + count → f < count = λ f below. omega (arith, below) in
      sym
      (ap (λ (es : List (ℕ → ℤ)). all_noted n es (solved_run n zs es) opens) (front_is count)
      ∙ (ap₂ (λ (z : List ℤ) (a : AccountOf). all_noted n (front count) (solved_run n z (front count)) a) (sym r.begins) (sym r.opened)
      ∙ (account_made n plan one samples r.state wave r.account count 0 (λ f low below. r.frames f (less f below)) (λ f low below. r.notes f (less f below))
      ∙ (ap r.account same ∙ r.closed))))

  -- in the end the elements' slots hold the waves of the last frame
  pub run_leaves : (s : ScheduleValue) → s.net ≡ n → ((i : ℕ) → last i ≡ ups (slot_at s.down_slots i)) → (before : List (List ℤ)) (final : List ℤ)
      → pieces count (runs * sources) input ≡ before ++ final ∷ []
      → ShowsStep s (at_end n zs (steps_of n plan.guard sources run zs before)) (drive plan.guard n (samples_for sources run final)) ups
  run_leaves s net downs before final are =
      let f = length before in
      let is = last_piece count (runs * sources) input before final are in
      let counted = is.counted in
      let below : f < count = omega (arith, counted) in
      let made = r.frames f below in
      let state : r.state f ≡ at_end n zs (steps_of n plan.guard sources run zs before)
      = sym (ap (λ (fs : List (List ℤ)). at_end n zs (steps_of n plan.guard sources run zs fs)) is.front_is ∙ leads f (omega (arith, below))) in
      let cut : samples f ≡ samples_for sources run final = sym (ap (samples_for sources run) is.last_is ∙ run_samples runs sources run f input few) in
      let up : Starts n (states n (at_end n zs (steps_of n plan.guard sources run zs before))) (drive plan.guard n (samples_for sources run final)) ups
      = subst (λ (xs : List ℤ). Starts n (states n (at_end n zs (steps_of n plan.guard sources run zs before))) (drive plan.guard n xs) ups) cut
      (subst (λ (z : List ℤ). Starts n (states n z) (drive plan.guard n (samples f)) ups) state (r.starts f below counted)) in
      let down : (i : ℕ) → i < length (elements n)
      → ups (slot_at s.down_slots i) ≡ sent_in n (solved n (states n (at_end n zs (steps_of n plan.guard sources run zs before))) (drive plan.guard n (samples_for sources run final))) i
      = λ i inside.
      sym (downs i)
      ∙ (r.sent f below counted i inside
      ∙ (ap (λ (t : Frame). sent_in n t i) (frame_solved n plan (samples f) (r.state f) (r.state (f + 1)) (wave f) one made)
      ∙ (λ j. sent_in n (solved n (states n (state j)) (drive plan.guard n (cut j))) i))) in
      record {
        up = subst (λ (m : Network). Starts m (states m (at_end n zs (steps_of n plan.guard sources run zs before))) (drive plan.guard n (samples_for sources run final)) ups) (sym net) up;
        down = subst (λ (m : Network). (i : ℕ) → i < length (elements m)
            → ups (slot_at s.down_slots i) ≡ sent_in m (solved m (states m (at_end n zs (steps_of n plan.guard sources run zs before))) (drive plan.guard n (samples_for sources run final))) i)
            (sym net) down;
      }

-- ---- all runs of a network

-- a block has just as many frames as there is room for
pub same_count : (runs count made room : ℕ) → 1 ≤ runs → room ≡ made * runs → room ≡ count * runs → made ≡ count
same_count runs count made room some there given =
    sym (mul-div_cancel made (omega (arith, some))) ∙ (ap (λ (k : ℕ). k / runs) (sym there ∙ given) ∙ mul-div_cancel count (omega (arith, some)))

pub made_block : (x : SideRuns) (b : EngineValue) (l : LedgerOf) (input output waves : List ℤ) → 1 ≤ runs_of x.engine
    → Runners.IsBlock (runs_of x.engine) (length (source_numbers x.engine.schedule.net)) x.engine.done x.engine.plan.frames input output
    → ((count : ℕ) → AreFrames x.engine count input output → IsBlock x.engine b count input waves x.ledger l)
    → (count : ℕ) → length output ≡ count * runs_of x.engine → IsBlock x.engine b count input waves x.ledger l
made_block x b l input output waves some are makes count given =
    subst (λ (k : ℕ). IsBlock x.engine b k input waves x.ledger l) (same_count (runs_of x.engine) count are.0 (length output) some are.1.given given)
    (makes are.0 (record { samples = are.1.taken; places = are.1.given; left = are.2 }))

pub side_over : (x y : SideRuns) (count : ℕ) (input output : List ℤ) → HasOneStep x.engine.schedule.net → IsBlock x.engine y.engine count input output x.ledger y.ledger
    → GoesOver count input output x y
side_over x y count input output one block =
    let n = x.engine.schedule.net in
    let plan = x.engine.plan in
    let runs = runs_of x.engine in
    let long : length (pieces count (runs * length (source_numbers n)) input) ≡ count = length-pieces count (runs * length (source_numbers n)) input in
    record {
      states_are = λ run few. run_ends n plan one runs count input output run few _ _ _ _ _ _ (block.on run few);
      waves_are = λ frame run below few. run_waves n plan one runs count input output run few _ _ _ _ _ _ (block.on run few) frame (omega (arith, below, long));
      accounts_are = λ run few. run_account n plan one runs count input output run few _ _ _ _ _ _ (block.on run few);
      leaves = λ run few front last are.
          run_leaves n plan one runs count input output run few _ _ _ _ _ _ (block.on run few) y.engine.schedule (ap (λ (s : ScheduleValue). s.net) block.schedules) (λ i. refl) front last are;
    }

pub side_kept : (x y : SideRuns) (count : ℕ) (input output : List ℤ) → 1 ≤ count → IsBlock x.engine y.engine count input output x.ledger y.ledger → KeepsSide count x y
side_kept x y count input output some block = record {
  schedule = block.schedules;
  plans = block.plans;
  counted = block.runs;
  done = block.done;
  held = block.ledger;
  still = λ none. absurd (omega (arith, some, none));
}

-- over none
pub none_over : (x : SideRuns) (input waves : List ℤ) → GoesOver 0 input waves x x
none_over x input waves = record {
  states_are = λ run few. refl;
  waves_are = λ frame run below few. absurd (omega (arith, below));
  accounts_are = λ run few. refl;
  leaves = λ run few front last are.
      let sizes : 0 ≡ length front + 1 = ap length are ∙ length-append front (last ∷ []) in
      absurd (omega (arith, sizes));
}

pub none_kept : (x : SideRuns) → HoldsLedger x.engine x.ledger → KeepsSide 0 x x
none_kept x held = record { schedule = refl; plans = refl; counted = refl; done = omega arith; held = held; still = λ none. refl }

-- so many there are
pub some_count : (runs count room : ℕ) → room ≢ 0 → room ≡ count * runs → 1 ≤ count
some_count runs zero room full given = absurd (full (given ∙ omega arith))
some_count runs (suc count) room full given = omega arith

pub no_count : (runs count room : ℕ) → 1 ≤ runs → room ≡ 0 → room ≡ count * runs → 0 ≡ count
no_count runs count room some none given = same_count runs count 0 room some (none ∙ omega arith) given

-- none of whose load waves is larger than a word
word_small : (plan : PlanOf) (z : ℤ) → unsigned_abs z ≤ word_limit plan → unsigned_abs z ≤ 2 ^ 60
word_small plan z within =
    let least : 60 - plan.k ≤ 60 = omega arith in
    let whole : 2 ^ (60 - plan.k) ≤ 2 ^ 60 = pow-le-pow_right (omega arith) least in
    omega (arith, within, whole)

pub all_small : (plan : PlanOf) (runs count : ℕ) (output : List ℤ) → length output ≡ count * runs
    → ((f run : ℕ) → f < count → run < runs → unsigned_abs (slice_index_or output (f * runs + run) (pos 0)) ≤ word_limit plan) → AreSmall output
all_small plan runs count output long words = All-from_get_or (λ (w : ℤ). unsigned_abs w ≤ 2 ^ 60) output (pos 0) (λ i inside. by i inside (cases_lt 0 runs))
  where
    frame : (i : ℕ) → 0 < runs → i < length output → count ≤ i / runs → ⊥
    frame i some inside past =
        let whole : i / runs * runs + i % runs ≡ i = div-add-mod' i runs in
        let more : count * runs ≤ i / runs * runs = mul-le-mul past (omega arith) in
        omega (arith, more, whole, inside, long)

    at : (i : ℕ) → 0 < runs → i < length output → (i / runs < count) ⊎ (count ≤ i / runs) → unsigned_abs (slice_index_or output i (pos 0)) ≤ 2 ^ 60
    at i some inside (inl less) =
        subst (λ (k : ℕ). unsigned_abs (slice_index_or output k (pos 0)) ≤ 2 ^ 60) (div-add-mod' i runs)
        (word_small plan (slice_index_or output (i / runs * runs + i % runs) (pos 0)) (words (i / runs) (i % runs) less (mod-lt i some)))
    at i some inside (inr more) = absurd (frame i some inside more)

    by : (i : ℕ) → i < length output → (0 < runs) ⊎ (runs ≤ 0) → unsigned_abs (slice_index_or output i (pos 0)) ≤ 2 ^ 60
    by i inside (inl some) = at i some inside (cases_lt (i / runs) count)
    by i inside (inr none) =
        let zero_runs : runs ≡ 0 = omega (arith, none) in
        let empty : count * runs ≡ 0 = rw zero_runs (omega arith) in
        absurd (omega (arith, inside, long, empty))
