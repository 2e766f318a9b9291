-- So many frames of a block take the runs of all networks on.
use Rattle.std.proofs.Common.{◌≡◌, ℕ, ◌+◌, ◌-◌, ◌*◌, ◌<◌, ◌≤◌, ◌-ℤ◌, List, [], ◌++◌, length, take, drop, refl, sym, ap, ◌∙◌, subst, arith}
use Rattle.std.specs.Prelude.{ℤ, pos, slice_index_or}
use Rattle.std.proofs.Math.Nat.{add-mul, mul-le-mul, mul-le-mul_right}
use Rattle.std.proofs.lemmas.Slice.{take-put_mid}
use borrow.Rule.Slice.PartMut.{put_mid}
use Rattle.wdf_algebra.specs.Pieces.{pieces}
use Rattle.wdf_algebra.proofs.PieceLemmas.{length-pieces}
use Rattle.wdf_law.specs.declared.side.Side.{Side}
use Rattle.wdf_law.specs.declared.side.Side.TheVariants.{Whole, A, B}
use Rattle.wdf_law.specs.Network.{Network, source_numbers}
use Rattle.wdf_bounds.specs.Plans.{PlanOf}
use Rattle.wdf_loop.specs.Engines.{runs_of}
use Rattle.wdf_lattice.specs.declared.engines.Engines.{Engines}
use Rattle.wdf_lattice.specs.declared.engines.Engines.TheVariants.{One, Two}
use Rattle.wdf_lattice.specs.declared.networks.Networks.{Networks}
use Rattle.wdf_lattice.specs.declared.networks.Networks.TheVariants.{Ladder, Lattice}
use Rattle.wdf_lattice.specs.declared.side_runs.SideRuns.{SideRuns}
use Rattle.wdf_lattice.specs.Sides.{sources_driven}
use Rattle.wdf_lattice.specs.Waves.{frames_of}
use Rattle.wdf_lattice.specs.Runners.{DriveAll, IsBlock, slots_by}
use Rattle.wdf_lattice.specs.RunSides.{AreAlike, GoOn, GoesOver, KeepsSide, SideOver, SidesOver, networks_by, plan_by, runs_by}
use Rattle.wdf_lattice.proofs.CutLemmas.{cut, cut_long, frames_pieces, pieces_split, pieces_taken}
use Rattle.wdf_lattice.proofs.SidesLemmas.{one_over, sides_more, two_none, two_over}

-- the frames of a network's own samples
abbrev own_frames : SideRuns → (count : ℕ) → List ℤ → List (List ℤ)
own_frames x count input = pieces count (runs_of x.engine * length (source_numbers x.engine.schedule.net)) input

pub go_one : (x y : SideRuns) (count : ℕ) (input output : List ℤ) → length output ≡ count * runs_of x.engine → KeepsSide count x y → GoesOver count input output x y
    → GoOn count input output (One x) (One y)
go_one x y count input output long kept over =
    let frames : length (own_frames x count input) ≡ count = length-pieces count (runs_of x.engine * length (source_numbers x.engine.schedule.net)) input in
    record {
      alike = kept.held;
      networks_are = λ i. Ladder (kept.schedule i).net;
      plan_is = kept.plans;
      runs_are = kept.counted;
      done = kept.done;
      still = λ none. one_still (kept.still none);
      over = one_over x.engine.plan.guard (runs_of x.engine) (own_frames x count input) x y output (long ∙ ap (λ (k : ℕ). k * runs_of x.engine) (sym frames)) kept.schedule over;
    }
  where
    one_still : y.engine.slots ≡ x.engine.slots → (side : Side) (run slot : ℕ) → slots_by (One y) side run slot ≡ slots_by (One x) side run slot
    one_still same Whole run slot = ap (λ (l : List (List ℤ)). slice_index_or (slice_index_or l run []) slot (pos 0)) same
    one_still same A run slot = refl
    one_still same B run slot = refl

-- by other numbers
side_by : (n : Network) (guard guard' runs runs' sources sources' count : ℕ) (input waves : List ℤ) (x y : SideRuns) → guard ≡ guard' → runs ≡ runs' → sources ≡ sources'
    → SideOver n guard runs sources (pieces count (runs * sources) input) x y waves → SideOver n guard' runs' sources' (pieces count (runs' * sources') input) x y waves
side_by n guard guard' runs runs' sources sources' count input waves x y same_guard same_runs same_sources over =
    subst (λ (k : ℕ). SideOver n guard' runs' k (pieces count (runs' * k) input) x y waves) same_sources
    (subst (λ (k : ℕ). SideOver n guard' k sources (pieces count (k * sources) input) x y waves) same_runs
    (subst (λ (k : ℕ). SideOver n k runs sources (pieces count (runs * sources) input) x y waves) same_guard over))

two_still : (x y x' y' : SideRuns) → x'.engine.slots ≡ x.engine.slots → y'.engine.slots ≡ y.engine.slots
    → (side : Side) (run slot : ℕ) → slots_by (Two x' y') side run slot ≡ slots_by (Two x y) side run slot
two_still x y x' y' first second Whole run slot = refl
two_still x y x' y' first second A run slot = ap (λ (l : List (List ℤ)). slice_index_or (slice_index_or l run []) slot (pos 0)) first
two_still x y x' y' first second B run slot = ap (λ (l : List (List ℤ)). slice_index_or (slice_index_or l run []) slot (pos 0)) second

pub go_two : (x y x' y' : SideRuns) (count : ℕ) (input first second output : List ℤ) → length output ≡ count * runs_of x.engine → AreAlike (Two x y)
    → DriveAll (networks_by (Two x y)) (runs_of x.engine) → KeepsSide count x x' → KeepsSide count y y' → GoesOver count input first x x' → GoesOver count input second y y'
    → ((i : ℕ) → i < length output → slice_index_or output i (pos 0) ≡ slice_index_or second i (pos 0) -ℤ slice_index_or first i (pos 0))
    → GoOn count input output (Two x y) (Two x' y')
go_two x y x' y' count input first second output long alike driven kept_x kept_y over_x over_y less =
    let runs = runs_of x.engine in
    let guard = x.engine.plan.guard in
    let frames : length (pieces count (runs * 1) input) ≡ count = length-pieces count (runs * 1) input in
    record {
      alike = (
        kept_x.held,
        kept_y.held,
        kept_y.plans ∙ (alike.2 ∙ sym kept_x.plans),
        kept_y.counted ∙ (alike.3 ∙ sym kept_x.counted),
        kept_y.done ∙ (ap (λ (d : ℕ). d + count) alike.4 ∙ sym kept_x.done),
      );
      networks_are = λ i. Lattice (kept_x.schedule i).net (kept_y.schedule i).net;
      plan_is = kept_x.plans;
      runs_are = kept_x.counted;
      done = kept_x.done;
      still = λ none. two_still x y x' y' (kept_x.still none) (kept_y.still none);
      over = two_over guard runs (pieces count (runs * 1) input) x y x' y' first second output (long ∙ ap (λ (k : ℕ). k * runs) (sym frames)) kept_x.schedule kept_y.schedule
          (side_by x.engine.schedule.net guard guard runs runs (length (source_numbers x.engine.schedule.net)) 1 count input first x x' refl refl driven.0 over_x)
          (side_by y.engine.schedule.net y.engine.plan.guard guard (runs_of y.engine) runs (length (source_numbers y.engine.schedule.net)) 1 count input second y y'
          (ap (λ (p : PlanOf). p.guard) alike.2) alike.3 driven.1 over_y)
          less;
    }

-- none, and more of them
pub go_none : (x y : SideRuns) (input : List ℤ) → AreAlike (Two x y) → GoOn 0 input [] (Two x y) (Two x y)
go_none x y input alike = record {
  alike = alike;
  networks_are = refl;
  plan_is = refl;
  runs_are = refl;
  done = omega arith;
  still = λ none side run slot. refl;
  over = two_none (networks_by (Two x y)) x.engine.plan.guard (runs_of x.engine) x y refl;
}

-- by other networks, plans and runs
pub sides_by : (ns ms : Networks) (guard guard' runs runs' count : ℕ) (piece waves : List ℤ) (fs gs : Engines) → ns ≡ ms → guard ≡ guard' → runs ≡ runs'
    → SidesOver ns guard runs (pieces count (runs * sources_driven ns) piece) fs gs waves → SidesOver ms guard' runs' (pieces count (runs' * sources_driven ms) piece) fs gs waves
sides_by ns ms guard guard' runs runs' count piece waves fs gs same_networks same_guard same_runs over =
    subst (λ (m : Networks). SidesOver m guard' runs' (pieces count (runs' * sources_driven m) piece) fs gs waves) same_networks
    (subst (λ (k : ℕ). SidesOver ns guard' k (pieces count (k * sources_driven ns) piece) fs gs waves) same_runs
    (subst (λ (k : ℕ). SidesOver ns k runs (pieces count (runs * sources_driven ns) piece) fs gs waves) same_guard over))

pub go_more : (m k : ℕ) (input piece ws vs : List ℤ) (es fs gs : Engines) → 1 ≤ k
    → piece ≡ take (k * (runs_by es * sources_driven (networks_by es))) (drop (m * (runs_by es * sources_driven (networks_by es))) input)
    → GoOn m input ws es fs → GoOn k piece vs fs gs → GoOn (m + k) input (ws ++ vs) es gs
go_more m k input piece ws vs es fs gs some cut front next =
    let ns = networks_by es in
    let guard = (plan_by es).guard in
    let runs = runs_by es in
    let size = runs * sources_driven ns in
    let long : length (pieces k size piece) ≡ k = length-pieces k size piece in
    let moved : SidesOver ns guard runs (pieces k size piece) fs gs vs
    = sides_by (networks_by fs) ns (plan_by fs).guard guard (runs_by fs) runs k piece vs fs gs front.networks_are (ap (λ (p : PlanOf). p.guard) front.plan_is) front.runs_are next.over in
    let frames : pieces m size input ++ pieces k size piece ≡ pieces (m + k) size input
    = ap (λ (l : List (List ℤ)). pieces m size input ++ l) (ap (pieces k size) cut ∙ pieces_taken k size (drop (m * size) input)) ∙ sym (pieces_split m k size input) in
    let counted = front.done in
    let more = next.done in
    record {
      alike = next.alike;
      networks_are = next.networks_are ∙ front.networks_are;
      plan_is = next.plan_is ∙ front.plan_is;
      runs_are = next.runs_are ∙ front.runs_are;
      done = omega (arith, counted, more);
      still = λ none. absurd (omega (arith, some, none));
      over = subst (λ (fr : List (List ℤ)). SidesOver ns guard runs fr es gs (ws ++ vs)) frames
          (sides_more ns guard runs (pieces m size input) (pieces k size piece) es fs gs ws vs (omega (arith, some, long)) front.over moved);
    }

-- ---- a piece of a block

-- it is a block of the runs that made the pieces before it
pub piece_fits : (runs own done now frames own_frames made k count : ℕ) (input output : List ℤ) → own ≡ runs → now ≡ done + made → own_frames ≡ frames → made + k ≤ count
    → length input ≡ count * (runs * 1) → length output ≡ count * runs → done + count ≤ frames
    → IsBlock own 1 now own_frames (take ((made + k) * runs - made * runs) (drop (made * runs) input)) (take ((made + k) * runs - made * runs) (drop (made * runs) output))
piece_fits runs own done now frames own_frames made k count input output same since all inside taken given left = (
  k,
  record {
    taken = cut_long made k count runs input inside (taken ∙ ap (λ (n : ℕ). count * n) single) ∙ ap (λ (n : ℕ). k * n) (sym single ∙ ap (λ (n : ℕ). n * 1) (sym same));
    given = cut_long made k count runs output inside given ∙ ap (λ (n : ℕ). k * n) (sym same);
  },
  omega (arith, since, all, inside, left),
)
  where
    single : runs * 1 ≡ runs
    single = omega arith

-- and takes them on
pub go_next : (runs made k count : ℕ) (input output new : List ℤ) (x y : SideRuns) (fs gs : Engines) → 1 ≤ k → runs ≡ runs_of x.engine → made + k ≤ count → length output ≡ count * runs
    → length new ≡ k * runs → GoOn made input (take (made * runs) output) (Two x y) fs → GoOn k (take ((made + k) * runs - made * runs) (drop (made * runs) input)) new fs gs
    → GoOn (made + k) input (take ((made + k) * runs) (put_mid (made * runs) ((made + k) * runs - made * runs) output new)) (Two x y) gs
go_next runs made k count input output new x y fs gs some same inside given long front next =
    let size : runs ≡ runs_of x.engine * 1 = omega (arith, same) in
    let piece = take ((made + k) * runs - made * runs) (drop (made * runs) input) in
    let whole : (made + k) * runs ≡ made * runs + k * runs = add-mul made k runs in
    let most : (made + k) * runs ≤ count * runs = mul-le-mul_right runs inside in
    let both = go_more made k input piece (take (made * runs) output) new (Two x y) fs gs some
    (cut made k runs input ∙ (λ i. take (k * size i) (drop (made * size i) input))) front next in
    let written : take ((made + k) * runs) (put_mid (made * runs) ((made + k) * runs - made * runs) output new) ≡ take (made * runs) output ++ new
    = take-put_mid (made * runs) ((made + k) * runs - made * runs) output new ((made + k) * runs) (omega (arith, whole, long)) (omega (arith, whole, most, given)) in
    subst (λ (ws : List ℤ). GoOn (made + k) input ws (Two x y) gs) (sym written) both

-- ---- by a runner's fields

pub runner_over : (ns : Networks) (plan : PlanOf) (runs sources count : ℕ) (es fs : Engines) (input waves : List ℤ) → 0 < runs → 1 ≤ sources → sources ≡ sources_driven ns → networks_by es ≡ ns
    → plan_by es ≡ plan → runs_by es ≡ runs → length input ≡ count * (runs * sources_driven ns) → GoOn count input waves es fs
    → SidesOver ns plan.guard runs (frames_of ns runs input) es fs waves
runner_over ns plan runs sources count es fs input waves some each driven networks plans same taken gone =
    let some_run : 1 ≤ runs = omega (arith, some) in
    let some_source : 1 ≤ sources_driven ns = omega (arith, each, driven) in
    let size : 1 * 1 ≤ runs * sources_driven ns = mul-le-mul some_run some_source in
    subst (λ (fr : List (List ℤ)). SidesOver ns plan.guard runs fr es fs waves)
    (sym (frames_pieces ns runs (sources_driven ns) count input (omega (arith, size)) refl taken))
    (sides_by (networks_by es) ns (plan_by es).guard plan.guard (runs_by es) runs count input waves es fs networks (ap (λ (p : PlanOf). p.guard) plans) same gone.over)
