-- One frame more of a block.
use Rattle.std.proofs.Common.{◌≡◌, ℕ, suc, ◌+◌, ◌-◌, ◌*◌, ◌<◌, ◌≤◌, ◌^◌, Bool, true, false, cond, List, [], length, length-take-le, take, drop, sym, ◌∙◌, subst, arith}
use Rattle.std.specs.Prelude.{ℤ, slice_index_or, unsigned_abs}
use Rattle.std.proofs.lemmas.List.{get_or-drop, get_or-take, length-drop}
use Rattle.std.proofs.lemmas.Bool.{cases_lt}
use Rattle.std.proofs.Math.Nat.{mul-le-mul}
use mathlib.Core.Logic.{◌⊎◌, inl, inr}
use Rattle.wdf_sched.specs.Operations.{Slots}
use Rattle.wdf_loop.specs.declared.cell.Cell.{Cell}
use Rattle.wdf_loop.specs.declared.chain.Chain.{Chain}
use Rattle.wdf_loop.specs.declared.feed.Feed.{Feed}
use Rattle.wdf_loop.specs.declared.mark.Mark.{Mark}
use Rattle.wdf_loop.specs.declared.part.Part.{Part}
use Rattle.wdf_loop.specs.declared.share.Share.{Share}
use Rattle.wdf_loop.specs.Blocks.{AllCanRun, CanRun, HasRun, HaveRun, HoldSent, frame_rows, frame_values}
use Rattle.wdf_loop.specs.Layouts.{mark_at}
use Rattle.wdf_loop.specs.Parts.{AreWithin, part_at, sent_last, sent_slot, sent_to, watched_in}
use Rattle.wdf_loop.specs.RunCells.{wave_in}
use Rattle.wdf_loop.specs.Runs.{cell_at}
use Rattle.wdf_loop.specs.Shows.{AllShow, AreSmallValues}
use Rattle.wdf_loop.specs.Steps.{AllCanStep, CanStep, HaveStepped}
use Rattle.wdf_loop.proofs.PlaceLemmas.{ahead}

-- what a part is sent is the value of its slot
pub part-sent : (root : ℕ) (shares : List Share) (marks : List Mark) (g : Slots) (cells : List (List Cell)) (c : ℕ) (p : Part) → AllShow root shares marks g cells c → p.stage ≤ root
    → sent_to p (cell_at cells p.stage c) ≡ g (sent_slot p (mark_at marks p.stage))
part-sent root shares marks g cells c p shows h = by p.beside
  where
    by : (b : Bool) → cond b (cell_at cells p.stage c).down (cell_at cells p.stage c).onward ≡ g (cond b (mark_at marks p.stage).down (mark_at marks p.stage).onward)
    by true = (shows.stages p.stage h).down
    by false = (shows.stages p.stage h).onward

-- no frame is done
pub run_none : (runs q root : ℕ) (shares : List Share) (chains : List Chain) (feeds : List Feed) (watched : List Part) (count : ℕ) (cells : List (List Cell)) (rows waves : List (List ℤ))
    → HaveRun runs q root shares chains feeds watched count 0 cells rows cells waves
run_none runs q root shares chains feeds watched count cells rows waves c small p = record { shows = p.shows; values = p.old; fed = p.fed; sent = λ f h. absurd (omega arith) }

-- the rows of a frame are among all
pub frame_inside : (f count n long : ℕ) → f < count → long ≡ count * n → f * n + n ≤ long
frame_inside f count n long h e =
    let least : suc f * n ≤ count * n = mul-le-mul h (omega arith) in
    let next : suc f * n ≡ f * n + n = omega arith in
    omega arith

-- and its step can be made
can-step : (q root : ℕ) (shares : List Share) (chains : List Chain) (feeds : List Feed) (watched : List Part) (count f : ℕ) (before cells : List (List Cell)) (rows waves : List (List ℤ)) (c : ℕ) → f < count
    → (p : CanRun q root shares chains feeds count before rows c) → HasRun p.layout.root shares chains feeds watched p.marks p.slots f cells waves c
    → CanStep q root shares chains feeds cells (frame_values (length feeds) rows f c) c
can-step q root shares chains feeds watched count f before cells rows waves c h p now = record {
  schedule = p.schedule;
  marks = p.marks;
  layout = p.layout;
  last = p.last;
  unit = p.unit;
  limit = p.limit;
  words = p.words;
  states = p.states f;
  old = now.values;
  before = p.slots f;
  after = p.slots (f + 1);
  follows = p.follows f h;
  shows = now.shows;
  fed = now.fed;
}

pub all_can_step : (runs q root : ℕ) (shares : List Share) (chains : List Chain) (feeds : List Feed) (watched : List Part) (count f : ℕ) (before cells : List (List Cell)) (rows waves : List (List ℤ)) → f < count
    → AllCanRun runs q root shares chains feeds count before rows → HaveRun runs q root shares chains feeds watched count f before rows cells waves
    → AllCanStep runs q root shares chains feeds cells (frame_rows (length feeds) rows f)
all_can_step runs q root shares chains feeds watched count f before cells rows waves h all run c small =
    can-step q root shares chains feeds watched count f before cells rows waves c h (all c small) (run c small (all c small))

-- its values are small
pub frame_small : (runs n f : ℕ) (rows : List (List ℤ)) → f * n + n ≤ length rows → AreSmallValues runs rows → AreSmallValues runs (frame_rows n rows f)
frame_small runs n f rows inside small i c h few =
    let rest : length (drop (f * n) rows) ≡ length rows - f * n = length-drop (f * n) rows in
    let all : length (take n (drop (f * n) rows)) ≡ n = length-take-le n (drop (f * n) rows) (omega arith) in
    let low : i < n = omega arith in
    let at : slice_index_or (frame_rows n rows f) i [] ≡ slice_index_or rows (f * n + i) [] = get_or-take n (drop (f * n) rows) i [] low ∙ get_or-drop (f * n) rows i [] in
    subst (λ (row : List ℤ). unsigned_abs (wave_in row c) ≤ 2 ^ 60) (sym at) (small (f * n + i) c (omega arith) few)

-- one frame more
pub run_more : (runs q root : ℕ) (shares : List Share) (chains : List Chain) (feeds : List Feed) (watched : List Part) (count f : ℕ) (before cells after : List (List Cell)) (rows waves behind : List (List ℤ)) → f < count
    → AreWithin (root + 1) watched → HaveRun runs q root shares chains feeds watched count f before rows cells waves
    → HaveStepped runs q root shares chains feeds cells (frame_rows (length feeds) rows f) after
    → ((i c : ℕ) → i < length watched → c < runs → watched_in (length watched) behind i f c ≡ sent_last watched after c i)
    → ((k : ℕ) → k < f * length watched → slice_index_or behind k [] ≡ slice_index_or waves k [])
    → HaveRun runs q root shares chains feeds watched count (f + 1) before rows after behind
unfolding can-step
run_more runs q root shares chains feeds watched count f before cells after rows waves behind h inside run stepped own same c small p =
    let now = run c small p in
    let s = can-step q root shares chains feeds watched count f before cells rows waves c h p now in
    let shown = stepped c small s in
    record {
      shows = shown.0;
      values = frame_values (length feeds) rows f c;
      fed = shown.1;
      sent = λ k less. sent k less now.sent shown.0 (cases_lt k f);
    }
  where
    sent : (k : ℕ) → k < f + 1 → ((e : ℕ) → e < f → HoldSent watched p.marks p.slots waves c e) → AllShow p.layout.root shares p.marks (p.slots (f + 1)) after c
        → (k < f) ⊎ (f ≤ k) → HoldSent watched p.marks p.slots behind c k
    sent k less so_far shown (inl under) i few =
        let place = ahead k f (length watched) under in
        (λ t. wave_in (same (k * length watched + i) (omega (arith, place, few)) t) c) ∙ so_far k under i few
    sent k less so_far shown (inr over) i few =
        let at : f ≡ k = omega (arith, less, over) in
        let last = p.last in
        let most : (part_at watched i).stage ≤ p.layout.root = omega (arith, inside i few, last) in
        subst (λ (e : ℕ). watched_in (length watched) behind i e c ≡ p.slots (e + 1) (sent_slot (part_at watched i) (mark_at p.marks (part_at watched i).stage))) at
        (own i c few small ∙ part-sent p.layout.root shares p.marks (p.slots (f + 1)) after c (part_at watched i) shown most)
