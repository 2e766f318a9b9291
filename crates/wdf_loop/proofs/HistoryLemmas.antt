-- A run that stands may go on for as many frames as its plan has: the values of its slots are those of the reference steps.
use Rattle.std.proofs.Common.{◌≡◌, ℕ, ◌+◌, ◌*◌, ◌<◌, ◌≤◌, ◌^◌, Bool, true, false, cond, List, length}
use Rattle.std.specs.Prelude.{ℤ, unsigned_abs}
use Rattle.wdf_law.specs.Laws.{HasOneStep}
use Rattle.wdf_law.specs.Network.{unit_of}
use Rattle.wdf_law.specs.Run.{source_values, states}
use Rattle.wdf_law.specs.TreeRules.{HasNumbers}
use Rattle.wdf_bounds.specs.HeldWords.{HoldsWords, IsInput}
use Rattle.wdf_bounds.specs.Plans.{PlanOf}
use Rattle.wdf_bounds.specs.WordBound.{word_limit}
use Rattle.wdf_sched.specs.Carrying.{HasValues}
use Rattle.wdf_sched.specs.Operations.{AreWithin, Slots}
use Rattle.wdf_sched.specs.Schedules.{IsSchedule, ScheduleValue}
use Rattle.wdf_loop.specs.declared.cell.Cell.{Cell}
use Rattle.wdf_loop.specs.declared.chain.Chain.{Chain}
use Rattle.wdf_loop.specs.declared.feed.Feed.{Feed}
use Rattle.wdf_loop.specs.declared.mark.Mark.{Mark}
use Rattle.wdf_loop.specs.declared.part.Part.{Part}
use Rattle.wdf_loop.specs.declared.share.Share.{Share}
use Rattle.wdf_loop.specs.Blocks.{CanRun, frame_values}
use Rattle.wdf_loop.specs.Layouts.{IsLayout, mark_at}
use Rattle.wdf_loop.specs.NextFrames.{Stands, slots_from, state_in}
use Rattle.wdf_loop.specs.Parts.{sent_slot}
use Rattle.wdf_loop.specs.Shows.{AllShow, AreFed}
use Rattle.wdf_loop.proofs.NextLemmas.{next_at}

-- what a part is sent is a word
pub part_small : (s : ScheduleValue) (shares : List Share) (marks : List Mark) (chains : List Chain) (feeds : List Feed) (limit : ℕ) (g : Slots) → (lay : IsLayout s shares marks chains feeds)
    → AreWithin (unit_of s.net) limit g s.ops → (p : Part) → p.stage ≤ lay.root → unsigned_abs (g (sent_slot p (mark_at marks p.stage))) ≤ limit
part_small s shares marks chains feeds limit g lay within p most = by p.beside
  where
    by : (b : Bool) → unsigned_abs (g (cond b (mark_at marks p.stage).down (mark_at marks p.stage).onward)) ≤ limit
    by true = ((lay.small p.stage most).waves limit g within).2
    by false = ((lay.small p.stage most).waves limit g within).3

-- the run c, done frames of which are done, over a block
unfoldable pub can_run : (q root : ℕ) (s : ScheduleValue) (plan : PlanOf) (done : ℕ) (shares : List Share) (marks : List Mark) (chains : List Chain) (feeds : List Feed) (count : ℕ)
    (old : List ℤ) (before : Slots) (cells : List (List Cell)) (rows : List (List ℤ)) (c : ℕ)
    → (lay : IsLayout s shares marks chains feeds) → lay.root ≡ root → unit_of s.net ≡ q → unit_of s.net * word_limit plan ≤ 2 ^ 60
    → IsSchedule s → (values : HasValues s) → HasNumbers s.net → HasOneStep s.net → HoldsWords s.net plan
    → Stands s plan done before → AllShow lay.root shares marks before cells c → AreFed lay.root chains feeds old cells c
    → done + count ≤ plan.frames → ((f : ℕ) → f < count → IsInput s.net plan (source_values s.net (frame_values (length feeds) rows f c)))
    → CanRun q root shares chains feeds count cells rows c
can_run q root s plan done shares marks chains feeds count old before cells rows c lay last unit words rules values numbers one holds stands shows fed frames input = record {
  schedule = s;
  marks = marks;
  layout = lay;
  last = last;
  unit = unit;
  limit = word_limit plan;
  words = words;
  states = λ f. states s.net (state_in s (slots_from s values (λ (i : ℕ). frame_values (length feeds) rows i c) before f));
  old = old;
  slots = slots_from s values (λ (i : ℕ). frame_values (length feeds) rows i c) before;
  follows = λ f h. (next_at s plan done (λ (i : ℕ). frame_values (length feeds) rows i c) before rules values numbers one holds stands count frames input f h).follows;
  shows = shows;
  fed = fed;
}
