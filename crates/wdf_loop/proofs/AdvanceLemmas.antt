-- Runs that go on by a block: what the block wants, and what it leaves.
use Rattle.std.proofs.Common.{◌≡◌, ℕ, ◌+◌, ◌-◌, ◌*◌, ◌<◌, ◌≤◌, ◌^◌, List, length, refl, ap, sym, ◌∙◌, subst, arith}
use Rattle.std.specs.Prelude.{ℤ}
use Rattle.wdf_law.specs.Laws.{HasOneStep}
use Rattle.wdf_law.specs.Network.{absorbing_numbers, unit_of}
use Rattle.wdf_law.specs.TreeRules.{HasNumbers}
use Rattle.wdf_bounds.specs.HeldWords.{HoldsWords}
use Rattle.wdf_bounds.specs.Plans.{PlanOf}
use Rattle.wdf_bounds.specs.WordBound.{word_limit}
use Rattle.wdf_sched.specs.Carrying.{HasValues}
use Rattle.wdf_sched.specs.Schedules.{IsSchedule, ScheduleValue}
use Rattle.wdf_loop.specs.declared.cell.Cell.{Cell}
use Rattle.wdf_loop.specs.declared.chain.Chain.{Chain}
use Rattle.wdf_loop.specs.declared.feed.Feed.{Feed}
use Rattle.wdf_loop.specs.declared.mark.Mark.{Mark}
use Rattle.wdf_loop.specs.declared.part.Part.{Part}
use Rattle.wdf_loop.specs.declared.share.Share.{Share}
use Rattle.wdf_loop.specs.Advances.{AllAreAt, AllGoOn, AreInputs, IsAt, root_of}
use Rattle.wdf_loop.specs.Blocks.{AllCanRun, CanRun, HaveRun, frame_values}
use Rattle.wdf_loop.specs.Frames.{AreSigns}
use Rattle.wdf_loop.specs.Layouts.{IsLayout, IsRowOfChains, feed_at, mark_at}
use Rattle.wdf_loop.specs.NextFrames.{slots_from}
use Rattle.wdf_loop.specs.Parts.{AreParts, AreWithin, absorbing_at, part_at, sent_slot, watched_in}
use Rattle.wdf_loop.specs.Runs.{AreShares}
use Rattle.wdf_loop.specs.Shows.{AllShow, AreFed}
use Rattle.wdf_loop.proofs.HistoryLemmas.{can_run}
use Rattle.wdf_loop.proofs.NextLemmas.{next_at, plan_words, stands_at}
use Rattle.wdf_loop.proofs.StepLemmas.{are-shares, are-signs}

pub last_root : (s : ScheduleValue) (shares : List Share) (marks : List Mark) (chains : List Chain) (feeds : List Feed) → (lay : IsLayout s shares marks chains feeds) → lay.root ≡ root_of shares
last_root s shares marks chains feeds lay = let count = lay.shares_count in omega arith

-- the words of a plan whose width is the network's
pub fitting_words : (s : ScheduleValue) (plan : PlanOf) → plan.k ≡ s.net.k → s.net.k ≤ 20 → unit_of s.net * word_limit plan ≤ 2 ^ 60
fitting_words s plan width few = subst (λ (k : ℕ). 2 ^ s.net.k * 2 ^ (60 - k) ≤ 2 ^ 60) (sym width) (plan_words s.net.k (omega arith))

-- what a run needs to go on
pub record CanGoOn (s : ScheduleValue) (plan : PlanOf) (done count : ℕ) (shares : List Share) (marks : List Mark) (chains : List Chain) (feeds : List Feed) (absorbing : List Part) : Type 0 where
  pub layout : IsLayout s shares marks chains feeds
  pub words : unit_of s.net * word_limit plan ≤ 2 ^ 60
  pub parts : AreParts s (root_of shares) marks (length (absorbing_numbers s.net)) (absorbing_at s.net) absorbing
  pub rules : IsSchedule s
  pub values : HasValues s
  pub numbers : HasNumbers s.net
  pub one : HasOneStep s.net
  pub holds : HoldsWords s.net plan
  pub frames : done + count ≤ plan.frames

run_at : (s : ScheduleValue) (plan : PlanOf) (done count : ℕ) (shares : List Share) (marks : List Mark) (chains : List Chain) (feeds : List Feed) (absorbing : List Part) (runs c : ℕ) (cells : List (List Cell)) (rows : List (List ℤ))
    → CanGoOn s plan done count shares marks chains feeds absorbing → c < runs → AreInputs runs s plan count feeds rows → (p : IsAt s plan done shares marks chains feeds cells c)
    → CanRun (unit_of s.net) (root_of shares) shares chains feeds count cells rows c
run_at s plan done count shares marks chains feeds absorbing runs c cells rows can small inputs p =
    let last = last_root s shares marks chains feeds can.layout in
    can_run (unit_of s.net) (root_of shares) s plan done shares marks chains feeds count p.values p.slots cells rows c can.layout last refl can.words
    can.rules can.values can.numbers can.one can.holds p.stands
    (subst (λ (k : ℕ). AllShow k shares marks p.slots cells c) (sym last) p.shows) (subst (λ (k : ℕ). AreFed k chains feeds p.values cells c) (sym last) p.fed)
    can.frames (λ f h. inputs c f small h)

pub runs_at : (s : ScheduleValue) (plan : PlanOf) (done count : ℕ) (shares : List Share) (marks : List Mark) (chains : List Chain) (feeds : List Feed) (absorbing : List Part) (runs : ℕ) (cells : List (List Cell)) (rows : List (List ℤ))
    → CanGoOn s plan done count shares marks chains feeds absorbing → AreInputs runs s plan count feeds rows → AllAreAt runs s plan done shares marks chains feeds cells
    → AllCanRun runs (unit_of s.net) (root_of shares) shares chains feeds count cells rows
runs_at s plan done count shares marks chains feeds absorbing runs cells rows can inputs all c small = run_at s plan done count shares marks chains feeds absorbing runs c cells rows can small inputs (all c small)

pub go_on : (s : ScheduleValue) (plan : PlanOf) (done count : ℕ) (shares : List Share) (marks : List Mark) (chains : List Chain) (feeds : List Feed) (absorbing : List Part) (runs : ℕ) (cells after : List (List Cell)) (rows waves : List (List ℤ))
    → CanGoOn s plan done count shares marks chains feeds absorbing → AreInputs runs s plan count feeds rows
    → HaveRun runs (unit_of s.net) (root_of shares) shares chains feeds absorbing count count cells rows after waves
    → AllGoOn runs s plan done count shares marks chains feeds cells rows after waves
unfolding run_at can_run
go_on s plan done count shares marks chains feeds absorbing runs cells after rows waves can inputs run c small p =
    let last = last_root s shares marks chains feeds can.layout in
    let gone = run c small (run_at s plan done count shares marks chains feeds absorbing runs c cells rows can small inputs p) in
    record {
      slots = slots_from s can.values (λ (i : ℕ). frame_values (length feeds) rows i c) p.slots;
      begins = refl;
      next = next_at s plan done (λ (i : ℕ). frame_values (length feeds) rows i c) p.slots can.rules can.values can.numbers can.one can.holds p.stands count can.frames (λ i h. inputs c i small h);
      sent = λ f i h few.
          let place = can.parts.count_is in
          let own = can.parts.each i few in
          subst (λ (n : ℕ). watched_in n waves i f c ≡ slots_from s can.values (λ (i : ℕ). frame_values (length feeds) rows i c) p.slots (f + 1) (sent_slot (part_at absorbing i) (mark_at marks (part_at absorbing i).stage))) place
          (gone.sent f h i (omega (arith, few, place)))
          ∙ ap (slots_from s can.values (λ (i : ℕ). frame_values (length feeds) rows i c) p.slots (f + 1)) own.slot;
      stands = stands_at s plan done (λ (i : ℕ). frame_values (length feeds) rows i c) p.slots can.rules can.values can.numbers can.one can.holds p.stands count can.frames (λ i h. inputs c i small h);
      shows = subst (λ (k : ℕ). AllShow k shares marks (slots_from s can.values (λ (i : ℕ). frame_values (length feeds) rows i c) p.slots count) after c) last gone.shows;
      values = gone.values;
      fed = subst (λ (k : ℕ). AreFed k chains feeds gone.values after c) last gone.fed;
    }

-- ---- what a block over the lists of a layout wants, wherever these lists stand
pub record HasLists (runs k root : ℕ) (shares : List Share) (chains : List Chain) (feeds : List Feed) (absorbing : List Part) (count : ℕ) (cells : List (List Cell)) (rows : List (List ℤ)) : Type 0 where
  pub each : length shares ≡ root + 1
  pub whole : AreShares (2 ^ k) shares
  pub row : IsRowOfChains root chains
  pub signs : AreSigns chains
  pub places : (i : ℕ) → i < length feeds → (feed_at feeds i).stage ≤ root
  pub inside : AreWithin (root + 1) absorbing
  pub run : AllCanRun runs (2 ^ k) root shares chains feeds count cells rows

pub lists_of : (s : ScheduleValue) (plan : PlanOf) (done count : ℕ) (shares : List Share) (marks : List Mark) (chains : List Chain) (feeds : List Feed) (absorbing : List Part) (runs : ℕ) (cells : List (List Cell)) (rows : List (List ℤ))
    → CanGoOn s plan done count shares marks chains feeds absorbing → AreInputs runs s plan count feeds rows → AllAreAt runs s plan done shares marks chains feeds cells
    → HasLists runs s.net.k (root_of shares) shares chains feeds absorbing count cells rows
lists_of s plan done count shares marks chains feeds absorbing runs cells rows can inputs all =
    let last = last_root s shares marks chains feeds can.layout in
    let long = can.layout.shares_count in
    record {
      each = omega arith;
      whole = are-shares s shares marks chains feeds can.layout;
      row = subst (λ (k : ℕ). IsRowOfChains k chains) last can.layout.row;
      signs = are-signs s shares marks chains feeds can.layout;
      places = λ i h. subst (λ (k : ℕ). (feed_at feeds i).stage ≤ k) last (can.layout.stages i h);
      inside = λ i h. let own = can.parts.each i (omega (arith, h, can.parts.count_is)) in omega (arith, own.inside);
      run = runs_at s plan done count shares marks chains feeds absorbing runs cells rows can inputs all;
    }

-- equal ones have the same
pub lists_moved : (runs k k' root root' : ℕ) (shares shares' : List Share) (chains chains' : List Chain) (feeds feeds' : List Feed) (absorbing : List Part) (count : ℕ) (cells : List (List Cell)) (rows : List (List ℤ))
    → k' ≡ k → root' ≡ root → shares' ≡ shares → chains' ≡ chains → feeds' ≡ feeds → HasLists runs k root shares chains feeds absorbing count cells rows → HasLists runs k' root' shares' chains' feeds' absorbing count cells rows
lists_moved runs k k' root root' shares shares' chains chains' feeds feeds' absorbing count cells rows ek er es ec ef h =
    subst (λ (x : ℕ). HasLists runs x root' shares' chains' feeds' absorbing count cells rows) (sym ek)
    (subst (λ (x : ℕ). HasLists runs k x shares' chains' feeds' absorbing count cells rows) (sym er)
    (subst (λ (x : List Share). HasLists runs k root x chains' feeds' absorbing count cells rows) (sym es)
    (subst (λ (x : List Chain). HasLists runs k root shares x feeds' absorbing count cells rows) (sym ec)
    (subst (λ (x : List Feed). HasLists runs k root shares chains x absorbing count cells rows) (sym ef) h))))

pub run_moved : (runs k k' root root' : ℕ) (shares shares' : List Share) (chains chains' : List Chain) (feeds feeds' : List Feed) (absorbing : List Part) (count : ℕ) (cells after : List (List Cell)) (rows waves : List (List ℤ))
    → k' ≡ k → root' ≡ root → shares' ≡ shares → chains' ≡ chains → feeds' ≡ feeds → HaveRun runs (2 ^ k') root' shares' chains' feeds' absorbing count count cells rows after waves
    → HaveRun runs (2 ^ k) root shares chains feeds absorbing count count cells rows after waves
run_moved runs k k' root root' shares shares' chains chains' feeds feeds' absorbing count cells after rows waves ek er es ec ef h =
    subst (λ (x : List Feed). HaveRun runs (2 ^ k) root shares chains x absorbing count count cells rows after waves) ef
    (subst (λ (x : List Chain). HaveRun runs (2 ^ k) root shares x feeds' absorbing count count cells rows after waves) ec
    (subst (λ (x : List Share). HaveRun runs (2 ^ k) root x chains' feeds' absorbing count count cells rows after waves) es
    (subst (λ (x : ℕ). HaveRun runs (2 ^ k) x shares' chains' feeds' absorbing count count cells rows after waves) er
    (subst (λ (x : ℕ). HaveRun runs (2 ^ x) root' shares' chains' feeds' absorbing count count cells rows after waves) ek h))))
