-- Runs of a schedule that go on by a block of frames.
use Rattle.std.specs.Prelude.{◌≡◌, ℕ, ◌+◌, ◌-◌, ◌<◌, ℤ, List, length}
use Rattle.wdf_law.specs.Network.{absorbing_numbers}
use Rattle.wdf_law.specs.Run.{source_values}
use Rattle.wdf_bounds.specs.HeldWords.{IsInput}
use Rattle.wdf_bounds.specs.Plans.{PlanOf}
use Rattle.wdf_sched.specs.Meaning.{slot_at}
use Rattle.wdf_sched.specs.Operations.{Slots}
use Rattle.wdf_sched.specs.Schedules.{ScheduleValue}
use Rattle.wdf_loop.specs.declared.cell.Cell.{Cell}
use Rattle.wdf_loop.specs.declared.chain.Chain.{Chain}
use Rattle.wdf_loop.specs.declared.feed.Feed.{Feed}
use Rattle.wdf_loop.specs.declared.mark.Mark.{Mark}
use Rattle.wdf_loop.specs.declared.share.Share.{Share}
use Rattle.wdf_loop.specs.Blocks.{frame_values}
use Rattle.wdf_loop.specs.NextFrames.{IsNext, Stands}
use Rattle.wdf_loop.specs.Parts.{absorbing_at, watched_in}
use Rattle.wdf_loop.specs.Shows.{AllShow, AreFed}

-- the root is the last stage
abbrev pub root_of : List Share → ℕ
root_of shares = length shares - 1

-- the run c after so many frames: its cells show values that stand
pub record IsAt (s : ScheduleValue) (plan : PlanOf) (done : ℕ) (shares : List Share) (marks : List Mark) (chains : List Chain) (feeds : List Feed) (cells : List (List Cell)) (c : ℕ) : Type 0 where
  pub slots : Slots
  pub values : List ℤ
  pub stands : Stands s plan done slots
  pub shows : AllShow (root_of shares) shares marks slots cells c
  pub fed : AreFed (root_of shares) chains feeds values cells c

-- The run c goes on from these values by so many frames: each is the reference step from the state that the one before left, with
-- the sources' values in its rows. Each frame's rows of waves hold what the elements that absorb are sent.
pub record GoesOn (s : ScheduleValue) (plan : PlanOf) (done count : ℕ) (shares : List Share) (marks : List Mark) (chains : List Chain) (feeds : List Feed) (before : Slots) (rows : List (List ℤ)) (cells : List (List Cell)) (waves : List (List ℤ)) (c : ℕ) : Type 0 where
  pub slots : ℕ → Slots
  pub begins : slots 0 ≡ before
  pub next : (f : ℕ) → f < count → IsNext s plan (done + f) (frame_values (length feeds) rows f c) (slots f) (slots (f + 1))
  pub sent : (f i : ℕ) → f < count → i < length (absorbing_numbers s.net)
      → watched_in (length (absorbing_numbers s.net)) waves i f c ≡ slots (f + 1) (slot_at s.down_slots (absorbing_at s.net i))
  pub stands : Stands s plan (done + count) (slots count)
  pub shows : AllShow (root_of shares) shares marks (slots count) cells c
  pub values : List ℤ
  pub fed : AreFed (root_of shares) chains feeds values cells c

-- so it is with each of `runs` runs
abbrev pub AllAreAt : ℕ → ScheduleValue → PlanOf → ℕ → List Share → List Mark → List Chain → List Feed → List (List Cell) → Type 0
AllAreAt runs s plan done shares marks chains feeds cells = (c : ℕ) → c < runs → IsAt s plan done shares marks chains feeds cells c

abbrev pub AreInputs : ℕ → ScheduleValue → PlanOf → ℕ → List Feed → List (List ℤ) → Type 0
AreInputs runs s plan count feeds rows =
    (c f : ℕ) → c < runs → f < count → IsInput s.net plan (source_values s.net (frame_values (length feeds) rows f c))

abbrev pub AllGoOn : ℕ → ScheduleValue → PlanOf → ℕ → ℕ → List Share → List Mark → List Chain → List Feed → List (List Cell) → List (List ℤ) → List (List Cell) → List (List ℤ) → Type 0
AllGoOn runs s plan done count shares marks chains feeds before rows cells waves =
    (c : ℕ) → c < runs → (p : IsAt s plan done shares marks chains feeds before c) → GoesOn s plan done count shares marks chains feeds p.slots rows cells waves c
