-- A block of frames of several runs over one layout.
use Rattle.std.specs.Prelude.{◌≡◌, ℕ, ◌+◌, ◌*◌, ◌<◌, ◌≤◌, ◌^◌, ℤ, List, length, take, drop}
use Rattle.wdf_law.specs.Network.{unit_of}
use Rattle.wdf_sched.specs.Operations.{Slots}
use Rattle.wdf_sched.specs.Schedules.{ScheduleValue}
use Rattle.wdf_loop.specs.declared.cell.Cell.{Cell}
use Rattle.wdf_loop.specs.declared.chain.Chain.{Chain}
use Rattle.wdf_loop.specs.declared.feed.Feed.{Feed}
use Rattle.wdf_loop.specs.declared.mark.Mark.{Mark}
use Rattle.wdf_loop.specs.declared.part.Part.{Part}
use Rattle.wdf_loop.specs.declared.share.Share.{Share}
use Rattle.wdf_loop.specs.Layouts.{IsLayout, mark_at}
use Rattle.wdf_loop.specs.Parts.{part_at, sent_slot, watched_in}
use Rattle.wdf_loop.specs.Shows.{AllShow, AreFed, Follows, values_in}

-- the rows of a frame, one for each of `sources` sources, and the values of the run c in them
abbrev pub frame_rows : ℕ → List (List ℤ) → ℕ → List (List ℤ)
frame_rows sources rows f = take sources (drop (f * sources) rows)

abbrev pub frame_values : ℕ → List (List ℤ) → ℕ → ℕ → List ℤ
frame_values sources rows f c = values_in (frame_rows sources rows f) c

-- The cells of the run c show the first of these values, and with the sources' values of each frame the next follow.
pub record CanRun (q root : ℕ) (shares : List Share) (chains : List Chain) (feeds : List Feed) (count : ℕ) (cells : List (List Cell)) (rows : List (List ℤ)) (c : ℕ) : Type 0 where
  pub schedule : ScheduleValue
  pub marks : List Mark
  pub layout : IsLayout schedule shares marks chains feeds
  pub last : layout.root ≡ root
  pub unit : unit_of schedule.net ≡ q
  pub limit : ℕ
  pub words : unit_of schedule.net * limit ≤ 2 ^ 60
  pub states : ℕ → ℕ → ℤ
  pub old : List ℤ
  -- by how many frames are done
  pub slots : ℕ → Slots
  pub follows : (f : ℕ) → f < count → Follows schedule limit (states f) (frame_values (length feeds) rows f c) (slots f) (slots (f + 1))
  pub shows : AllShow layout.root shares marks (slots 0) cells c
  pub fed : AreFed layout.root chains feeds old cells c

abbrev pub AllCanRun : ℕ → ℕ → ℕ → List Share → List Chain → List Feed → ℕ → List (List Cell) → List (List ℤ) → Type 0
AllCanRun runs q root shares chains feeds count cells rows = (c : ℕ) → c < runs → CanRun q root shares chains feeds count cells rows c

-- A frame's rows in the run c hold, for each of these parts, the value of the slot of the wave that it is sent.
abbrev pub HoldSent : List Part → List Mark → (ℕ → Slots) → List (List ℤ) → ℕ → ℕ → Type 0
HoldSent watched marks slots waves c f =
    (i : ℕ) → i < length watched
    → watched_in (length watched) waves i f c ≡ slots (f + 1) (sent_slot (part_at watched i) (mark_at marks (part_at watched i).stage))

-- when so many frames of the run c are done: its cells show the values, and each frame has its rows
pub record HasRun (root : ℕ) (shares : List Share) (chains : List Chain) (feeds : List Feed) (watched : List Part) (marks : List Mark) (slots : ℕ → Slots) (done : ℕ) (cells : List (List Cell)) (waves : List (List ℤ)) (c : ℕ) : Type 0 where
  pub shows : AllShow root shares marks (slots done) cells c
  pub values : List ℤ
  pub fed : AreFed root chains feeds values cells c
  pub sent : (f : ℕ) → f < done → HoldSent watched marks slots waves c f

-- so have all of them, whatever values follow so
abbrev pub HaveRun : ℕ → ℕ → ℕ → List Share → List Chain → List Feed → List Part → ℕ → ℕ → List (List Cell) → List (List ℤ) → List (List Cell) → List (List ℤ) → Type 0
HaveRun runs q root shares chains feeds watched count done before rows cells waves =
    (c : ℕ) → c < runs → (p : CanRun q root shares chains feeds count before rows c) → HasRun p.layout.root shares chains feeds watched p.marks p.slots done cells waves c
