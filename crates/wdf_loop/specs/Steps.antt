-- A step of several runs over one layout: each from values that its cells show to those that follow from its sources' values.
use Rattle.std.specs.Prelude.{◌≡◌, ℕ, ◌*◌, ◌<◌, ◌≤◌, ◌^◌, ℤ, List}
use Rattle.wdf_law.specs.Network.{unit_of}
use Rattle.wdf_sched.specs.Operations.{Slots}
use Rattle.wdf_sched.specs.Schedules.{ScheduleValue}
use Rattle.wdf_loop.specs.declared.cell.Cell.{Cell}
use Rattle.wdf_loop.specs.declared.chain.Chain.{Chain}
use Rattle.wdf_loop.specs.declared.feed.Feed.{Feed}
use Rattle.wdf_loop.specs.declared.mark.Mark.{Mark}
use Rattle.wdf_loop.specs.declared.share.Share.{Share}
use Rattle.wdf_loop.specs.Layouts.{IsLayout}
use Rattle.wdf_loop.specs.Shows.{AllShow, AreFed, Follows, values_in}

-- The cells of the run c show the values before, and with the sources' values zs others follow; no word is too large.
pub record CanStep (q root : ℕ) (shares : List Share) (chains : List Chain) (feeds : List Feed) (cells : List (List Cell)) (zs : List ℤ) (c : ℕ) : Type 0 where
  pub schedule : ScheduleValue
  pub marks : List Mark
  pub layout : IsLayout schedule shares marks chains feeds
  pub last : layout.root ≡ root
  pub unit : unit_of schedule.net ≡ q
  pub limit : ℕ
  pub words : unit_of schedule.net * limit ≤ 2 ^ 60
  pub states : ℕ → ℤ
  pub old : List ℤ
  pub before : Slots
  pub after : Slots
  pub follows : Follows schedule limit states zs before after
  pub shows : AllShow layout.root shares marks before cells c
  pub fed : AreFed layout.root chains feeds old cells c

-- each of `count` runs can, with one value of each source from the rows,
abbrev pub AllCanStep : ℕ → ℕ → ℕ → List Share → List Chain → List Feed → List (List Cell) → List (List ℤ) → Type 0
AllCanStep count q root shares chains feeds cells rows = (c : ℕ) → c < count → CanStep q root shares chains feeds cells (values_in rows c) c

-- and its cells then show whatever values follow so
abbrev pub HaveStepped : ℕ → ℕ → ℕ → List Share → List Chain → List Feed → List (List Cell) → List (List ℤ) → List (List Cell) → Type 0
HaveStepped count q root shares chains feeds before rows cells =
    (c : ℕ) → c < count → (p : CanStep q root shares chains feeds before (values_in rows c) c)
    → AllShow p.layout.root shares p.marks p.after cells c × AreFed p.layout.root chains feeds (values_in rows c) cells c
