-- That the cells of a run show values of a schedule's slots, and how the values of one frame follow those of the frame before.
use Rattle.std.specs.Prelude.{◌≡◌, ℕ, ◌<◌, ◌≤◌, ◌^◌, Bool, true, ℤ, if◌then◌else◌, IsTrue, List, [], ◌∷◌, length, map, slice_index_or, unsigned_abs}
use Rattle.wdf_law.specs.Elements.{signed}
use Rattle.wdf_law.specs.Network.{unit_of, elements, has_reactance}
use Rattle.wdf_law.specs.Run.{source_values}
use Rattle.wdf_sched.specs.Meaning.{Starts, slot_at}
use Rattle.wdf_sched.specs.Operations.{AreWithin, HoldAll, Slots}
use Rattle.wdf_sched.specs.Schedules.{ScheduleValue}
use Rattle.wdf_loop.specs.declared.cell.Cell.{Cell}
use Rattle.wdf_loop.specs.declared.chain.Chain.{Chain}
use Rattle.wdf_loop.specs.declared.feed.Feed.{Feed}
use Rattle.wdf_loop.specs.declared.mark.Mark.{Mark}
use Rattle.wdf_loop.specs.declared.share.Share.{Share}
use Rattle.wdf_loop.specs.Frames.{IsFed}
use Rattle.wdf_loop.specs.Layouts.{fed_by, is_beside, is_under, mark_at, share_at}
use Rattle.wdf_loop.specs.RunCells.{wave_in}
use Rattle.wdf_loop.specs.Runs.{cell_at}

-- a cell shows the waves of its stage's slots
pub record Shows (k : Mark) (g : Slots) (d : Cell) : Type 0 where
  pub up : d.up ≡ g k.up
  pub below : d.below ≡ g k.below
  pub down : d.down ≡ g k.down
  pub onward : d.onward ≡ g k.onward

-- so do all cells of the run c, and what a parallel junction reflects before it is truncated
pub record AllShow (root : ℕ) (shares : List Share) (marks : List Mark) (g : Slots) (cells : List (List Cell)) (c : ℕ) : Type 0 where
  pub stages : (j : ℕ) → j ≤ root → Shows (mark_at marks j) g (cell_at cells j c)
  pub raws : (j : ℕ) → j < root → (share_at shares j).parallel ≡ true → (cell_at cells j c).raw ≡ g (mark_at marks j).raw

-- the parts that are elements are fed what comes of the sources' values zs, source 0 first
pub record AreFed (root : ℕ) (chains : List Chain) (feeds : List Feed) (zs : List ℤ) (cells : List (List Cell)) (c : ℕ) : Type 0 where
  pub beside : (j : ℕ) → j ≤ root → IsFed chains 0 j → (cell_at cells j c).fed ≡ fed_by (is_beside j) feeds zs
  pub under : (j : ℕ) → j ≤ root → (cell_at cells j c).under ≡ fed_by (is_under j) feeds zs

-- The values g are those of a frame from the states x with the sources' values zs, x being what the values before left in the
-- reactances' down slots; no wave of either exceeds the limit.
pub record Follows (s : ScheduleValue) (limit : ℕ) (x : ℕ → ℤ) (zs : List ℤ) (before g : Slots) : Type 0 where
  pub small : AreWithin (unit_of s.net) limit before s.ops
  pub states : (i : ℕ) → IsTrue (has_reactance (elements s.net) i) → x i ≡ before (slot_at s.down_slots i)
  pub starts : Starts s.net x (source_values s.net zs) g
  pub holds : HoldAll (unit_of s.net) g s.ops
  pub within : AreWithin (unit_of s.net) limit g s.ops

-- ---- feeding

-- what the feeds put at a place from the values zs, d where none of them has that place
abbrev pub fed_or : ℤ → (Feed → Bool) → List Feed → List ℤ → ℤ
fed_or d is [] zs = d
fed_or d is (f ∷ fs) [] = d
fed_or d is (f ∷ fs) (z ∷ zs) = if is f then signed f.flip z else fed_or d is fs zs

-- a cell of the stage j before and behind it
pub record IsFedAnew (feeds : List Feed) (zs : List ℤ) (j : ℕ) (c d : Cell) : Type 0 where
  pub fed : d.fed ≡ fed_or c.fed (is_beside j) feeds zs
  pub under : d.under ≡ fed_or c.under (is_under j) feeds zs
  pub up : d.up ≡ c.up
  pub below : d.below ≡ c.below
  pub raw : d.raw ≡ c.raw
  pub down : d.down ≡ c.down
  pub onward : d.onward ≡ c.onward

-- the values of the run c, one of each source, from rows that have one for each run
abbrev pub values_in : List (List ℤ) → ℕ → List ℤ
values_in rows c = map (λ (row : List ℤ). wave_in row c) rows

abbrev pub HaveBeenFed : ℕ → List Feed → List (List ℤ) → List (List Cell) → List (List Cell) → Type 0
HaveBeenFed count feeds rows before cells =
    (c : ℕ) → c < count → (j : ℕ) → IsFedAnew feeds (values_in rows c) j (cell_at before j c) (cell_at cells j c)

-- no value is larger than a word in whole units
abbrev pub AreSmallValues : ℕ → List (List ℤ) → Type 0
AreSmallValues count rows = (i c : ℕ) → i < length rows → c < count → unsigned_abs (wave_in (slice_index_or rows i []) c) ≤ 2 ^ 60
