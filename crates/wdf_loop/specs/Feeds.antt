-- The feeds as the code makes them, by the slots of the stages. Nothing that is promised rests on this file: it stands between
-- the code and the proof that they lie as Layouts says.
use Rattle.std.specs.Prelude.{◌≡◌, ℕ, ◌<◌, Bool, true, false, List, length, slice_index_or}
use Rattle.wdf_law.specs.Network.{Network, source_numbers}
use Rattle.wdf_loop.specs.declared.feed.Feed.{Feed}
use Rattle.wdf_loop.specs.declared.mark.Mark.{Mark}
use Rattle.wdf_loop.specs.Layouts.{mark_at, feed_at}
use Rattle.wdf_loop.specs.Leaves.{flip_in}

-- where the element with a number stands
pub record IsFeedOf (marks : List Mark) (number : ℕ) (flipped : Bool) (f : Feed) : Type 0 where
  pub within : f.stage < length marks
  pub beside : f.beside ≡ true → (mark_at marks f.stage).up ≡ number
  pub under : f.beside ≡ false → (mark_at marks f.stage).below ≡ number
  pub flip : f.flip ≡ flipped

-- the number of a source
abbrev pub source_at : Network → ℕ → ℕ
source_at n i = slice_index_or (source_numbers n) i 0

-- of so many sources
pub record AreFeeds (n : Network) (marks : List Mark) (done : ℕ) (feeds : List Feed) : Type 0 where
  pub count : length feeds ≡ done
  pub each : (i : ℕ) → i < done → IsFeedOf marks (source_at n i) (flip_in n (source_at n i)) (feed_at feeds i)
