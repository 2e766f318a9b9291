-- The stages of a schedule in a row, without their chains.
use Rattle.std.specs.Prelude.{◌≡◌, ℕ, ◌+◌, ◌<◌, ◌≤◌, false, List, length}
use Rattle.wdf_law.specs.Network.{elements, unit_of}
use Rattle.wdf_sched.specs.Schedules.{ScheduleValue}
use Rattle.wdf_loop.specs.declared.mark.Mark.{Mark}
use Rattle.wdf_loop.specs.declared.share.Share.{Share}
use Rattle.wdf_loop.specs.Layouts.{share_at, mark_at, IsJunctionStage, IsRootStage, IsSmallStage, ShowsSlot}
use Rattle.wdf_loop.specs.Leaves.{sign_in}
use Rattle.wdf_loop.specs.Marked.{IsMarked}
use Rattle.wdf_loop.specs.Stages.{mark_of, share_of, stage_at}

pub record IsRow (s : ScheduleValue) (shares : List Share) (marks : List Mark) : Type 0 where
  pub root : ℕ
  pub marked : IsMarked s root marks
  pub shares_count : length shares ≡ root + 1
  pub junctions : (j : ℕ) → j < root → IsJunctionStage (unit_of s.net) s.ops (share_at shares j) (mark_at marks j)
  pub turn : IsRootStage (unit_of s.net) s.ops (share_at shares root) (mark_at marks root)
  pub plain : (share_at shares root).parallel ≡ false
  pub small : (j : ℕ) → j ≤ root → IsSmallStage (unit_of s.net) s.ops (mark_at marks j)
  pub signs : (j : ℕ) → j ≤ root → (share_at shares j).sign ≡ sign_in s.net (mark_at marks j).up
  pub shown : (i : ℕ) → i < s.slot_count → (j : ℕ) × ((j ≤ root) × ShowsSlot (share_at shares j) (mark_at marks j) i)

-- the mark and the share of the stage i, as the code makes them
abbrev pub mark_in : ScheduleValue → ℕ → Mark
mark_in s i = mark_of (length (elements s.net)) (stage_at s.ops i)

abbrev pub share_in : ScheduleValue → ℕ → Share
share_in s i = share_of (unit_of s.net) (length (elements s.net)) (sign_in s.net (mark_in s i).up) (stage_at s.ops i)
