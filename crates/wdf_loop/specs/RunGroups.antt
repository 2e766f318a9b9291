-- Runs that go on side by side, 8, 4, 2 or 1 of them or none.
use Rattle.std.specs.Prelude.{◌≡◌, ℕ, ◌+◌, ◌*◌, ◌<◌, ◌≤◌, ◌⊎◌, ℤ, pos, nat_le, if◌then◌else◌, List, [], length, map, slice_index_or}
use Rattle.wdf_law.specs.Network.{reactances}
use Rattle.wdf_energy.specs.Accounts.{AccountOf, LedgerOf, account_at}
use Rattle.wdf_sched.specs.Meaning.{slot_at}
use Rattle.wdf_sched.specs.Schedules.{ScheduleValue}
use Rattle.wdf_loop.specs.declared.cell.Cell.{Cell}
use Rattle.wdf_loop.specs.declared.run_group.RunGroup.{RunGroup}
use Rattle.wdf_loop.specs.declared.run_group.RunGroup.TheVariants.{None, One, Two, Four, Eight}
use Rattle.wdf_loop.specs.declared.setting.Setting.{Setting}
use Rattle.wdf_loop.specs.Advances.{AllAreAt}
use Rattle.wdf_loop.specs.LaneCells.{lane_cells}
use Rattle.wdf_loop.specs.RunAccounts.{HoldRuns, KeepsAccounts}
use Rattle.wdf_loop.specs.RunFrames.{RunsOn}
use Rattle.wdf_loop.specs.SlotValues.{value_in}

-- how many they are, and their cells
abbrev pub width : RunGroup → ℕ
width None = 0
width (One cells values waves) = 1
width (Two cells values waves) = 2
width (Four cells values waves) = 4
width (Eight cells values waves) = 8

abbrev pub cells_of : RunGroup → List (List Cell)
cells_of None = []
cells_of (One cells values waves) = cells.items
cells_of (Two cells values waves) = cells.items
cells_of (Four cells values waves) = map lane_cells cells.items
cells_of (Eight cells values waves) = map lane_cells cells.items

-- the greatest group of at most so many runs
abbrev pub greatest_width : ℕ → ℕ
greatest_width most = if nat_le 8 most then 8 else if nat_le 4 most then 4 else if nat_le 2 most then 2 else if nat_le 1 most then 1 else 0

-- the cells of so many runs after so many frames, and rows for the values and waves of a piece
pub record AreRuns (runs : ℕ) (t : Setting) (done : ℕ) (cells : List (List Cell)) (values waves : List (List ℤ)) : Type 0 where
  pub stages : length cells ≡ length t.layout.shares.items
  pub at : AllAreAt runs t.schedule t.plan done t.layout.shares.items t.layout.marks.items t.layout.chains.items t.layout.feeds.items cells
  pub value_rows : length values ≡ t.piece * length t.layout.feeds.items
  pub wave_rows : length waves ≡ t.piece * length t.parts.absorbing.items

abbrev pub IsGroup : Setting → ℕ → RunGroup → Type 0
IsGroup t done None = Unit {0}
IsGroup t done (One cells values waves) = AreRuns 1 t done cells.items values.items waves.items
IsGroup t done (Two cells values waves) = AreRuns 2 t done cells.items values.items waves.items
IsGroup t done (Four cells values waves) = AreRuns 4 t done (map lane_cells cells.items) values.items waves.items
IsGroup t done (Eight cells values waves) = AreRuns 8 t done (map lane_cells cells.items) values.items waves.items

-- what a slot holds for the run c of a group
abbrev pub shown_in : Setting → List (List Cell) → ℕ → ℕ → ℤ
shown_in t cells c i = value_in t.layout.shares.items t.layout.marks.items cells c i

-- each slot of each run holds 0
abbrev pub AreSilent : Setting → RunGroup → Type 0
AreSilent t g = (c i : ℕ) → c < width g → i < t.schedule.slot_count → shown_in t (cells_of g) c i ≡ pos 0

-- ---- frames, by what the slots hold before and behind them

abbrev pub sent_of : ScheduleValue → (ℕ → ℤ) → ℕ → ℤ
sent_of s v i = v (slot_at s.down_slots i)

abbrev pub left_by : ScheduleValue → (ℕ → ℤ) → List ℤ
left_by s v = map (sent_of s v) (reactances s.net)

abbrev pub Goes : (t : Setting) → (all count : ℕ) → (samples output : List ℤ) → (run : ℕ) → (before behind : ℕ → ℤ) → (opens closes : AccountOf) → Type 0
Goes t all count samples output run before behind opens closes =
    RunsOn t.schedule.net t.plan all count samples output run (left_by t.schedule before) (left_by t.schedule behind) behind (sent_of t.schedule behind) opens closes

-- The runs of a group, which are those from `first` on of all, have gone on by so many frames; the others have not.
pub record HaveGone (runs first : ℕ) (t : Setting) (done all count : ℕ) (samples given output : List ℤ) (before cells : List (List Cell)) (l m : LedgerOf) : Type 0 where
  pub on : (c : ℕ) → c < runs
      → Goes t all count samples output (first + c) (shown_in t before c) (shown_in t cells c) (account_at l (first + c)) (account_at m (first + c))
  pub others : (f run : ℕ) → run < all → (run < first) ⊎ (first + runs ≤ run)
      → slice_index_or output (f * all + run) (pos 0) ≡ slice_index_or given (f * all + run) (pos 0)
  pub ledger : HoldRuns runs first t.schedule t.plan (done + count) t.layout.shares.items t.layout.marks.items cells m
  pub accounts : KeepsAccounts runs first l m
