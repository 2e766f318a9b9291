-- The accounts of several runs in a ledger, those from `first` on, one for each of `runs` runs.
use Rattle.std.specs.Prelude.{◌≡◌, ℕ, ◌+◌, ◌<◌, ◌≤◌, ◌⊎◌, ℤ, List, length}
use Rattle.wdf_law.specs.Network.{source_numbers}
use Rattle.wdf_bounds.specs.Plans.{PlanOf}
use Rattle.wdf_energy.specs.Accounts.{LedgerOf, account_at}
use Rattle.wdf_energy.specs.Blocks.{AreLast, HasRoomFor, HaveSent, NotesOver, frame_column}
use Rattle.wdf_energy.specs.LedgerLaws.{HoldsFrames}
use Rattle.wdf_sched.specs.Schedules.{ScheduleValue}
use Rattle.wdf_loop.specs.declared.cell.Cell.{Cell}
use Rattle.wdf_loop.specs.declared.mark.Mark.{Mark}
use Rattle.wdf_loop.specs.declared.part.Part.{Part}
use Rattle.wdf_loop.specs.declared.share.Share.{Share}
use Rattle.wdf_loop.specs.Parts.{sent_last}
use Rattle.wdf_loop.specs.SlotValues.{sent_by}

-- they hold the frames that are done of the runs
pub record HoldRuns (runs first : ℕ) (s : ScheduleValue) (plan : PlanOf) (done : ℕ) (shares : List Share) (marks : List Mark) (cells : List (List Cell)) (l : LedgerOf) : Type 0 where
  pub net : l.net ≡ s.net
  pub inside : first + runs ≤ length l.accounts
  pub holds : (c : ℕ) → c < runs → HoldsFrames s.net plan done (sent_by s shares marks cells c) (account_at l (first + c))

-- the others stay
pub record KeepsAccounts (runs first : ℕ) (a b : LedgerOf) : Type 0 where
  pub net : b.net ≡ a.net
  pub count : length b.accounts ≡ length a.accounts
  pub others : (channel : ℕ) → (channel < first) ⊎ (first + runs ≤ channel) → account_at b channel ≡ account_at a channel

-- ---- frames by the rows of their values and waves, in which the run c has the column c

abbrev pub values_of : LedgerOf → List (List ℤ) → (c frame : ℕ) → List ℤ
values_of l values c frame = frame_column (length (source_numbers l.net)) values c frame

abbrev pub HaveRoom : (runs first count : ℕ) → (values waves : List (List ℤ)) → LedgerOf → Type 0
HaveRoom runs first count values waves l =
    (c : ℕ) → c < runs → HasRoomFor l.net count (values_of l values c) waves c (account_at l (first + c))

-- the frames are noted, whatever waves the rows and the cells hold
abbrev pub AreNoted : (runs first count : ℕ) → List Part → List (List Cell) → (values waves : List (List ℤ)) → (a b : LedgerOf) → Type 0
AreNoted runs first count every cells values waves a b =
    (c : ℕ) → c < runs → (sent : ℕ → ℕ → ℤ) → HaveSent a.net count sent waves c → AreLast a.net count sent (sent_last every cells c)
    → NotesOver a.net count (values_of a values c) sent (account_at a (first + c)) (account_at b (first + c))
