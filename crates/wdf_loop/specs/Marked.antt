-- What the slots of the stages say of how these hang together.
use Rattle.std.specs.Prelude.{◌≡◌, ℕ, ◌+◌, ◌<◌, ◌≤◌, ◌⊎◌, List, length}
use Rattle.wdf_law.specs.Network.{elements}
use Rattle.wdf_sched.specs.Meaning.{slot_at}
use Rattle.wdf_sched.specs.Schedules.{ScheduleValue}
use Rattle.wdf_loop.specs.declared.mark.Mark.{Mark}
use Rattle.wdf_loop.specs.Layouts.{mark_at}

-- an element's number and its down slot
abbrev pub IsListed : ScheduleValue → ℕ → ℕ → Type 0
IsListed s up down = (up < length (elements s.net)) × (down ≡ slot_at s.down_slots up)

-- the tree below the stage j is that of the stage before
pub record IsBehind (s : ScheduleValue) (marks : List Mark) (j : ℕ) : Type 0 where
  pub before : ℕ
  pub next : before + 1 ≡ j
  pub tree : length (elements s.net) ≤ (mark_at marks j).below
  pub out : (mark_at marks before).out ≡ (mark_at marks j).below
  pub sent : (mark_at marks before).sent ≡ (mark_at marks j).onward

-- the tree of the stage i is a part of the later stage j
pub record IsPartOf (marks : List Mark) (i j : ℕ) : Type 0 where
  pub later : i < j
  pub part : (((mark_at marks j).up ≡ (mark_at marks i).out) × ((mark_at marks j).down ≡ (mark_at marks i).sent))
      ⊎ ((mark_at marks j).below ≡ (mark_at marks i).out)

pub record IsMarked (s : ScheduleValue) (root : ℕ) (marks : List Mark) : Type 0 where
  pub count : length marks ≡ root + 1
  pub few : root < 1024
  -- below a stage is an element, where the part beside is one too, or the tree of the stage before
  pub below : (j : ℕ) → j ≤ root
      → (IsListed s (mark_at marks j).below (mark_at marks j).onward × IsListed s (mark_at marks j).up (mark_at marks j).down) ⊎ IsBehind s marks j
  -- beside it is an element or a tree
  pub beside : (j : ℕ) → j ≤ root → IsListed s (mark_at marks j).up (mark_at marks j).down ⊎ (length (elements s.net) ≤ (mark_at marks j).up)
  -- the tree of each junction is a part of a later stage; no two have one slot, and each tree beside a stage is one of them
  pub trees : (i : ℕ) → i < root → length (elements s.net) ≤ (mark_at marks i).out
  pub once_out : (i j : ℕ) → i < root → j < root → (mark_at marks i).out ≡ (mark_at marks j).out → i ≡ j
  pub owned : (j : ℕ) → j ≤ root → length (elements s.net) ≤ (mark_at marks j).up → (i : ℕ) × ((i < root) × ((mark_at marks i).out ≡ (mark_at marks j).up))
  pub taken : (i : ℕ) → i < root → (j : ℕ) × ((j ≤ root) × IsPartOf marks i j)
  -- each element is a part of some stage, and no two parts are the same
  pub every : (k : ℕ) → k < length (elements s.net) → (j : ℕ) × ((j ≤ root) × (((mark_at marks j).up ≡ k) ⊎ ((mark_at marks j).below ≡ k)))
  pub once_up : (i j : ℕ) → i ≤ root → j ≤ root → (mark_at marks i).up ≡ (mark_at marks j).up → i ≡ j
  pub once_below : (i j : ℕ) → i ≤ root → j ≤ root → (mark_at marks i).below ≡ (mark_at marks j).below → i ≡ j
  pub apart : (i j : ℕ) → i ≤ root → j ≤ root → (mark_at marks i).up ≡ (mark_at marks j).below → ⊥
