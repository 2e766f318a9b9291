-- The operations and the slots of a tree, as the code makes them. Nothing that is promised rests on this file: it stands
-- between the code and the proof that the operations compute the step.
use Rattle.std.specs.Prelude.{ℕ, ◌+◌, ◌<◌, ◌≤◌, if◌then◌else◌, List, [], ◌∷◌, ◌++◌, length, map}
use Rattle.std.specs.List.{range_with_len}
use Rattle.wdf_law.specs.Trees.{AdaptorTree, leaf, series, parallel}
use Rattle.wdf_law.specs.Network.{Network, elements, has_leaf}
use Rattle.wdf_sched.specs.declared.op.Op.{Op}
use Rattle.wdf_sched.specs.declared.op.Op.TheVariants.{UpSeries, UpParallel, Root, DownSeries, DownParallel}
use Rattle.wdf_sched.specs.Schedules.{ScheduleValue, IsSchedule}

-- every number of a leaf is below count
abbrev pub IsBelow : ℕ → AdaptorTree → Type 0
IsBelow count (leaf i _ _) = i < count
IsBelow count (series m l r) = IsBelow count l × IsBelow count r
IsBelow count (parallel m l r) = IsBelow count l × IsBelow count r

-- ---- up: the first part, the second part, the junction itself

-- how many slots the way up a tree writes
abbrev pub rise : AdaptorTree → ℕ
rise (leaf _ _ _) = 0
rise (series m l r) = rise l + rise r + 1
rise (parallel m l r) = rise l + rise r + 2

-- the slot of the wave that a tree reflects, where its way up writes from next on
abbrev pub up_slot : AdaptorTree → ℕ → ℕ
up_slot (leaf i _ _) next = i
up_slot (series m l r) next = next + rise l + rise r
up_slot (parallel m l r) next = next + rise l + rise r + 1

abbrev pub up_ops : AdaptorTree → ℕ → List Op
up_ops (leaf _ _ _) next = []
up_ops (series m l r) next =
    up_ops l next ++ up_ops r (next + rise l) ++ UpSeries (up_slot l next) (up_slot r (next + rise l)) (next + rise l + rise r) ∷ []
up_ops (parallel m l r) next =
    up_ops l next ++ up_ops r (next + rise l)
    ++ UpParallel (up_slot l next) (up_slot r (next + rise l)) m (next + rise l + rise r) (next + rise l + rise r + 1) ∷ []

-- ---- down, in the reverse order: the junction itself, the second part, the first part

-- how many slots the way down a tree writes
abbrev pub fall : AdaptorTree → ℕ
fall (leaf _ _ _) = 0
fall (series m l r) = fall l + fall r + 2
fall (parallel m l r) = fall l + fall r + 2

-- the way down a tree whose way up wrote from base on, with the slot d of the wave that it is sent, writing from next on
abbrev pub down_ops : AdaptorTree → ℕ → ℕ → ℕ → List Op
down_ops (leaf _ _ _) base d next = []
down_ops (series m l r) base d next =
    DownSeries (up_slot l base) (up_slot r (base + rise l)) d m next (next + 1)
    ∷ down_ops r (base + rise l) (next + 1) (next + 2) ++ down_ops l base next (next + 2 + fall r)
down_ops (parallel m l r) base d next =
    DownParallel (up_slot l base) (up_slot r (base + rise l)) d (base + rise l + rise r) next (next + 1)
    ∷ down_ops r (base + rise l) (next + 1) (next + 2) ++ down_ops l base next (next + 2 + fall r)

-- the down slot of the leaf i
abbrev pub leaf_slot : AdaptorTree → ℕ → ℕ → ℕ → ℕ
leaf_slot (leaf _ _ _) d next i = d
leaf_slot (series m l r) d next i = if has_leaf l i then leaf_slot l next (next + 2 + fall r) i else leaf_slot r (next + 1) (next + 2) i
leaf_slot (parallel m l r) d next i = if has_leaf l i then leaf_slot l next (next + 2 + fall r) i else leaf_slot r (next + 1) (next + 2) i

-- ---- two trees joined at the root; the up slots of their elements are those below count

-- the first slot that the root writes
abbrev pub root_slot : AdaptorTree → AdaptorTree → ℕ → ℕ
root_slot l r count = count + rise l + rise r

abbrev pub all_ops : ℕ → AdaptorTree → AdaptorTree → ℕ → List Op
all_ops m l r count =
    up_ops l count ++ up_ops r (count + rise l)
    ++ Root (up_slot l count) (up_slot r (count + rise l)) m (root_slot l r count) (root_slot l r count + 1) ∷ []
    ++ down_ops r (count + rise l) (root_slot l r count + 1) (root_slot l r count + 2)
    ++ down_ops l count (root_slot l r count) (root_slot l r count + 2 + fall r)

-- how many slots there are
abbrev pub all_slots : AdaptorTree → AdaptorTree → ℕ → ℕ
all_slots l r count = root_slot l r count + 2 + fall r + fall l

abbrev pub down_slot : AdaptorTree → AdaptorTree → ℕ → ℕ → ℕ
down_slot l r count i =
    if has_leaf l i then leaf_slot l (root_slot l r count) (root_slot l r count + 2 + fall r) i
    else leaf_slot r (root_slot l r count + 1) (root_slot l r count + 2) i

-- and of a network
abbrev pub ops_of : Network → List Op
ops_of n = all_ops n.m n.left n.right (length (elements n))

abbrev pub down_slots_of : Network → List ℕ
down_slots_of n = map (down_slot n.left n.right (length (elements n))) (range_with_len 0 (length (elements n)))

abbrev pub schedule_of : Network → ScheduleValue
schedule_of n = record { net = n; ops = ops_of n; down_slots = down_slots_of n; slot_count = all_slots n.left n.right (length (elements n)) }

-- what the code has to know of a network: the slots have room, and what it makes is a schedule
pub record IsMade (n : Network) : Type 0 where
  pub left_below : IsBelow 128 n.left
  pub right_below : IsBelow 128 n.right
  pub room : all_slots n.left n.right (length (elements n)) ≤ 1024
  pub schedule : IsSchedule (schedule_of n)
