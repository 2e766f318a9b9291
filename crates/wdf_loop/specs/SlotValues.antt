-- The value of a slot in a run, as its cells show it.
use Rattle.std.specs.Prelude.{ℕ, ℤ, pos, ◌&&◌, ◌==◌, if◌then◌else◌, List, [], ◌∷◌, map}
use Rattle.wdf_law.specs.Network.{reactances}
use Rattle.wdf_sched.specs.Meaning.{slot_at}
use Rattle.wdf_sched.specs.Schedules.{ScheduleValue}
use Rattle.wdf_loop.specs.declared.cell.Cell.{Cell}
use Rattle.wdf_loop.specs.declared.mark.Mark.{Mark}
use Rattle.wdf_loop.specs.declared.share.Share.{Share}
use Rattle.wdf_loop.specs.RunCells.{cell_in}

-- the number of a cell that is the value of the slot i, else z
abbrev pub value_or : ℤ → Share → Mark → Cell → ℕ → ℤ
value_or z s k d i =
    if k.up == i then d.up
    else if k.below == i then d.below
    else if k.down == i then d.down
    else if k.onward == i then d.onward
    else if s.parallel && (k.raw == i) then d.raw
    else z

-- that of the first stage that shows the slot, 0 where none does
abbrev pub value_in : List Share → List Mark → List (List Cell) → ℕ → ℕ → ℤ
value_in [] marks cells c i = pos 0
value_in (s ∷ shares) [] cells c i = pos 0
value_in (s ∷ shares) (k ∷ marks) [] c i = pos 0
value_in (s ∷ shares) (k ∷ marks) (row ∷ cells) c i = value_or (value_in shares marks cells c i) s k (cell_in row c) i

-- what the element i was sent last, and the state: what the reactances were, in netlist order
abbrev pub sent_by : ScheduleValue → List Share → List Mark → List (List Cell) → ℕ → ℕ → ℤ
sent_by s shares marks cells c i = value_in shares marks cells c (slot_at s.down_slots i)

abbrev pub state_by : ScheduleValue → List Share → List Mark → List (List Cell) → ℕ → List ℤ
state_by s shares marks cells c = map (sent_by s shares marks cells c) (reactances s.net)
