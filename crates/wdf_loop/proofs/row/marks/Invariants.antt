use Rattle.std.proofs.Common.{◌≡◌, map}
use Rattle.std.specs.List.{range_with_len}
use Rattle.wdf_loop.specs.Rows.{mark_in}
use Rattle.wdf_loop.proofs.row.marks.Given as goal

abbrev pub invariant-loop-i : goal.invariant-loop-i
invariant-loop-i l = l.marks.items ≡ map (mark_in l.schedule) (range_with_len 0 l.i)
