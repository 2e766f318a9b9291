use Rattle.std.proofs.Common.{◌≡◌, map}
use Rattle.std.specs.List.{range_with_len}
use Rattle.wdf_loop.specs.Rows.{share_in}
use Rattle.wdf_loop.proofs.row.shares.Given as goal

abbrev pub invariant-loop-i : goal.invariant-loop-i
invariant-loop-i l = l.shares.items ≡ map (share_in l.schedule) (range_with_len 0 l.i)
