use Rattle.std.proofs.Common.{◌≡◌, length}
use Rattle.wdf_loop.proofs.run_group.room.Given as goal

abbrev pub invariant-loop : goal.invariant-loop
invariant-loop g l = length l.room.items ≡ l.counter
