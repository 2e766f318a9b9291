use Rattle.std.proofs.Common.{◌≡◌, ◌+◌}
use Rattle.wdf_energy.specs.PortLists.{every_row, squares_over}
use Rattle.wdf_energy.proofs.account.column_squares.Given as goal

abbrev pub invariant-loop-f : goal.invariant-loop-f
invariant-loop-f g l = l.total ≡ l.sum + squares_over (every_row l.width l.rows l.column l.from) l.f
