use Rattle.std.proofs.Common.{◌≡◌, map, replicate}
use Rattle.wdf_loop.specs.RunCells.{silent}
use Rattle.wdf_loop.proofs.rest.cells_at_rest.Given as goal

abbrev pub invariant-loop : goal.invariant-loop
invariant-loop g l = map g.R.RunRow.cells l.cells.items ≡ replicate l.counter (replicate g.row.C silent)
