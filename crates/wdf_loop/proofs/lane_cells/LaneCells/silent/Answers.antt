use Rattle.wdf_loop.proofs.LaneRows.{at-rest}
use Rattle.wdf_loop.proofs.lane_cells.LaneCells.silent.Goals as goal

pub returns : goal.returns
returns g c = at-rest g.row.N
