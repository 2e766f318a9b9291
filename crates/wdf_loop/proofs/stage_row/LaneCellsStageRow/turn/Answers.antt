use Rattle.std.proofs.Common.{rules, ◌*◌, ◌<◌, ◌^◌}
use Rattle.wdf_loop.specs.Cells.{CanRise}
use Rattle.wdf_loop.specs.RunCells.{Turns}
use Rattle.wdf_loop.proofs.LaneRows.{IsInMemory, can_do, rows_of}
use Rattle.wdf_loop.proofs.stage_row.LaneCellsStageRow.turn.Goals as goal

pub turn_all-requires : goal.turn_all-requires
turn_all-requires g c =
    let all : IsInMemory g.row.N = search rules in
    let one : g.row.N * 8 < 2 ^ 63 = search rules in
    (all, (one, (c.requires.few, (c.requires.whole, can_do g.row.N (CanRise (2 ^ g.row.K) c.args.share) c.args.waves.now c.args.self.now c.requires.can))))

pub returns : goal.returns
returns g c = rows_of g.row.N (Turns (2 ^ g.row.K) c.args.share) c.args.waves.now c.args.self.now c.turn_all.new.self c.turn_all.result c.turn_all.ensures
