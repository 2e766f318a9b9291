use Rattle.std.proofs.Common.{rules, ◌*◌, ◌<◌, ◌^◌}
use Rattle.wdf_loop.specs.Cells.{CanFall}
use Rattle.wdf_loop.specs.RunCells.{Falls}
use Rattle.wdf_loop.proofs.LaneRows.{IsInMemory, can_do, rows_of}
use Rattle.wdf_loop.proofs.stage_row.LaneCellsStageRow.fall.Goals as goal

pub fall_all-requires : goal.fall_all-requires
fall_all-requires g c =
    let all : IsInMemory g.row.N = search rules in
    let one : g.row.N * 8 < 2 ^ 63 = search rules in
    (all, (one, (c.requires.few, (c.requires.whole, can_do g.row.N (CanFall (2 ^ g.row.K) c.args.share) c.args.waves.now c.args.self.now c.requires.can))))

pub returns : goal.returns
returns g c = rows_of g.row.N (Falls (2 ^ g.row.K) c.args.share) c.args.waves.now c.args.self.now c.fall_all.new.self c.fall_all.result c.fall_all.ensures
