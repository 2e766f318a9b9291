use Rattle.std.proofs.Common.{rules, ◌*◌, ◌<◌, ◌^◌}
use Rattle.wdf_loop.specs.Cells.{CanRise}
use Rattle.wdf_loop.specs.RunCells.{Rises}
use Rattle.wdf_loop.proofs.LaneRows.{IsInMemory, can_do, rows_of}
use Rattle.wdf_loop.proofs.stage_row.LaneCellsStageRow.rise.Goals as goal

pub rise_all-requires : goal.rise_all-requires
rise_all-requires g c =
    let all : IsInMemory g.row.N = search rules in
    let one : g.row.N * 8 < 2 ^ 63 = search rules in
    (all, (one, (c.requires.few, (c.requires.whole, can_do g.row.N (CanRise (2 ^ g.row.K) c.args.share) c.args.waves.now c.args.self.now c.requires.can))))

pub returns : goal.returns
returns g c = rows_of g.row.N (Rises (2 ^ g.row.K) c.args.share) c.args.waves.now c.args.self.now c.rise_all.new.self c.rise_all.result c.rise_all.ensures
