use Rattle.std.proofs.Common.{rules, w64, ◌*◌, ◌<◌, ◌≤◌, ◌^◌, subst, sym}
use Rattle.std.specs.Prelude.{ℤ, unsigned_abs}
use Rattle.std.proofs.lemmas.Int.{to_z-of_z}
use mir.Val.{SFits}
use Rattle.wdf_loop.specs.declared.cell.Cell.{Cell}
use Rattle.wdf_loop.specs.Cells.{CanBegin}
use Rattle.wdf_loop.proofs.LaneRows.{IsInMemory, cell_of}
use Rattle.wdf_loop.proofs.stage_row.LaneCellsStageRow.bottom.Goals as goal

pub bottom_waves-requires : goal.bottom_waves-requires
bottom_waves-requires g c =
    let all : IsInMemory g.row.N = search rules in
    let one : g.row.N * 8 < 2 ^ 63 = search rules in
    let fits : SFits w64 c.args.sign = search rules in (
      all,
      (
        one,
        (
          c.requires.few,
          (
            subst (λ (z : ℤ). unsigned_abs z ≤ 1) (sym (to_z-of_z w64 c.args.sign fits)) c.requires.sign,
            λ i less. subst (λ (d : Cell). CanBegin (2 ^ g.row.K) d) (cell_of g.row.N c.args.self.now i less) (c.requires.can i less),
          ),
        ),
      ),
    )
