use Rattle.std.proofs.Common.{rules, ◌≡◌, ◌*◌, ◌<◌, ◌≤◌, ◌^◌, List, map, sym, ◌∙◌, ap, subst, arith, w64}
use Rattle.std.proofs.lemmas.Int.{to_z-of_z}
use Rattle.std.proofs.lemmas.List.{get_or_read}
use mir.Val.{SFits}
use Rattle.wdf_loop.specs.declared.cell.Cell.{Cell}
use Rattle.wdf_loop.specs.Cells.{bottom}
use Rattle.wdf_loop.specs.RunCells.{AllCanBegin, cell_in}
use Rattle.wdf_loop.specs.Runs.{row_at}
use Rattle.wdf_loop.proofs.MapLemmas.{row_at-map}
use Rattle.wdf_loop.proofs.ascent.begin.Goals as goal

pub bottom-requires : goal.bottom-requires
bottom-requires g c =
    let f1 : SFits w64 c.args.chain.sign = search rules in
    let row : row_at (map g.R.RunRow.cells c.args.cells.now) c.args.chain.first ≡ g.R.RunRow.cells c.index-cells-chain.result =
    row_at-map g.R.RunRow.cells c.args.cells.now c.args.chain.first c.index-cells-chain.result c.requires.bottom
    ∙ ap g.R.RunRow.cells (sym (get_or_read c.args.cells.now c.args.chain.first c.index-cells-chain.result c.requires.bottom c.index-cells-chain.is c.index-cells-chain.result)) in
    let runs : g.row.C ≤ 8 = c.requires.runs in
    let size : g.row.C * 8 < 9223372036854775808 = omega arith in
    (size, (c.requires.few, (simp to_z-of_z c.requires.sign, subst (AllCanBegin (2 ^ g.row.K) g.row.C) row c.requires.can)))

pub returns : goal.returns
returns g c c' h =
    let f1 : SFits w64 c.args.chain.sign = search rules in
    let row : row_at (map g.R.RunRow.cells c.args.cells.now) c.args.chain.first ≡ g.R.RunRow.cells c.index-cells-chain.result =
    row_at-map g.R.RunRow.cells c.args.cells.now c.args.chain.first c.index-cells-chain.result c.requires.bottom
    ∙ ap g.R.RunRow.cells (sym (get_or_read c.args.cells.now c.args.chain.first c.index-cells-chain.result c.requires.bottom c.index-cells-chain.is c.index-cells-chain.result)) in
    simp to_z-of_z at (c.bottom.ensures c' h) ∙ ap (λ (r : List Cell). bottom c.args.chain.sign (cell_in r c')) (sym row)
