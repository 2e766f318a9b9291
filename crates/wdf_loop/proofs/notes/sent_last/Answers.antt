use Rattle.std.proofs.Common.{arith, ◌≡◌, ◌<◌, List, length, map, ap, sym, ◌∙◌, to_z, of_z, w64}
use Rattle.std.proofs.lemmas.Int.{to_z-of_z}
use Rattle.std.proofs.lemmas.List.{get_or_read, length-set}
use mir.Val.{SFits}
use Rattle.wdf_loop.specs.declared.cell.Cell.{Cell}
use Rattle.wdf_loop.specs.Parts.{part_at, sent_last, sent_to}
use Rattle.wdf_loop.specs.RunCells.{cell_in}
use Rattle.wdf_loop.specs.Runs.{row_at}
use Rattle.wdf_loop.proofs.MapLemmas.{row_at-map}
use Rattle.wdf_loop.proofs.NoteLemmas.{filled_more}
use Rattle.wdf_loop.proofs.notes.sent_last.Goals as goal

pub loop-i-preserved : goal.loop-i-preserved
loop-i-preserved g c =
    let more : c.loop-i.i < length c.args.parts.now = c.loop-i-test.true in
    let part = part_at c.args.parts.now c.loop-i.i in
    let inside = c.requires.inside c.loop-i.i more in
    let row : row_at (map g.R.RunRow.cells c.args.cells.now) part.stage ≡ g.R.RunRow.cells c.index-cells-part.result =
    row_at-map g.R.RunRow.cells c.args.cells.now part.stage c.index-cells-part.result inside
    ∙ ap g.R.RunRow.cells (sym (get_or_read c.args.cells.now part.stage c.index-cells-part.result inside c.index-cells-part.is c.index-cells-part.result)) in
    let fits : SFits w64 c.sent.result = record { sfits = c.sent.type_inv } in
    let value : to_z w64 (of_z w64 c.sent.result) ≡ sent_last c.args.parts.now (map g.R.RunRow.cells c.args.cells.now) c.args.c c.loop-i.i =
    to_z-of_z w64 c.sent.result fits ∙ (c.sent.ensures ∙ ap (λ (d : Cell). sent_to part d) (c.cell.ensures ∙ ap (λ (r : List Cell). cell_in r c.args.c) (sym row))) in
    let long = c.loop-i.invariant.long in
    let each = c.requires.each in
    record {
      long = length-set c.loop-i.downs c.loop-i.i (to_z w64 (of_z w64 c.sent.result)) ∙ long;
      so_far = filled_more c.loop-i.downs c.loop-i.i (to_z w64 (of_z w64 c.sent.result)) (sent_last c.args.parts.now (map g.R.RunRow.cells c.args.cells.now) c.args.c) (omega arith) c.loop-i.invariant.so_far value;
    }
