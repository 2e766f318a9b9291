use Rattle.std.proofs.Common.{w64, ◌≡◌, ℕ, ◌<◌, List, length, map, ap, sym, ◌∙◌, subst}
use Rattle.std.proofs.lemmas.Int.{to_z-of_z}
use mir.Val.{SFits}
use Rattle.wdf_loop.specs.declared.cell.Cell.{Cell}
use Rattle.wdf_loop.specs.declared.run_group.RunGroup.{RunGroup}
use Rattle.wdf_loop.specs.Cells.{value_of}
use Rattle.wdf_loop.specs.LaneCells.{lane_cells}
use Rattle.wdf_loop.specs.RunCells.{cell_in}
use Rattle.wdf_loop.specs.RunGroups.{cells_of}
use Rattle.wdf_loop.specs.Runs.{cell_at}
use Rattle.wdf_loop.proofs.MapLemmas.{map-length, row_at-map}
use Rattle.wdf_loop.proofs.run_group.RunGroup.value.Goals as goal

pub returns-in-Four : goal.returns-in-Four
returns-in-Four c =
    let items = c.in-Four.cells.items in
    let stage = c.args.place.stage in
    let inside : stage < length (map lane_cells items) = subst (λ (g : RunGroup). stage < length (cells_of g)) c.in-Four.is c.requires.stage in
    let here : stage < length items = subst (λ (n : ℕ). stage < n) (map-length lane_cells items) inside in
    let row = row_at-map lane_cells items stage c.index-in-Four.result.now here in
    let own : c.cell-in-Four.result ≡ cell_at (map lane_cells items) stage c.args.run =
    c.cell-in-Four.ensures ∙ ap (λ (r : List Cell). cell_in r c.args.run) (ap lane_cells c.index-in-Four.ensures ∙ sym row) in
    let all = ap (λ (g : RunGroup). value_of c.args.place.field (cell_at (cells_of g) stage c.args.run)) (sym c.in-Four.is) in
    let value : c.value-in-Four.result ≡ value_of c.args.place.field (cell_at (cells_of c.args.self.now) stage c.args.run) =
    c.value-in-Four.ensures ∙ (ap (value_of c.args.place.field) own ∙ all) in
    let fits : SFits w64 c.value-in-Four.result = record { sfits = c.value-in-Four.type_inv } in
    simp to_z-of_z value

pub returns-in-Eight : goal.returns-in-Eight
returns-in-Eight c =
    let items = c.in-Eight.cells.items in
    let stage = c.args.place.stage in
    let inside : stage < length (map lane_cells items) = subst (λ (g : RunGroup). stage < length (cells_of g)) c.in-Eight.is c.requires.stage in
    let here : stage < length items = subst (λ (n : ℕ). stage < n) (map-length lane_cells items) inside in
    let row = row_at-map lane_cells items stage c.index-in-Eight.result.now here in
    let own : c.cell-in-Eight.result ≡ cell_at (map lane_cells items) stage c.args.run =
    c.cell-in-Eight.ensures ∙ ap (λ (r : List Cell). cell_in r c.args.run) (ap lane_cells c.index-in-Eight.ensures ∙ sym row) in
    let all = ap (λ (g : RunGroup). value_of c.args.place.field (cell_at (cells_of g) stage c.args.run)) (sym c.in-Eight.is) in
    let value : c.value-in-Eight.result ≡ value_of c.args.place.field (cell_at (cells_of c.args.self.now) stage c.args.run) =
    c.value-in-Eight.ensures ∙ (ap (value_of c.args.place.field) own ∙ all) in
    let fits : SFits w64 c.value-in-Eight.result = record { sfits = c.value-in-Eight.type_inv } in
    simp to_z-of_z value
