-- Rows of the cells of a stage, and the lists of cells that they are.
use Rattle.std.proofs.Common.{◌≡◌, ℕ, ◌<◌, List, [], length, map}
use Rattle.std.specs.Prelude.{slice_index_or, slice_set}
use Rattle.std.proofs.lemmas.List.{get_or-map, length-map, map-set}
use Rattle.wdf_loop.specs.declared.cell.Cell.{Cell}
use Rattle.wdf_loop.specs.Runs.{row_at}

pub row_at-map : {R : Type 0} (f : R → List Cell) (rows : List R) (j : ℕ) (d : R) → j < length rows → row_at (map f rows) j ≡ f (slice_index_or rows j d)
row_at-map f rows j d h = get_or-map f rows j d [] h

pub map-slice_set : {R : Type 0} (f : R → List Cell) (rows : List R) (j : ℕ) (row : R) → map f (slice_set rows j row) ≡ slice_set (map f rows) j (f row)
map-slice_set f rows j row = map-set f rows j row

pub map-length : {R : Type 0} (f : R → List Cell) (rows : List R) → length (map f rows) ≡ length rows
map-length f rows = length-map rows f
