use Rattle.std.proofs.Common.{◌≡◌, ℕ, ◌<◌, ◌≤◌, length}
use Rattle.wdf_loop.specs.Cells.{fed_with}
use Rattle.wdf_loop.specs.RunCells.{cell_in, wave_in}
use Rattle.wdf_loop.proofs.runs.deliver.Given as goal

abbrev pub invariant-loop-c : goal.invariant-loop-c
invariant-loop-c g l = record {
  cells_long : length l.row ≡ g.row.C;
  so_far : (i : ℕ) → i < l.c → cell_in l.row i ≡ fed_with (wave_in l.waves i) (cell_in l.initial.row i);
  cells : (i : ℕ) → l.c ≤ i → cell_in l.row i ≡ cell_in l.initial.row i;
}
