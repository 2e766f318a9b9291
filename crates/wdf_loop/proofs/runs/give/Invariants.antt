use Rattle.std.proofs.Common.{◌≡◌, ℕ, ◌<◌, ◌≤◌, length}
use Rattle.wdf_loop.specs.Cells.{given}
use Rattle.wdf_loop.specs.RunCells.{cell_in, wave_in}
use Rattle.wdf_loop.proofs.runs.give.Given as goal

abbrev pub invariant-loop-c : goal.invariant-loop-c
invariant-loop-c g l = record {
  cells_long : length l.row ≡ g.row.C;
  so_far : (i : ℕ) → i < l.c → cell_in l.row i ≡ given l.feed (wave_in l.values i) (cell_in l.initial.row i);
  cells : (i : ℕ) → l.c ≤ i → cell_in l.row i ≡ cell_in l.initial.row i;
}
