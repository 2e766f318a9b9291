use Rattle.std.proofs.Common.{◌≡◌, ℕ, ◌<◌, ◌≤◌, ◌^◌, length}
use Rattle.wdf_loop.specs.RunCells.{Rises, cell_in, wave_in}
use Rattle.wdf_loop.proofs.runs.rise.Given as goal

abbrev pub invariant-loop-c : goal.invariant-loop-c
invariant-loop-c g l = record {
  cells_long : length l.row ≡ g.row.C;
  waves_long : length l.waves ≡ g.row.C;
  so_far : (i : ℕ) → i < l.c → Rises (2 ^ g.row.K) l.share (wave_in l.initial.waves i) (cell_in l.initial.row i) (cell_in l.row i) (wave_in l.waves i);
  cells : (i : ℕ) → l.c ≤ i → cell_in l.row i ≡ cell_in l.initial.row i;
  waves : (i : ℕ) → l.c ≤ i → wave_in l.waves i ≡ wave_in l.initial.waves i;
}
