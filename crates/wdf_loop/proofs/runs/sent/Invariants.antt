use Rattle.std.proofs.Common.{◌≡◌, ℕ, ◌<◌, length}
use Rattle.wdf_loop.specs.Parts.{sent_to}
use Rattle.wdf_loop.specs.RunCells.{cell_in, wave_in}
use Rattle.wdf_loop.proofs.runs.sent.Given as goal

abbrev pub invariant-loop-c : goal.invariant-loop-c
invariant-loop-c g l = record {
  waves_long : length l.waves ≡ g.row.C;
  so_far : (i : ℕ) → i < l.c → wave_in l.waves i ≡ sent_to l.part (cell_in l.row i);
}
