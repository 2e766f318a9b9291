use Rattle.std.proofs.Common.{◌≡◌, ℕ, ◌+◌, ◌*◌, ◌<◌, length}
use Rattle.std.specs.Prelude.{pos, slice_index_or}
use Rattle.wdf_law.specs.OutputRule.{scaled_up}
use Rattle.wdf_loop.specs.RunCells.{wave_in}
use Rattle.wdf_loop.proofs.samples.scale_row.Given as goal

abbrev pub invariant-loop-c : goal.invariant-loop-c
invariant-loop-c g l = record {
  row_long : length l.row ≡ g.row.C;
  so_far : (i : ℕ) → i < l.c → wave_in l.row i ≡ scaled_up l.guard (slice_index_or l.samples (l.at + i * l.stride) (pos 0));
}
