use Rattle.std.proofs.Common.{◌≡◌, ℕ, ◌+◌, ◌<◌, ◌≤◌, length}
use Rattle.std.specs.Prelude.{pos, slice_index_or}
use mathlib.Core.Logic.{◌⊎◌}
use Rattle.wdf_law.specs.Elements.{signed}
use Rattle.wdf_loop.specs.RunCells.{wave_in}
use Rattle.wdf_loop.proofs.outputs.give_row.Given as goal

abbrev pub invariant-loop-c : goal.invariant-loop-c
invariant-loop-c g l = record {
  long : length l.output ≡ length l.initial.output;
  so_far : (i : ℕ) → i < l.c → slice_index_or l.output (l.at + i) (pos 0) ≡ signed l.flip (wave_in l.row i);
  others : (k : ℕ) → (k < l.at) ⊎ (l.at + g.row.C ≤ k) → slice_index_or l.output k (pos 0) ≡ slice_index_or l.initial.output k (pos 0);
}
