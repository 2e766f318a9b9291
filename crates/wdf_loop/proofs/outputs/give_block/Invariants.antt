use Rattle.std.proofs.Common.{◌≡◌, ℕ, ◌+◌, ◌*◌, ◌<◌, ◌≤◌, length}
use Rattle.std.specs.Prelude.{pos, slice_index_or}
use mathlib.Core.Logic.{◌⊎◌}
use Rattle.wdf_loop.specs.Parts.{load_in}
use Rattle.wdf_loop.proofs.outputs.give_block.Given as goal

abbrev pub invariant-loop-f : goal.invariant-loop-f
invariant-loop-f g l = record {
  long : length l.output ≡ length l.initial.output;
  so_far : (i c : ℕ) → i < l.f → c < g.row.C → slice_index_or l.output (i * l.all + (l.first + c)) (pos 0) ≡ load_in l.width l.outlet l.waves i c;
  others : (i run : ℕ) → run < l.all → (run < l.first) ⊎ (l.first + g.row.C ≤ run) → slice_index_or l.output (i * l.all + run) (pos 0) ≡ slice_index_or l.initial.output (i * l.all + run) (pos 0);
}
