use Rattle.std.proofs.Common.{◌≡◌, ℕ, ◌+◌, ◌<◌, [], length, map}
use Rattle.std.specs.Prelude.{slice_index_or}
use Rattle.wdf_loop.specs.Parts.{sent_last}
use Rattle.wdf_loop.specs.RunCells.{wave_in}
use Rattle.wdf_loop.proofs.watch.watch.Given as goal

abbrev pub invariant-loop-i : goal.invariant-loop-i
invariant-loop-i g l = record {
  long : length l.rows ≡ length l.initial.rows;
  so_far : (k c : ℕ) → k < l.i → c < g.row.C → wave_in (slice_index_or l.rows (l.from + k) []) c ≡ sent_last l.parts (map g.R.RunRow.cells l.cells) c k;
  others : (k : ℕ) → k < l.from → slice_index_or l.rows k [] ≡ slice_index_or l.initial.rows k [];
}
