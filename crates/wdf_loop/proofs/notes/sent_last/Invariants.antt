use Rattle.std.proofs.Common.{◌≡◌, ℕ, ◌<◌, pos, length, map, slice_index_or}
use Rattle.wdf_loop.specs.Parts.{sent_last}
use Rattle.wdf_loop.proofs.notes.sent_last.Given as goal

abbrev pub invariant-loop-i : goal.invariant-loop-i
invariant-loop-i g l = record {
  long : length l.downs ≡ length l.initial.downs;
  so_far : (k : ℕ) → k < l.i → slice_index_or l.downs k (pos 0) ≡ sent_last l.parts (map g.R.RunRow.cells l.cells) l.c k;
}
