use Rattle.std.proofs.Common.{◌≡◌, ℕ, ◌+◌, ◌<◌, [], length}
use Rattle.std.specs.Prelude.{slice_index_or}
use Rattle.wdf_loop.specs.Inputs.{HoldsSamples}
use Rattle.wdf_loop.proofs.samples.scale_frame.Given as goal

abbrev pub invariant-loop-i : goal.invariant-loop-i
invariant-loop-i g l = record {
  long : length l.rows ≡ length l.initial.rows;
  so_far : (k : ℕ) → k < l.i → HoldsSamples g.row.C l.guard l.sources l.samples (l.at + k) (slice_index_or l.rows (l.from + k) []);
  others : (k : ℕ) → k < l.from → slice_index_or l.rows k [] ≡ slice_index_or l.initial.rows k [];
}
