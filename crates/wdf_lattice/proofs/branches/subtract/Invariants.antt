use Rattle.std.proofs.Common.{◌≡◌, ℕ, ◌<◌, ◌≤◌, length}
use Rattle.std.specs.Prelude.{pos, ◌-ℤ◌, slice_index_or}
use Rattle.wdf_lattice.proofs.branches.subtract.Given as goal

abbrev pub invariant-loop-i : goal.invariant-loop-i
invariant-loop-i l = record {
  places : length l.waves ≡ length l.initial.waves;
  below : (k : ℕ) → k < l.i → slice_index_or l.waves k (pos 0) ≡ slice_index_or l.initial.waves k (pos 0) -ℤ slice_index_or l.less k (pos 0);
  others : (k : ℕ) → l.i ≤ k → slice_index_or l.waves k (pos 0) ≡ slice_index_or l.initial.waves k (pos 0);
}
