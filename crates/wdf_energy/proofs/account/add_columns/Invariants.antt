use Rattle.std.proofs.Common.{◌≡◌, ℕ, ◌+◌, ◌<◌, ◌≤◌, length}
use Rattle.std.specs.Prelude.{slice_index_or}
use Rattle.wdf_energy.specs.PortLists.{every_row, squares_over}
use Rattle.wdf_energy.proofs.account.add_columns.Given as goal

abbrev pub invariant-loop-i : goal.invariant-loop-i
invariant-loop-i g l = record {
  long : length l.squares ≡ 128;
  so_far : (k : ℕ) → k < l.i → slice_index_or l.squares k 0 ≡ slice_index_or l.initial.squares k 0 + squares_over (every_row l.width l.rows l.column k) l.count;
  rest : (k : ℕ) → l.i ≤ k → slice_index_or l.squares k 0 ≡ slice_index_or l.initial.squares k 0;
}
