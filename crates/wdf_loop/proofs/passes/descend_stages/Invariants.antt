use Rattle.std.proofs.Common.{◌≡◌, ℕ, ◌-◌, ◌<◌, ◌≤◌, ◌^◌, length, map}
use mathlib.Core.Logic.{◌⊎◌}
use Rattle.wdf_loop.specs.Runs.{HaveDescended, row_at}
use Rattle.wdf_loop.proofs.passes.descend_stages.Given as goal

abbrev pub invariant-loop-done : goal.invariant-loop-done
invariant-loop-done g l = record {
  long : length l.cells ≡ length l.initial.cells;
  descended : HaveDescended g.row.C (2 ^ g.row.K) l.shares l.first l.end (l.end - l.done) (map g.R.RunRow.cells l.initial.cells) l.initial.waves (map g.R.RunRow.cells l.cells) l.held;
  others : (i : ℕ) → (i < l.end - l.done) ⊎ (l.end ≤ i) → row_at (map g.R.RunRow.cells l.cells) i ≡ row_at (map g.R.RunRow.cells l.initial.cells) i;
}
