use Rattle.std.proofs.Common.{◌≡◌, ℕ, ◌<◌, ◌≤◌, ◌^◌, length, map}
use mathlib.Core.Logic.{◌⊎◌}
use Rattle.wdf_loop.specs.Runs.{HaveClimbed, row_at}
use Rattle.wdf_loop.proofs.passes.climb_stages.Given as goal

abbrev pub invariant-loop-j : goal.invariant-loop-j
invariant-loop-j g l = record {
  long : length l.cells ≡ length l.initial.cells;
  climbed : HaveClimbed g.row.C (2 ^ g.row.K) l.shares l.first l.end l.j (map g.R.RunRow.cells l.initial.cells) l.initial.waves (map g.R.RunRow.cells l.cells) l.held;
  others : (i : ℕ) → (i < l.first) ⊎ (l.j ≤ i) → row_at (map g.R.RunRow.cells l.cells) i ≡ row_at (map g.R.RunRow.cells l.initial.cells) i;
}
