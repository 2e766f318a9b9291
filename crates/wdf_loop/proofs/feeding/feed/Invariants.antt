use Rattle.std.proofs.Common.{◌≡◌, ℕ, ◌-◌, ◌<◌, drop, length, map}
use Rattle.wdf_loop.specs.Runs.{cell_at}
use Rattle.wdf_loop.specs.Shows.{IsFedAnew, values_in}
use Rattle.wdf_loop.proofs.feeding.feed.Given as goal

abbrev pub invariant-loop-done : goal.invariant-loop-done
invariant-loop-done g l = record {
  long : length l.cells ≡ length l.initial.cells;
  fed : (c : ℕ) → c < g.row.C → (j : ℕ)
      → IsFedAnew (drop (length l.feeds - l.done) l.feeds) (drop (length l.feeds - l.done) (values_in l.values c)) j (cell_at (map g.R.RunRow.cells l.initial.cells) j c) (cell_at (map g.R.RunRow.cells l.cells) j c);
}
