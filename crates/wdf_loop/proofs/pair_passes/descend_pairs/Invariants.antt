use Rattle.std.proofs.Common.{◌≡◌, ◌+◌, ◌-◌, ◌*◌, ◌^◌, length, map}
use Rattle.wdf_loop.specs.Runs.{HaveDescended, KeepsOthers}
use Rattle.wdf_loop.proofs.pair_passes.descend_pairs.Given as goal

abbrev pub invariant-loop-done : goal.invariant-loop-done
invariant-loop-done g l = record {
  long : length l.cells ≡ length l.initial.cells;
  descended : HaveDescended g.row.C (2 ^ g.row.K) l.shares l.start (l.start + 2 * l.count) (l.start + 2 * (l.count - l.done)) (map g.R.RunRow.cells l.initial.cells) l.initial.waves (map g.R.RunRow.cells l.cells) l.held;
  others : KeepsOthers (l.start + 2 * (l.count - l.done)) (l.start + 2 * l.count) (map g.R.RunRow.cells l.initial.cells) (map g.R.RunRow.cells l.cells);
}
