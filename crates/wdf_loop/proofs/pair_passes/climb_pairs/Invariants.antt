use Rattle.std.proofs.Common.{◌≡◌, ◌+◌, ◌*◌, ◌^◌, length, map}
use Rattle.wdf_loop.specs.Runs.{HaveClimbed, KeepsOthers}
use Rattle.wdf_loop.proofs.pair_passes.climb_pairs.Given as goal

abbrev pub invariant-loop-i : goal.invariant-loop-i
invariant-loop-i g l = record {
  long : length l.cells ≡ length l.initial.cells;
  climbed : HaveClimbed g.row.C (2 ^ g.row.K) l.shares l.start (l.start + 2 * l.count) (l.start + 2 * l.i) (map g.R.RunRow.cells l.initial.cells) l.initial.waves (map g.R.RunRow.cells l.cells) l.held;
  others : KeepsOthers l.start (l.start + 2 * l.i) (map g.R.RunRow.cells l.initial.cells) (map g.R.RunRow.cells l.cells);
}
