use Rattle.std.proofs.Common.{◌≡◌, ◌^◌, length, map}
use Rattle.wdf_loop.specs.Blocks.{HaveRun}
use Rattle.wdf_loop.proofs.block.frames.Given as goal

abbrev pub invariant-loop-f : goal.invariant-loop-f
invariant-loop-f g l = record {
  long : length l.cells ≡ length l.initial.cells;
  waves_long : length l.waves ≡ length l.initial.waves;
  run : HaveRun g.row.C (2 ^ g.row.K) l.root l.shares l.chains l.feeds l.watched l.count l.f (map g.R.RunRow.cells l.initial.cells) l.values (map g.R.RunRow.cells l.cells) l.waves;
}
