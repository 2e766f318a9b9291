use Rattle.std.proofs.Common.{◌≡◌, ◌^◌, length, map}
use Rattle.wdf_loop.specs.Frames.{HaveRisenTo}
use Rattle.wdf_loop.proofs.ascent.rise.Given as goal

abbrev pub invariant-loop-t : goal.invariant-loop-t
invariant-loop-t g l = record {
  long : length l.cells ≡ length l.initial.cells;
  risen : HaveRisenTo g.row.C (2 ^ g.row.K) l.root l.shares l.chains l.t (map g.R.RunRow.cells l.initial.cells) (map g.R.RunRow.cells l.cells);
}
