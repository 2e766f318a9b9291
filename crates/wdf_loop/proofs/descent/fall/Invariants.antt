use Rattle.std.proofs.Common.{◌≡◌, ◌-◌, ◌^◌, length, map}
use Rattle.wdf_loop.specs.Frames.{HaveFallenTo, first_of}
use Rattle.wdf_loop.proofs.descent.fall.Given as goal

abbrev pub invariant-loop-done : goal.invariant-loop-done
invariant-loop-done g l = record {
  long : length l.cells ≡ length l.fn.cells;
  fallen : HaveFallenTo g.row.C (2 ^ g.row.K) l.root l.shares l.chains (first_of l.chains (l.last - l.done)) (map g.R.RunRow.cells l.fn.cells) l.fn.waves (map g.R.RunRow.cells l.cells);
}
