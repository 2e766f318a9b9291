use Rattle.std.proofs.Common.{◌≡◌, length}
use Rattle.wdf_loop.specs.Inputs.{HoldFrames}
use Rattle.wdf_loop.proofs.samples.scale_frames.Given as goal

abbrev pub invariant-loop-f : goal.invariant-loop-f
invariant-loop-f g l = record { long : length l.rows ≡ length l.initial.rows; so_far : HoldFrames g.row.C l.guard l.all l.first l.sources l.f l.samples l.rows }
