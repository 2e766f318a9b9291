-- The frames so far are written, and no count fell.
use Rattle.std.proofs.Common.{◌≡◌, ◌-◌, ◌≤◌, vec_len}
use Rattle.wdf_frames.specs.Progress.{RanSoFar, round_setting}
use Rattle.wdf_frames.proofs.frames.write_frames.Given as goal

abbrev pub invariant-loop-round : goal.invariant-loop-round
invariant-loop-round g l = record {
  ran : RanSoFar (round_setting l.fn.round) l.round (g.I.Source.left l.fn.input) (g.I.Source.left l.input) (g.O.Sink.written l.fn.out) (g.O.Sink.written l.out);
  most : l.round.runner.done ≤ l.all;
  frames : vec_len l.frames ≡ vec_len l.fn.frames;
  made : vec_len l.made ≡ vec_len l.fn.made;
  read : g.I.Source.faults l.fn.input ≤ g.I.Source.faults l.input;
  write : g.O.Sink.faults l.fn.out ≤ g.O.Sink.faults l.out;
}

abbrev pub decreases-loop-round : goal.decreases-loop-round
decreases-loop-round g l = l.all - l.round.runner.done
