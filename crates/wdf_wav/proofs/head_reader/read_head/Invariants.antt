-- What was read so far: the twelve bytes, and chunks that may stand before `data`.
use Rattle.std.proofs.Common.{◌-◌, ◌≤◌}
use Rattle.wdf_wav.specs.HeadReading.{HasSeen, IsSeen}
use Rattle.wdf_wav.proofs.head_reader.read_head.Given as goal

abbrev pub invariant-loop-passed : goal.invariant-loop-passed
invariant-loop-passed g l = record {
  good : IsSeen l.seen;
  seen : HasSeen (g.S.Source.left l.fn.src) (g.S.Source.left l.src) l.seen;
  later : g.S.Source.faults l.fn.src ≤ g.S.Source.faults l.src;
}

abbrev pub decreases-loop-passed : goal.decreases-loop-passed
decreases-loop-passed g l = 64 - l.seen.chunks
