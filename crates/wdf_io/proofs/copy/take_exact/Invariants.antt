-- What was filled so far was consumed.
use Rattle.std.proofs.Common.{◌-◌, ◌≤◌, length, take}
use Rattle.std.specs.Io.KnownBytes.{Consumes}
use Rattle.wdf_io.proofs.copy.take_exact.Given as goal

abbrev pub invariant-loop-at : goal.invariant-loop-at
invariant-loop-at g l = record {
  in_range : l.at ≤ length l.buf;
  consumed : Consumes (g.S.Source.left l.initial.src) (g.S.Source.left l.src) (take l.at l.buf);
  later : g.S.Source.faults l.initial.src ≤ g.S.Source.faults l.src;
}

abbrev pub decreases-loop-at : goal.decreases-loop-at
decreases-loop-at g l = length l.initial.buf - l.at
