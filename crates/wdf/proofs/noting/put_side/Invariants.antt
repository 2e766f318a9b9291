-- The lines so far are written.
use Rattle.std.proofs.Common.{◌≤◌}
use Rattle.std.specs.Io.KnownBytes.{Appends}
use Rattle.wdf_frames.specs.RunStates.{totals_by}
use Rattle.wdf_reporting.specs.Notes.{side_ledger}
use Rattle.wdf.specs.RunNote.{told_totals}
use Rattle.wdf.proofs.noting.put_side.Given as goal

abbrev pub invariant-loop-run : goal.invariant-loop-run
invariant-loop-run g l = record {
  whole : Appends (g.N.Sink.written l.fn.note) (g.N.Sink.written l.note) (side_ledger l.side l.run (told_totals (totals_by l.wave_run) l.side));
  later : g.N.Sink.faults l.fn.note ≤ g.N.Sink.faults l.note;
}
