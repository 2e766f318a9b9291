use Rattle.std.proofs.Common.{rules, ◌≤◌, ◌<◌}
use Rattle.wdf_io.specs.Moved.{AppendsPart}
use Rattle.wdf_frames.specs.RunStates.{setting_of, totals_by}
use Rattle.wdf_frames.specs.Setting.{runs_of}
use Rattle.wdf_reporting.specs.Notes.{side_ledger}
use Rattle.wdf.specs.RunNote.{told_totals}
use Rattle.wdf.proofs.NoteLemmas.{on_err, side_goes_on, side_stops}
use Rattle.wdf.proofs.noting.put_side.Goals as goal

-- a line was not written whole
pub returns-in_err-put_line-clause-part : goal.returns-in_err-put_line-clause-part
returns-in_err-put_line-clause-part g c =
    let old = g.N.Sink.written c.args.note.now in
    let between = g.N.Sink.written c.loop-run.note in
    let now = g.N.Sink.written c.put_line.new.note in
    let run = c.loop-run.run in
    let runs = runs_of (setting_of c.args.wave_run.now) in
    let totals = told_totals (totals_by c.args.wave_run.now) c.args.side in
    let less : run < runs = search rules in
    on_err c.from_residual.result (AppendsPart old now (side_ledger c.args.side runs totals))
    (side_stops old between now c.args.side run runs totals less c.loop-run.invariant.whole c.in_err-put_line.ensures.part)

pub loop-run-preserved : goal.loop-run-preserved
loop-run-preserved g c =
    let old = g.N.Sink.written c.args.note.now in
    let between = g.N.Sink.written c.loop-run.note in
    let now = g.N.Sink.written c.put_line.new.note in
    let totals = told_totals (totals_by c.args.wave_run.now) c.args.side in
    let later : g.N.Sink.faults c.args.note.now ≤ g.N.Sink.faults c.put_line.new.note = search rules in
    record {
      whole = side_goes_on old between now c.args.side c.loop-run.run totals c.loop-run.invariant.whole c.in_ok-put_line.ensures.whole;
      later = later;
    }
