use Rattle.std.proofs.Common.{◌≡◌, rules, ◌++◌, subst}
use Rattle.std.specs.Io.KnownBytes.{Appends}
use Rattle.std.proofs.KnownBytes.{Appends-trans}
use Rattle.wdf_io.specs.Moved.{AppendsPart}
use Rattle.wdf_frames.specs.RunStates.{limited_by}
use Rattle.wdf_reporting.specs.CountLines.{count_text}
use Rattle.wdf.specs.RunNote.{ledger_by, told_by}
use Rattle.wdf.proofs.NoteLemmas.{in_err, on_err, part_behind, part_front}
use Rattle.wdf.proofs.noting.put_note.Goals as goal

-- the counts were not written whole
pub returns-in_err-put_all-2-clause-part : goal.returns-in_err-put_all-2-clause-part
returns-in_err-put_all-2-clause-part g c =
    let old = g.N.Sink.written c.args.note.now in
    let between = g.N.Sink.written c.put_all.new.sink in
    let now = g.N.Sink.written c.put_all-2.new.sink in
    let report = c.args.report.now in
    let run = c.args.wave_run.now in
    let counts = count_text c.args.frames (limited_by run) in
    let told : c.as_bytes.result.now ≡ counts = search rules in
    on_err c.from_residual-in_err-put_all-2.result (AppendsPart old now (told_by report c.args.frames run))
    (part_front old now (report ++ counts) (ledger_by run)
    (part_behind old between now report counts c.in_ok-put_all.ensures.whole (subst (AppendsPart between now) told c.in_err-put_all-2.ensures.part)))

-- the ledger's lines were not
pub returns-clause-part : goal.returns-clause-part
returns-clause-part g c =
    let old = g.N.Sink.written c.args.note.now in
    let between = g.N.Sink.written c.put_all.new.sink in
    let behind = g.N.Sink.written c.put_all-2.new.sink in
    let now = g.N.Sink.written c.put_ledger.new.note in
    let report = c.args.report.now in
    let run = c.args.wave_run.now in
    let counts = count_text c.args.frames (limited_by run) in
    let told : c.as_bytes.result.now ≡ counts = search rules in
    in_err c.put_ledger.result (AppendsPart behind now (ledger_by run)) (AppendsPart old now (told_by report c.args.frames run))
    (part_behind old behind now (report ++ counts) (ledger_by run)
    (Appends-trans old between behind report counts c.in_ok-put_all.ensures.whole (subst (Appends between behind) told c.in_ok-put_all-2.ensures.whole)))
    c.put_ledger.ensures.part
