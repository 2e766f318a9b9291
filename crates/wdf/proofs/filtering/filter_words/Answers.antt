use Rattle.std.proofs.Common.{None, sym, subst}
use Rattle.std.proofs.KnownBytes.{Keeps-refl}
use Rattle.std.specs.Prelude.{IfErr, List, ℕ}
use Rattle.std.specs.Io.KnownBytes.{Appends}
use Rattle.wdf_io.specs.Moved.{AppendsPart}
use Rattle.wdf_words.specs.Orders.{texts}
use Rattle.wdf.specs.declared.filtering_stop.FilteringStop.TheVariants.{Begin, Frame, Note}
use Rattle.wdf.specs.RunAnswer.{RunStops}
use Rattle.wdf.specs.RunNote.{told_by}
use Rattle.wdf.specs.World.{world}
use Rattle.wdf.proofs.Handed.{handed_on}
use Rattle.wdf.proofs.RunLemmas.{at_frames, at_note, done_run, not_quiet}
use Rattle.wdf.proofs.filtering.filter_words.Goals as goal

-- the run did not begin
pub returns-in_err-report-clause-refused : goal.returns-in_err-report-clause-refused
returns-in_err-report-clause-refused g c =
    let old = g.O.Sink.written c.args.out.now in
    let noted = g.N.Sink.written c.args.note.now in
    let w = world (texts c.args.words.now) (g.H.Shelf.files c.args.shelf.now) (g.I.Source.left c.args.input.now) (g.I.Source.left c.begin_words.new.input) old old noted noted in
    let stop = c.in_err-report.field-0.0 in
    let same = handed_on c.from_residual.result (Begin stop) c.from_residual.ensures.0 c.from_residual.ensures.1 in
    subst (λ r. IfErr r (RunStops w c.args.order.now)) (sym same) (c.in_err-report.ensures.refused old noted)

-- the run is at rest
pub write-requires : goal.write-requires
write-requires g c = (c.in_ok-report.ensures.begun None None None None None).ready.fresh

-- it stopped at its frames
pub returns-in_err-write-clause-refused : goal.returns-in_err-write-clause-refused
returns-in_err-write-clause-refused g c =
    let old = g.O.Sink.written c.args.out.now in
    let now = g.O.Sink.written c.write.new.out in
    let noted = g.N.Sink.written c.args.note.now in
    let between = g.I.Source.left c.begin_words.new.input in
    let behind = g.I.Source.left c.write.new.input in
    let w = world (texts c.args.words.now) (g.H.Shelf.files c.args.shelf.now) (g.I.Source.left c.args.input.now) behind old now noted noted in
    let o = c.args.order.now in
    let stop = c.in_err-write.field-0.0 in
    let same = handed_on c.from_residual-in_err-write.result (Frame stop) c.from_residual-in_err-write.ensures.0 c.from_residual-in_err-write.ensures.1 in
    subst (λ r. IfErr r (RunStops w o)) (sym same)
    (at_frames w o between c.in_ok-report.field-0 (c.in_ok-report.ensures.begun behind old now noted noted) stop c.in_err-write.ensures.stopped (Keeps-refl noted))

-- the write of the note failed
pub returns-in_err-put_note-clause-refused : goal.returns-in_err-put_note-clause-refused
returns-in_err-put_note-clause-refused g c =
    let old = g.O.Sink.written c.args.out.now in
    let now = g.O.Sink.written c.write.new.out in
    let noted = g.N.Sink.written c.args.note.now in
    let noted' = g.N.Sink.written c.put_note.new.note in
    let between = g.I.Source.left c.begin_words.new.input in
    let behind = g.I.Source.left c.write.new.input in
    let w = world (texts c.args.words.now) (g.H.Shelf.files c.args.shelf.now) (g.I.Source.left c.args.input.now) behind old now noted noted' in
    let o = c.args.order.now in
    let b = c.in_ok-report.field-0 in
    let run = c.write.new.self in
    let part = subst (λ (report : List ℕ). AppendsPart noted noted' (told_by report b.frames run)) c.deref.ensures.value c.in_err-put_note.ensures.part in
    let same = handed_on c.from_residual-in_err-put_note.result Note c.from_residual-in_err-put_note.ensures.0 c.from_residual-in_err-put_note.ensures.1 in
    subst (λ r. IfErr r (RunStops w o)) (sym same)
    (at_note w o between b (c.in_ok-report.ensures.begun behind old now noted noted') run c.in_ok-write.ensures.same c.in_ok-write.ensures.told part)

pub returns-in_err-put_note-clause-quiet : goal.returns-in_err-put_note-clause-quiet
returns-in_err-put_note-clause-quiet g c =
    let same = handed_on c.from_residual-in_err-put_note.result Note c.from_residual-in_err-put_note.ensures.0 c.from_residual-in_err-put_note.ensures.1 in
    not_quiet c.from_residual-in_err-put_note.result _ same

-- all is written
pub returns-clause-done : goal.returns-clause-done
returns-clause-done g c =
    let old = g.O.Sink.written c.args.out.now in
    let now = g.O.Sink.written c.write.new.out in
    let noted = g.N.Sink.written c.args.note.now in
    let noted' = g.N.Sink.written c.put_note.new.note in
    let between = g.I.Source.left c.begin_words.new.input in
    let behind = g.I.Source.left c.write.new.input in
    let w = world (texts c.args.words.now) (g.H.Shelf.files c.args.shelf.now) (g.I.Source.left c.args.input.now) behind old now noted noted' in
    let o = c.args.order.now in
    let b = c.in_ok-report.field-0 in
    let run = c.write.new.self in
    let whole = subst (λ (report : List ℕ). Appends noted noted' (told_by report b.frames run)) c.deref.ensures.value c.in_ok-put_note.ensures.whole in
    done_run w o between b (c.in_ok-report.ensures.begun behind old now noted noted') run c.in_ok-write.ensures.same c.in_ok-write.ensures.told whole
