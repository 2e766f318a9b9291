use Rattle.std.proofs.Common.{[], None}
use Rattle.wdf_report.specs.declared.status.Status.TheVariants.{LoadFault, ReadFault, NoteFault}
use Rattle.wdf_words.specs.declared.command.Command.TheVariants.{Report, Certify, Check, Soak}
use Rattle.wdf_words.specs.Orders.{texts}
use Rattle.wdf.proofs.AskedLemmas.{as_asked, row_of}
use Rattle.wdf.proofs.run.perform.Goals as goal

-- ---- `report`

pub returns-in-Report-clause-refused : goal.returns-in-Report-clause-refused
returns-in-Report-clause-refused g c =
    as_asked _ _ _ Report c.args.order.now.command c.in-Report.is (c.do_report.ensures.refused (g.I.Source.left c.args.input.now) (g.N.Sink.written c.args.note.now))

-- the input is not read
pub returns-in-Report-clause-read_fault : goal.returns-in-Report-clause-read_fault
returns-in-Report-clause-read_fault g c e = absurd (row_of _ _ ReadFault e (c.do_report.ensures.refused None None))

-- nor is the note written
pub returns-in-Report-clause-note_fault : goal.returns-in-Report-clause-note_fault
returns-in-Report-clause-note_fault g c e = absurd (row_of _ _ NoteFault e (c.do_report.ensures.refused None None))

-- ---- `certify`

pub returns-in-Certify-clause-refused : goal.returns-in-Certify-clause-refused
returns-in-Certify-clause-refused g c =
    as_asked _ _ _ Certify c.args.order.now.command c.in-Certify.is (c.do_certify.ensures.refused (g.I.Source.left c.args.input.now) (g.N.Sink.written c.args.note.now))

-- the input is not read
pub returns-in-Certify-clause-read_fault : goal.returns-in-Certify-clause-read_fault
returns-in-Certify-clause-read_fault g c e = absurd (row_of _ _ ReadFault e (c.do_certify.ensures.refused None None))

-- nor is the note written
pub returns-in-Certify-clause-note_fault : goal.returns-in-Certify-clause-note_fault
returns-in-Certify-clause-note_fault g c e = absurd (row_of _ _ NoteFault e (c.do_certify.ensures.refused None None))

-- ---- `check`

pub returns-in-Check-clause-refused : goal.returns-in-Check-clause-refused
returns-in-Check-clause-refused g c =
    as_asked _ _ _ Check c.args.order.now.command c.in-Check.is (c.do_check.ensures.refused (g.I.Source.left c.args.input.now) (g.N.Sink.written c.args.note.now))

-- the input is not read
pub returns-in-Check-clause-read_fault : goal.returns-in-Check-clause-read_fault
returns-in-Check-clause-read_fault g c e = absurd (row_of _ _ ReadFault e (c.do_check.ensures.refused None None))

-- nor is the note written
pub returns-in-Check-clause-note_fault : goal.returns-in-Check-clause-note_fault
returns-in-Check-clause-note_fault g c e = absurd (row_of _ _ NoteFault e (c.do_check.ensures.refused None None))

-- ---- `soak`

pub returns-in-Soak-clause-refused : goal.returns-in-Soak-clause-refused
returns-in-Soak-clause-refused g c =
    as_asked _ _ _ Soak c.args.order.now.command c.in-Soak.is (c.do_soak.ensures.refused (texts c.args.words.now) (g.H.Shelf.files c.args.shelf.now) (g.I.Source.left c.args.input.now) (g.N.Sink.written c.args.note.now))

-- no file is loaded
pub returns-in-Soak-clause-load_fault : goal.returns-in-Soak-clause-load_fault
returns-in-Soak-clause-load_fault g c e = absurd (row_of _ _ LoadFault e (c.do_soak.ensures.refused [] None None None))

-- the input is not read
pub returns-in-Soak-clause-read_fault : goal.returns-in-Soak-clause-read_fault
returns-in-Soak-clause-read_fault g c e = absurd (row_of _ _ ReadFault e (c.do_soak.ensures.refused [] None None None))

-- nor is the note written
pub returns-in-Soak-clause-note_fault : goal.returns-in-Soak-clause-note_fault
returns-in-Soak-clause-note_fault g c e = absurd (row_of _ _ NoteFault e (c.do_soak.ensures.refused [] None None None))
