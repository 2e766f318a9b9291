use Rattle.std.proofs.Common.{sym, subst}
use Rattle.wdf_words.specs.Orders.{texts}
use Rattle.wdf.specs.RunAnswer.{RefusesRun}
use Rattle.wdf.specs.World.{world}
use Rattle.wdf.proofs.StopLemmas.{run_row}
use Rattle.wdf.proofs.commands.do_run.Goals as goal

pub returns-in-Err-clause-refused : goal.returns-in-Err-clause-refused
returns-in-Err-clause-refused g c =
    let w = world (texts c.args.words.now) (g.H.Shelf.files c.args.shelf.now) (g.I.Source.left c.args.input.now) (g.I.Source.left c.filter_words.new.input) (g.O.Sink.written c.args.out.now) (g.O.Sink.written c.filter_words.new.out) (g.N.Sink.written c.args.note.now) (g.N.Sink.written c.filter_words.new.note) in
    subst (RefusesRun w c.args.order.now) (sym c.from.ensures) (run_row w c.args.order.now c.in-Err.stop c.in-Err.ensures.refused)
