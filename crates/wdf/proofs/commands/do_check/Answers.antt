use Rattle.std.proofs.Common.{sym, subst}
use Rattle.wdf_words.specs.Orders.{texts}
use Rattle.wdf.specs.CheckAnswer.{RefusesCheck}
use Rattle.wdf.specs.World.{world}
use Rattle.wdf.proofs.StopLemmas.{check_row}
use Rattle.wdf.proofs.commands.do_check.Goals as goal

pub returns-in-Err-clause-refused : goal.returns-in-Err-clause-refused
returns-in-Err-clause-refused g c left noted =
    let w = world (texts c.args.words.now) (g.H.Shelf.files c.args.shelf.now) left left (g.O.Sink.written c.args.out.now) (g.O.Sink.written c.check_words.new.out) noted noted in
    subst (RefusesCheck w c.args.order.now) (sym c.from.ensures) (check_row w c.args.order.now c.in-Err.stop (c.in-Err.ensures.refused left noted))
