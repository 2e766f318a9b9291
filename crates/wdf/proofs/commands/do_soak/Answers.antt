use Rattle.std.proofs.Common.{sym, subst}
use Rattle.wdf.specs.SoakAnswer.{RefusesSoak}
use Rattle.wdf.specs.World.{world}
use Rattle.wdf.proofs.StopLemmas.{soak_row}
use Rattle.wdf.proofs.commands.do_soak.Goals as goal

pub returns-in-Err-clause-refused : goal.returns-in-Err-clause-refused
returns-in-Err-clause-refused g c words files left noted =
    let w = world words files left left (g.O.Sink.written c.args.out.now) (g.O.Sink.written c.soak_order.new.out) noted noted in
    subst (RefusesSoak w c.args.order.now) (sym c.from.ensures) (soak_row w c.args.order.now c.in-Err.stop (c.in-Err.ensures.refused words files left noted))
