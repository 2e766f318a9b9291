use Rattle.std.proofs.Common.{◌-◌, List, length, sym, subst}
use Rattle.wdf_sched.specs.declared.op.Op.{Op}
use Rattle.wdf_loop.specs.Stages.{IsPair, op_at}
use Rattle.wdf_loop.proofs.RowLemmas.{paired}
use Rattle.wdf_loop.proofs.row.stage_at.Goals as goal

pub of-requires : goal.of-requires
of-requires c =
    let pair = paired c.args.schedule.now c.rules.ensures c.args.i c.requires in
    subst (λ (ops : List Op). IsPair (op_at ops c.args.i) (op_at ops (length ops - 1 - c.args.i))) (sym c.ops-ops.ensures) pair.1
