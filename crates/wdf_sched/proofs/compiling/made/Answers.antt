use Rattle.wdf_sched.proofs.ScheduleLemmas.{is_made}
use Rattle.wdf_sched.proofs.compiling.made.Goals as goal

pub returns : goal.returns
returns c = is_made c.args.net.now c.rules.ensures c.numbers.ensures c.multipliers.ensures c.one_step.ensures
