use Rattle.wdf_sched.proofs.SumLemmas.{small_sums}
use Rattle.wdf_sched.proofs.laws.sums.Goals as goal

pub returns : goal.returns
returns c = small_sums c.args.schedule.now c.rules.ensures
