use Rattle.std.proofs.Common.{subst}
use Rattle.wdf_law.specs.TreeRules.{HasNumbers}
use Rattle.wdf_sched.proofs.StartLemmas.{has_values}
use Rattle.wdf_sched.proofs.laws.values.Goals as goal

pub returns : goal.returns
returns c = has_values c.args.schedule.now c.rules.ensures (subst HasNumbers c.net.ensures c.numbers.ensures)
