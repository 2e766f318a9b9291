use Rattle.std.proofs.Common.{subst}
use Rattle.wdf_law.specs.TreeRules.{HasNumbers}
use Rattle.wdf_loop.proofs.EngineLemmas.{is_fresh}
use Rattle.wdf_loop.proofs.engine.Engine.new.Goals as goal

pub returns : goal.returns
returns c =
    is_fresh c.in_ok-setting.setting c.in_ok-groups.groups c.args.schedule c.args.plan c.args.runs c.rules.ensures (subst HasNumbers c.net.ensures c.numbers.ensures) c.in_ok-setting.ensures.schedule c.in_ok-setting.ensures.plan
    c.in_ok-groups.ensures.count c.in_ok-groups.ensures.silent
