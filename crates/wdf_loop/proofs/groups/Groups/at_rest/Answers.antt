use Rattle.wdf_loop.proofs.AllRunsLemmas.{all_silent}
use Rattle.wdf_loop.proofs.groups.Groups.at_rest.Goals as goal

pub returns-clause-silent : goal.returns-clause-silent
returns-clause-silent c =
    all_silent c.args.setting.now (record { first = c.in_ok-first.first; second = c.in_ok-second.second; third = c.in_ok-third.third })
    c.in_ok-first.ensures.silent c.in_ok-second.ensures.silent c.in_ok-third.ensures.silent
