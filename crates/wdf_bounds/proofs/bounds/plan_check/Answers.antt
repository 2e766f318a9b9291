use Rattle.std.proofs.Common.{◌≡◌, ◌≤◌, length, ap, arith}
use Rattle.wdf_bounds.proofs.FitLemmas.{fits_at_end}
use Rattle.wdf_bounds.proofs.bounds.plan_check.Goals as goal

pub returns-clause-fits : goal.returns-clause-fits
returns-clause-fits c =
    let count : length c.list-port-items.result.now ≡ length c.args.ratios.now = ap length c.list-port-items.ensures in
    let here : length c.args.ratios.now ≤ c.ports.port-index = omega arith in
    fits_at_end c.args.net.now c.args.plan.now c.args.ratios.now c.ports.port-index c.requires.ratios.0 c.requires.ratios.1 c.requires.width c.ports.invariant.within here
