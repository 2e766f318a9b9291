use Rattle.std.proofs.Common.{rules, ◌≤◌}
use Rattle.std.specs.Prelude.{unsigned_abs}
use Rattle.wdf_loop.proofs.lanes.reflected.Goals as goal

pub returns : goal.returns
returns g c i less =
    let few : unsigned_abs c.args.sign ≤ 1 = c.requires.sign i less in
    search (rules, few)
