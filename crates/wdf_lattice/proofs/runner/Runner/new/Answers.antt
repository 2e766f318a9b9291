-- A runner begins with its runs at rest.
use Rattle.std.proofs.Common.{refl}
use Rattle.wdf_lattice.proofs.BeginLemmas.{all_begin}
use Rattle.wdf_lattice.proofs.runner.Runner.new.Goals as goal

pub returns-clause-begun : goal.returns-clause-begun
returns-clause-begun c =
    let begun = all_begin c.args.networks c.args.plan c.args.runs c.in_ok-engines.engines c.in_ok-engines.ensures in
    record { networks_are = refl; plan_is = refl; runs_are = refl; none_done = begun.none_done; rest = begun.rest; accounts_are = begun.opens }
