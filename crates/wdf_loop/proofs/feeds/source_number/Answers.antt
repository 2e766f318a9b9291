use Rattle.std.proofs.Common.{◌≡◌, arith}
use Rattle.std.proofs.lemmas.Grind.{common_steps}
use Rattle.wdf_loop.specs.Feeds.{source_at}
use Rattle.wdf_loop.proofs.SourceLemmas.{source_below}
use Rattle.wdf_loop.proofs.feeds.source_number.Goals as goal

pub returns-clause-below : goal.returns-clause-below
returns-clause-below c =
    let value : c.in-Some.number ≡ source_at c.args.net.now c.args.i = grind (arith, common_steps, c.in-Some.ensures.number) in
    let below = source_below c.args.net.now c.args.i c.requires in
    omega (arith, value, below)
