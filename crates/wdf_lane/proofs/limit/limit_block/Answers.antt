-- The values are output samples.
use Rattle.std.proofs.Common.{subst, sym}
use Rattle.std.specs.Prelude.{All}
use Rattle.wdf_algebra.specs.Samples.{IsSampleValue}
use Rattle.wdf_lane.proofs.LimitLemmas.{outputs-range}
use Rattle.wdf_lane.proofs.limit.limit_block.Goals as goal

pub returns-clause-range : goal.returns-clause-range
returns-clause-range c =
    subst (All (IsSampleValue c.args.bits)) (sym c.limit_rest.ensures.values) (outputs-range c.args.down c.args.bits c.args.waves.now c.requires.width)
