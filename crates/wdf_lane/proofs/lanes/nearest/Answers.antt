-- The lanes by the lemma on one.
use Rattle.wdf_lane.proofs.LaneLemmas.{nearest_of-is, nearest_of-four}
use Rattle.wdf_lane.proofs.lanes.nearest.Goals as goal

pub returns-clause-values : goal.returns-clause-values
returns-clause-values c = nearest_of-is c.args.low c.args.high c.args.values c.ranges.low c.ranges.high c.requires

pub returns-clause-four : goal.returns-clause-four
returns-clause-four c = nearest_of-four c.args.low c.args.high c.args.values c.requires
