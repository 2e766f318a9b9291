-- The lanes by the lemma on eight bytes.
use Rattle.std.proofs.Common.{take}
use lib.Lanes.{number_l}
use Rattle.wdf_lane.proofs.SampleLanes.{lanes_of-is, lanes_of-four}
use Rattle.wdf_lane.proofs.lanes.four_samples.Goals as goal

pub returns-clause-values : goal.returns-clause-values
returns-clause-values c = lanes_of-is c.args.bytes.now c.requires c.type_inv.bytes

pub returns-clause-four : goal.returns-clause-four
returns-clause-four c = lanes_of-four (number_l 256 (take 8 c.args.bytes.now))
