-- The lanes by the lemma on one.
use Rattle.std.proofs.Common.{ap, of_z, w64}
use Rattle.wdf_lane.proofs.LaneLemmas.{quotients_of-is, quotients_of-four}
use Rattle.wdf_lane.proofs.lanes.quotients.Goals as goal

pub returns-clause-values : goal.returns-clause-values
returns-clause-values c =
    quotients_of-is (of_z w64 c.part_mask.result) (of_z w64 c.from.result) c.args.down c.args.waves c.requires.four c.requires.few
    (ap (of_z w64) c.part_mask.ensures) (ap (of_z w64) c.from.ensures)

pub returns-clause-four : goal.returns-clause-four
returns-clause-four c = quotients_of-four (of_z w64 c.part_mask.result) (of_z w64 c.from.result) c.args.waves c.requires.four
