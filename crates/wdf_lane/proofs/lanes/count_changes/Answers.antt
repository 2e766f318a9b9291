-- The lanes by the lemma on one.
use Rattle.wdf_lane.proofs.LaneLemmas.{changes_of-is}
use Rattle.wdf_lane.proofs.lanes.count_changes.Goals as goal

pub returns : goal.returns
returns c = changes_of-is c.args.old c.args.new c.requires.old c.requires.new
