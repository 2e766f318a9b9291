use Rattle.wdf_energy.proofs.FollowLemmas.{follows-blocks}
use Rattle.wdf_energy.proofs.laws.blocks_followed.Goals as goal

pub returns : goal.returns
returns c = follows-blocks c.args.net.now c.args.plan.now c.frames_followed.ensures
