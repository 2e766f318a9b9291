use Rattle.std.proofs.Common.{subst}
use Rattle.wdf_law.specs.Network.{IsNetwork}
use Rattle.wdf_loop.proofs.RowLemmas.{made_row}
use Rattle.wdf_loop.proofs.row.made.Goals as goal

pub returns : goal.returns
returns c = made_row c.args.schedule.now c.rules.ensures (subst IsNetwork c.net.ensures c.rules-2.ensures)
