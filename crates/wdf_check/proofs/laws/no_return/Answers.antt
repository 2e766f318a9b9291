use Rattle.wdf_check.proofs.NoReturn.{no_return}
use Rattle.wdf_check.proofs.laws.no_return.Goals as goal

pub returns : goal.returns
returns c cert =
    no_return c.args.net.now cert (record { rules = c.rules.ensures; ports = c.ports.ensures; one_step = c.one_step.ensures; energy = c.energy.ensures })
    c.left_inverse.ensures
