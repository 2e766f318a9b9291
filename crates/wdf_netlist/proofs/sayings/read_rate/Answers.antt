use Rattle.wdf_netlist.specs.Statements.{rate}
use Rattle.wdf_netlist.proofs.StandingLemmas.{no_rate}
use Rattle.wdf_netlist.proofs.sayings.read_rate.Goals as goal

pub returns : goal.returns
returns c = λ before r none. (rate c.in_ok-frames.frames, c.in_ok-frames.ensures.said before, c.say_rate.ensures before r (no_rate before none))
