use Rattle.wdf_netlist.specs.Statements.{lattice}
use Rattle.wdf_netlist.proofs.StandingLemmas.{no_lattice}
use Rattle.wdf_netlist.proofs.sayings.read_lattice.Goals as goal

pub returns : goal.returns
returns c = λ before r none. (lattice c.in_ok-value.value, c.in_ok-value.ensures.said before, c.say_lattice.ensures before r (no_lattice before none))
