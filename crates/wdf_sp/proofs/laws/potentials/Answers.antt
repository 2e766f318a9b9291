use Rattle.wdf_sp.specs.Edges.{branches}
use Rattle.wdf_sp.proofs.KirchhoffLemmas.{obeys_kirchhoff}
use Rattle.wdf_sp.proofs.laws.potentials.Goals as goal

pub returns : goal.returns
returns c = obeys_kirchhoff (branches c.args.circuit.now.elements) c.args.net.now c.requires
