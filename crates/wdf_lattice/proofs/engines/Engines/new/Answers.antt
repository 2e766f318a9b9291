-- The runs of both branches.
use Rattle.std.proofs.Common.{sym, subst}
use Rattle.wdf_lattice.specs.declared.engines.Engines.TheVariants.{Two}
use Rattle.wdf_lattice.specs.declared.networks.Networks.{Networks}
use Rattle.wdf_lattice.specs.RunSides.{AreNewSides}
use Rattle.wdf_lattice.proofs.engines.Engines.new.Goals as goal

pub returns-in_ok-second-in-Lattice : goal.returns-in_ok-second-in-Lattice
returns-in_ok-second-in-Lattice c =
    subst (λ (ns : Networks). AreNewSides ns c.args.plan c.args.runs (Two c.in_ok-first-in-Lattice.first c.in_ok-second-in-Lattice.second)) (sym c.in-Lattice.is)
    (c.in_ok-first-in-Lattice.ensures, c.in_ok-second-in-Lattice.ensures)
