-- Networks whose sources all are driven.
use Rattle.std.proofs.Common.{ℕ, refl}
use Rattle.wdf_lattice.specs.declared.networks.Networks.{Networks}
use Rattle.wdf_lattice.specs.declared.networks.Networks.TheVariants.{Ladder, Lattice}
use Rattle.wdf_lattice.specs.Runners.{DriveAll}
use Rattle.wdf_lattice.specs.Sides.{run_count}

pub drives_one : (ns : Networks) → ((channels : ℕ) → DriveAll ns (run_count ns channels)) → DriveAll ns 1
drives_one (Ladder n) h = λ _. refl
drives_one (Lattice a b) h = h 1
