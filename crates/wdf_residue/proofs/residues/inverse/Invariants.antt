use Rattle.std.proofs.Common.{◌≡◌, ◌*◌, ◌%◌, ◌<◌}
use Rattle.wdf_residue.specs.Residue.{prime}
use Rattle.wdf_residue.proofs.Powers.{power}
use Rattle.wdf_residue.proofs.Inverses.{last_exponent}
use Rattle.wdf_residue.proofs.residues.inverse.Given as goal

abbrev pub invariant-loop-rest : goal.invariant-loop-rest
invariant-loop-rest l = record {
  power_below : l.power < prime;
  square_below : l.square < prime;
  whole : (l.power * power l.square l.rest) % prime ≡ power l.fn.a last_exponent;
}

abbrev pub decreases-loop-rest : goal.decreases-loop-rest
decreases-loop-rest l = l.rest
