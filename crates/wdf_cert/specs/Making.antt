-- What the maker of certificates answers.
use Rattle.std.specs.Prelude.{Result, Ok, Err}
use Rattle.wdf_law.specs.Network.{Network}
use Rattle.wdf_residue.specs.Elimination.{AreFirstIndependent, IsFirstDependence}
use Rattle.wdf_check.specs.Observability.{observability}
use Rattle.wdf_check.specs.Certificate.{Certificate, Certifies}
use Rattle.wdf_cert.specs.declared.make_fault.MakeFault.{MakeFault}
use Rattle.wdf_cert.specs.declared.make_fault.MakeFault.TheVariants.{Unobservable, NoMemory}

-- the certificate of a network: that of the first rows of its observability matrix that are independent
pub record IsMade (n : Network) (c : Certificate) : Type 0 where
  pub certifies : Certifies n c
  pub first : AreFirstIndependent (observability n) c.rows

-- A certificate, or the first column of the observability matrix that depends on the columns before it and how: an
-- obstruction, and where there is one there is no certificate.
abbrev pub Makes : Network → Result Certificate MakeFault → Type 0
Makes n (Ok cert) = IsMade n cert
Makes n (Err (Unobservable state kernel)) = IsFirstDependence (observability n) state kernel
Makes n (Err NoMemory) = Unit {0}
