-- The certificates of a file against the networks: the first is a ladder's or branch A's, the second branch B's.
use Rattle.std.specs.Prelude.{◌≡◌, ◌≢◌, ◌⊎◌, Option, None, Some, Err, ⊤}
use Rattle.wdf_law.specs.declared.side.Side.TheVariants.{Whole, A, B}
use Rattle.wdf_law.specs.Network.{Network}
use Rattle.wdf_lattice.specs.declared.networks.Networks.{Networks}
use Rattle.wdf_lattice.specs.declared.networks.Networks.TheVariants.{Ladder, Lattice}
use Rattle.wdf_check.specs.Certificate.{Certificate, Certifies}
use Rattle.wdf_check.specs.Checking.{Checks}
use Rattle.wdf_check.specs.declared.cert_fault.CertFault.{CertFault}
use Rattle.wdf_check.specs.declared.cert_fault.CertFault.TheVariants.{WrongCount, NoMemory}
use Rattle.wdf_certificates.specs.declared.check_stop.CheckStop.{CheckStop}
use Rattle.wdf_certificates.specs.declared.check_stop.CheckStop.TheVariants.{CertWrong}
use Rattle.wdf_certificates.specs.declared.check_stop.CheckStop.TheVariants as stops

-- there is a certificate for each network, and it certifies that
abbrev pub CertifiesEach : Networks → Certificate → Option Certificate → Type 0
CertifiesEach (Ladder n) first None = Certifies n first
CertifiesEach (Ladder n) first (Some second) = ⊥
CertifiesEach (Lattice a b) first None = ⊥
CertifiesEach (Lattice a b) first (Some second) = Certifies a first × Certifies b second

-- the check of the certificate has this fault
pub record IsWrong (n : Network) (c : Certificate) (fault : CertFault) : Type 0 where
  pub checked : Checks {T = Unit {0}} n c (Err fault)
  pub memory : fault ≢ NoMemory

-- why the certificates do not certify the networks
abbrev pub CheckRefuses : Networks → Certificate → Option Certificate → CheckStop → Type 0
CheckRefuses (Ladder n) first None (CertWrong side fault) = (side ≡ Whole) × IsWrong n first fault
CheckRefuses (Ladder n) first (Some second) (CertWrong side fault) = (side ≡ Whole) × (fault ≡ WrongCount 2 1)
CheckRefuses (Lattice a b) first None (CertWrong side fault) = (side ≡ Whole) × (fault ≡ WrongCount 1 2)
CheckRefuses (Lattice a b) first (Some second) (CertWrong side fault) =
    ((side ≡ A) × IsWrong a first fault)
    ⊎ ((side ≡ B) × Certifies a first × IsWrong b second fault)
CheckRefuses (Ladder n) first None stops.NoMemory = ⊤
CheckRefuses (Ladder n) first (Some second) stops.NoMemory = ⊤
CheckRefuses (Lattice a b) first None stops.NoMemory = ⊤
CheckRefuses (Lattice a b) first (Some second) stops.NoMemory = ⊤
