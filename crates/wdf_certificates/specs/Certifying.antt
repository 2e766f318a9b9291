-- The certificates of a netlist's networks, and what stands in the way of one.
use Rattle.std.specs.Prelude.{◌≡◌, ℕ, ◌⊎◌, List, None, Some, slice_get, ⊤}
use Rattle.wdf_law.specs.declared.side.Side.{Side}
use Rattle.wdf_law.specs.declared.side.Side.TheVariants.{Whole, A, B}
use Rattle.wdf_law.specs.Network.{Network, reactances}
use Rattle.wdf_residue.specs.Elimination.{IsFirstDependence}
use Rattle.wdf_netlist.specs.declared.form.Form.{Form}
use Rattle.wdf_lattice.specs.declared.networks.Networks.{Networks}
use Rattle.wdf_lattice.specs.declared.networks.Networks.TheVariants.{Ladder, Lattice}
use Rattle.wdf_design.specs.Realising.{RealisesEach}
use Rattle.wdf_check.specs.Certificate.{Certificate, HasSquareInverse}
use Rattle.wdf_check.specs.Observability.{observability}
use Rattle.wdf_cert.specs.CertText.{file_text}
use Rattle.wdf_cert.specs.Making.{IsMade}
use Rattle.wdf_stages.specs.ElementNames.{name_at}
use Rattle.wdf_certificates.specs.declared.certify_stop.CertifyStop.{CertifyStop}
use Rattle.wdf_certificates.specs.declared.certify_stop.CertifyStop.TheVariants.{Unobservable, NoMemory}

-- each network is of its circuit, with multipliers of some width
abbrev pub AreOfForm : Form → Networks → Type 0
AreOfForm form ns = (k : ℕ) × RealisesEach k form ns

-- the network's certificate: that of the first independent rows, with what the type of a certificate keeps
pub record IsCertificate (n : Network) (c : Certificate) : Type 0 where
  pub made : IsMade n c
  pub square : HasSquareInverse c

abbrev pub HasCertificate : Network → Type 0
HasCertificate n = (c : Certificate) × IsCertificate n c

-- the text of each network's certificate
abbrev pub IsCertified : Networks → (text : List ℕ) → Type 0
IsCertified (Ladder n) text = (c : Certificate) × IsCertificate n c × (text ≡ file_text c None)
IsCertified (Lattice a b) text = (c d : Certificate) × IsCertificate a c × IsCertificate b d × (text ≡ file_text c (Some d))

-- the network of this side has an obstruction: the state of the element of this name is the first that depends on those
-- before it, as the kernel says
pub record IsObstructed (form : Form) (side : Side) (n : Network) (name kernel : List ℕ) : Type 0 where
  pub state : ℕ
  pub element : ℕ
  pub dependence : IsFirstDependence (observability n) state kernel
  pub reactance : slice_get (reactances n) state ≡ Some element
  pub named : name_at form side element ≡ Some name

-- why there is no certificate for each network
abbrev pub CertifyRefuses : Form → Networks → CertifyStop → Type 0
CertifyRefuses form (Ladder n) (Unobservable side name kernel) = (side ≡ Whole) × IsObstructed form Whole n name kernel
CertifyRefuses form (Lattice a b) (Unobservable side name kernel) =
    ((side ≡ A) × IsObstructed form A a name kernel)
    ⊎ ((side ≡ B) × HasCertificate a × IsObstructed form B b name kernel)
CertifyRefuses form (Ladder n) NoMemory = ⊤
CertifyRefuses form (Lattice a b) NoMemory = ⊤
