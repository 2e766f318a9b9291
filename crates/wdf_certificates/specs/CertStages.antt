-- What the stages of certificates answer for the network of one side.
use Rattle.std.specs.Prelude.{◌≡◌, ℕ, List, Some, Result, Ok, Err, slice_get, ⊤}
use Rattle.std.specs.Option.{option_map}
use Rattle.wdf_law.specs.declared.side.Side.{Side}
use Rattle.wdf_law.specs.Network.{Network, is_reactance, reactances}
use Rattle.wdf_residue.specs.Elimination.{IsFirstDependence}
use Rattle.wdf_netlist.specs.declared.element.Element.{Element}
use Rattle.wdf_netlist.specs.Circuits.{CircuitValue, numbers_where}
use Rattle.wdf_check.specs.Certificate.{Certificate, Certifies}
use Rattle.wdf_check.specs.Observability.{observability}
use Rattle.wdf_certificates.specs.declared.certify_stop.CertifyStop.{CertifyStop}
use Rattle.wdf_certificates.specs.declared.certify_stop.CertifyStop.TheVariants.{Unobservable}
use Rattle.wdf_certificates.specs.declared.certify_stop.CertifyStop.TheVariants as certifying
use Rattle.wdf_certificates.specs.declared.check_stop.CheckStop.{CheckStop}
use Rattle.wdf_certificates.specs.declared.check_stop.CheckStop.TheVariants.{CertWrong}
use Rattle.wdf_certificates.specs.declared.check_stop.CheckStop.TheVariants as checking
use Rattle.wdf_certificates.specs.Certifying.{IsCertificate}
use Rattle.wdf_certificates.specs.CertChecking.{IsWrong}

-- the network has the circuit's reactances
abbrev pub HasReactances : CircuitValue → Network → Type 0
HasReactances c n = reactances n ≡ numbers_where is_reactance c.elements

-- the element whose state has this number has this name
pub record IsStateOf (elements : List Element) (state : ℕ) (name : List ℕ) : Type 0 where
  pub element : ℕ
  pub reactance : slice_get (numbers_where is_reactance elements) state ≡ Some element
  pub named : option_map (λ (e : Element). e.name) (slice_get elements element) ≡ Some name

-- the network has an obstruction, the first state of which is that of the circuit's element of this name
pub record IsObstructedIn (c : CircuitValue) (n : Network) (name kernel : List ℕ) : Type 0 where
  pub state : ℕ
  pub dependence : IsFirstDependence (observability n) state kernel
  pub at : IsStateOf c.elements state name

abbrev pub GivesCert : Side → CircuitValue → Network → Result Certificate CertifyStop → Type 0
GivesCert side c n (Ok cert) = IsCertificate n cert
GivesCert side c n (Err (Unobservable at name kernel)) = (at ≡ side) × IsObstructedIn c n name kernel
GivesCert side c n (Err certifying.NoMemory) = ⊤

abbrev pub ChecksOne : {T : Type 0} → Side → Network → Certificate → Result T CheckStop → Type 0
ChecksOne side n c (Ok _) = Certifies n c
ChecksOne side n c (Err (CertWrong at fault)) = (at ≡ side) × IsWrong n c fault
ChecksOne side n c (Err checking.NoMemory) = ⊤
