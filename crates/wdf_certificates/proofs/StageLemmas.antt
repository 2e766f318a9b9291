-- From stage to stage, and from the network of one side to those of all.
use Rattle.std.proofs.Common.{◌≡◌, ℕ, List, Option, Some, Result, Ok, Err, refl, sym, ap, ◌∙◌, subst}
use Rattle.std.specs.Prelude.{slice_get, IsErr, IsErrAnd}
use Rattle.std.proofs.lemmas.Bool.{false≢true}
use mathlib.Core.Logic.{inl, inr}
use Rattle.wdf_io.specs.Files.{Files}
use Rattle.wdf_law.specs.declared.side.Side.{Side}
use Rattle.wdf_law.specs.declared.side.Side.TheVariants.{A, B}
use Rattle.wdf_law.specs.Network.{Network}
use Rattle.wdf_netlist.specs.declared.form.Form.{Form}
use Rattle.wdf_netlist.specs.declared.form.Form.TheVariants.{Lattice as Two}
use Rattle.wdf_netlist.specs.Circuits.{CircuitValue}
use Rattle.wdf_lattice.specs.declared.networks.Networks.{Networks}
use Rattle.wdf_lattice.specs.declared.networks.Networks.TheVariants.{Lattice}
use Rattle.wdf_design.specs.Realising.{circuit_at}
use Rattle.wdf_cert.specs.declared.cert_text_fault.CertTextFault.{CertTextFault}
use Rattle.wdf_cert.specs.declared.cert_text_fault.CertTextFault.TheVariants.{Syntax, Range, NoMemory}
use Rattle.wdf_cert.specs.CertFormat.{ReadsFile}
use Rattle.wdf_stages.specs.ElementNames.{name_in}
use Rattle.wdf_stages.specs.FileLoading.{IsFile}
use Rattle.wdf_certificates.specs.declared.certify_stop.CertifyStop.{CertifyStop}
use Rattle.wdf_certificates.specs.declared.certify_stop.CertifyStop.TheVariants as certifying
use Rattle.wdf_certificates.specs.Certifying.{AreOfForm, CertifyRefuses, HasCertificate, IsObstructed}
use Rattle.wdf_certificates.specs.CertLoading.{LoadRefuses, reading_stop_of}
use Rattle.wdf_certificates.specs.CertStages.{GivesCert, HasReactances, IsObstructedIn}

-- the stop of a stage is handed on
pub handed_on : {X E : Type 0} (r : Result X E) (stop : E) → IsErr r → IsErrAnd r (λ (s : E). s ≡ stop) → r ≡ Err stop
handed_on (Ok x) stop h g = absurd (false≢true h)
handed_on (Err s) stop h g = λ i. Err (g i)

-- a file that is none of certificates
pub unread : (files : Option Files) (word : ℕ) (name text : List ℕ) (fault : CertTextFault) → IsFile files name text → ReadsFile text (Err fault)
    → LoadRefuses files word name (reading_stop_of fault)
unread files word name text (Syntax at) file h = record { text = text; file = file; fault = h }
unread files word name text (Range at) file h = record { text = text; file = file; fault = h }
unread files word name text NoMemory file h = tt

-- an obstruction of the network of a side
obstructed : (form : Form) (side : Side) (c : CircuitValue) (n : Network) (name kernel : List ℕ) → circuit_at form side ≡ Some c → HasReactances c n
    → IsObstructedIn c n name kernel → IsObstructed form side n name kernel
obstructed form side c n name kernel there same h = record {
  state = h.state;
  element = h.at.element;
  dependence = h.dependence;
  reactance = ap (λ l. slice_get l h.state) same ∙ h.at.reactance;
  named = ap (λ o. name_in o h.at.element) there ∙ h.at.named;
}

-- in a lattice branch A's, and branch B's where A has a certificate
pub first_refused : (form : Form) (ns : Networks) (a b : CircuitValue) (m n : Network) (stop : CertifyStop) → AreOfForm form ns → form ≡ Two a b → ns ≡ Lattice m n
    → GivesCert A a m (Err stop) → CertifyRefuses form ns stop
first_refused form ns a b m n stop of is is' gives =
    subst (λ f. CertifyRefuses f ns stop) (sym is) (subst (λ s. CertifyRefuses (Two a b) s stop) (sym is')
    (by stop (subst (AreOfForm (Two a b)) is' (subst (λ f. AreOfForm f ns) is of)) gives))
  where
    by : (s : CertifyStop) → AreOfForm (Two a b) (Lattice m n) → GivesCert A a m (Err s) → CertifyRefuses (Two a b) (Lattice m n) s
    by (certifying.Unobservable side name kernel) of' h = inl (h.0, obstructed (Two a b) A a m name kernel refl of'.1.0.reactances_are h.1)
    by certifying.NoMemory of' h = tt

pub second_refused : (form : Form) (ns : Networks) (a b : CircuitValue) (m n : Network) (stop : CertifyStop) → AreOfForm form ns → form ≡ Two a b → ns ≡ Lattice m n
    → HasCertificate m → GivesCert B b n (Err stop) → CertifyRefuses form ns stop
second_refused form ns a b m n stop of is is' first gives =
    subst (λ f. CertifyRefuses f ns stop) (sym is) (subst (λ s. CertifyRefuses (Two a b) s stop) (sym is')
    (by stop (subst (AreOfForm (Two a b)) is' (subst (λ f. AreOfForm f ns) is of)) gives))
  where
    by : (s : CertifyStop) → AreOfForm (Two a b) (Lattice m n) → GivesCert B b n (Err s) → CertifyRefuses (Two a b) (Lattice m n) s
    by (certifying.Unobservable side name kernel) of' h = inr (h.0, first, obstructed (Two a b) B b n name kernel refl of'.1.1.reactances_are h.1)
    by certifying.NoMemory of' h = tt
