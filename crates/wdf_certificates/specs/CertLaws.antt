-- What is told leaves each stage of certificates one answer.
use Rattle.std.specs.Prelude.{◌≡◌, ℕ, Bool, true, false, List, Option, Some, Result}
use Rattle.wdf_io.specs.Files.{Files}
use Rattle.wdf_netlist.specs.declared.form.Form.{Form}
use Rattle.wdf_lattice.specs.declared.networks.Networks.{Networks}
use Rattle.wdf_check.specs.Certificate.{Certificate}
use Rattle.wdf_cert.specs.declared.certs.Certs.{Certs}
use Rattle.wdf_stages.specs.StageLaws.{IsAllowed}
use Rattle.wdf_certificates.specs.declared.certify_stop.CertifyStop.{CertifyStop}
use Rattle.wdf_certificates.specs.declared.certify_stop.CertifyStop.TheVariants as certifying
use Rattle.wdf_certificates.specs.declared.load_stop.LoadStop.{LoadStop}
use Rattle.wdf_certificates.specs.declared.load_stop.LoadStop.TheVariants as loading
use Rattle.wdf_certificates.specs.declared.check_stop.CheckStop.{CheckStop}
use Rattle.wdf_certificates.specs.declared.check_stop.CheckStop.TheVariants as checking
use Rattle.wdf_certificates.specs.Certifying.{IsCertified, CertifyRefuses}
use Rattle.wdf_certificates.specs.CertLoading.{LoadsCerts, LoadRefuses}
use Rattle.wdf_certificates.specs.CertChecking.{CertifiesEach, CheckRefuses}

-- ---- certificates made

abbrev pub rests_on_networks : CertifyStop → Bool
rests_on_networks (certifying.Unobservable side element kernel) = true
rests_on_networks certifying.NoMemory = false

abbrev pub IsCertifyAnswer : Form → Networks → Result (List ℕ) CertifyStop → Type 0
IsCertifyAnswer form ns answer = IsAllowed (IsCertified ns) (CertifyRefuses form ns) rests_on_networks answer

abbrev pub HasOneCertifying : Type 0
HasOneCertifying = (form : Form) (ns : Networks) (x y : Result (List ℕ) CertifyStop) → IsCertifyAnswer form ns x → IsCertifyAnswer form ns y → x ≡ y

-- ---- certificates loaded

abbrev pub rests_on_cert_text : LoadStop → Bool
rests_on_cert_text (loading.Missing at) = true
rests_on_cert_text (loading.FileTooLarge at) = true
rests_on_cert_text (loading.CertText at range) = true
rests_on_cert_text loading.LoadFault = false
rests_on_cert_text loading.NoMemory = false

abbrev pub IsLoadAnswer : Files → (word : ℕ) → (name : List ℕ) → Result Certs LoadStop → Type 0
IsLoadAnswer fs word name answer = IsAllowed (LoadsCerts (Some fs) name) (LoadRefuses (Some fs) word name) rests_on_cert_text answer

abbrev pub HasOneLoading : Type 0
HasOneLoading = (fs : Files) (word : ℕ) (name : List ℕ) (x y : Result Certs LoadStop) → IsLoadAnswer fs word name x → IsLoadAnswer fs word name y → x ≡ y

-- ---- certificates checked

abbrev pub rests_on_certs : CheckStop → Bool
rests_on_certs (checking.CertWrong side fault) = true
rests_on_certs checking.NoMemory = false

abbrev pub IsCheckAnswer : Networks → (first : Certificate) → (second : Option Certificate) → Result (Unit {0}) CheckStop → Type 0
IsCheckAnswer ns first second answer = IsAllowed (λ _. CertifiesEach ns first second) (CheckRefuses ns first second) rests_on_certs answer

abbrev pub HasOneChecking : Type 0
HasOneChecking = (ns : Networks) (first : Certificate) (second : Option Certificate) (x y : Result (Unit {0}) CheckStop)
    → IsCheckAnswer ns first second x → IsCheckAnswer ns first second y → x ≡ y
