-- The stages of `check` as a chain.
use Rattle.std.proofs.Common.{◌≡◌, ℕ, List, Option, Some, Err, inl, inr, refl}
use Rattle.std.specs.Prelude.{IsTrue}
use Rattle.wdf_io.specs.Files.{Files}
use Rattle.wdf_netlist.specs.Netlists.{NetlistValue}
use Rattle.wdf_lattice.specs.declared.networks.Networks.{Networks}
use Rattle.wdf_stages.specs.StageLaws.{HasOneNetlist, HasOneDesign}
use Rattle.wdf_report.specs.declared.status.Status.{Status}
use Rattle.wdf_report.specs.declared.status.Status.TheVariants.{Done, Usage, NetText, NotSeriesParallel, PortRange, Bound, BadWave, RateMismatch, TooLong, Amplitude, Truncated, Unobservable, CertText, CertWrong, ReadFault, WriteFault, NoteFault, LoadFault, Missing, FileTooLarge, NoMemory, ChannelCount}
use Rattle.wdf_words.specs.declared.order.Order.{Order}
use Rattle.wdf.specs.declared.designed.Designed.{Designed}
use Rattle.wdf.specs.World.{world}
use Rattle.wdf.specs.AnswerLaws.{rests_on_told}
use Rattle.wdf.proofs.Chains.{HasOne, Chain, one_chain, one_value, stopped, passed}
use Rattle.wdf.proofs.NetworksTrace.{NetworksTrace, one_trace, behind_networks, networks_trace, no}
use Rattle.wdf_cert.specs.declared.certs.Certs.{Certs}
use Rattle.wdf_certificates.specs.declared.load_stop.LoadStop.{LoadStop}
use Rattle.wdf_certificates.specs.declared.load_stop.LoadStop.TheVariants as loads
use Rattle.wdf_certificates.specs.declared.check_stop.CheckStop.{CheckStop}
use Rattle.wdf_certificates.specs.declared.check_stop.CheckStop.TheVariants as checks
use Rattle.wdf_certificates.specs.CertLoading.{LoadsCerts}
use Rattle.wdf_certificates.specs.CertChecking.{CertifiesEach}
use Rattle.wdf_certificates.specs.CertLaws.{IsLoadAnswer, IsCheckAnswer, HasOneLoading, HasOneChecking}
use Rattle.wdf.specs.Statuses.{status_of_load, status_of_check}
use Rattle.wdf.specs.NetworksAnswer.{HasNetworks, word_of, name_of}
use Rattle.wdf.specs.CheckAnswer.{DoneCheck, AtCertLoad, AtCheck, RefusesCheck}

abbrev CertsTrace : Networks → Certs → Status → Type 0
CertsTrace ns certs = Chain (IsCheckAnswer ns certs.first certs.second) (λ u s. s ≡ Done) status_of_check

abbrev CheckLater : Files → List (List ℕ) → Order → NetlistValue → Networks → Status → Type 0
CheckLater fs words o n ns = Chain (IsLoadAnswer fs (word_of o.cert) (name_of words o.cert)) (CertsTrace ns) status_of_load

abbrev pub CheckTrace : Files → List (List ℕ) → Order → Status → Type 0
CheckTrace fs words o = NetworksTrace fs words o (CheckLater fs words o)

pub one_check : HasOneNetlist → HasOneDesign → HasOneLoading → HasOneChecking → (fs : Files) (words : List (List ℕ)) (o : Order)
    → HasOne (CheckTrace fs words o)
one_check one_netlist one_design one_loading one_checking fs words o =
    one_trace one_netlist one_design fs words o (CheckLater fs words o)
    (λ n ns. one_chain (IsLoadAnswer fs (word_of o.cert) (name_of words o.cert)) (CertsTrace ns) status_of_load
    (one_loading fs (word_of o.cert) (name_of words o.cert))
    (λ certs loaded. one_chain (IsCheckAnswer ns certs.first certs.second) (λ u s. s ≡ Done) status_of_check (one_checking ns certs.first certs.second) (λ a allowed. one_value Done)))

pub accepted : (fs : Files) (words : List (List ℕ)) (o : Order) (d : Designed) (certs : Certs) → HasNetworks (Some fs) words o d
    → LoadsCerts (Some fs) (name_of words o.cert) certs → CertifiesEach d.networks certs.first certs.second → CheckTrace fs words o Done
accepted fs words o d certs networks loaded certified =
    behind_networks fs words o (CheckLater fs words o) Done d networks
    (passed (IsLoadAnswer fs (word_of o.cert) (name_of words o.cert)) (CertsTrace d.networks) status_of_load certs Done loaded
    (passed (IsCheckAnswer d.networks certs.first certs.second) (λ u s. s ≡ Done) status_of_check tt Done certified refl))

at_load : (fs : Files) (words : List (List ℕ)) (left left' written written' noted noted' : Option (List ℕ)) (o : Order) (stop : LoadStop) (h : AtCertLoad (world words (Some fs) left left' written written' noted noted') o stop)
    → IsLoadAnswer fs (word_of o.cert) (name_of words o.cert) (Err stop) → CheckTrace fs words o (status_of_load stop)
at_load fs words left left' written written' noted noted' o stop h allowed =
    behind_networks fs words o (CheckLater fs words o) (status_of_load stop) h.design h.networks
    (stopped (IsLoadAnswer fs (word_of o.cert) (name_of words o.cert)) (CertsTrace h.design.networks) status_of_load stop allowed)

at_check : (fs : Files) (words : List (List ℕ)) (left left' written written' noted noted' : Option (List ℕ)) (o : Order) (stop : CheckStop) (h : AtCheck (world words (Some fs) left left' written written' noted noted') o stop)
    → IsCheckAnswer h.has.design.networks h.has.certs.first h.has.certs.second (Err stop) → CheckTrace fs words o (status_of_check stop)
at_check fs words left left' written written' noted noted' o stop h allowed =
    behind_networks fs words o (CheckLater fs words o) (status_of_check stop) h.has.design h.has.networks
    (passed (IsLoadAnswer fs (word_of o.cert) (name_of words o.cert)) (CertsTrace h.has.design.networks) status_of_load h.has.certs (status_of_check stop) h.has.loads
    (stopped (IsCheckAnswer h.has.design.networks h.has.certs.first h.has.certs.second) (λ u s. s ≡ Done) status_of_check stop allowed))

pub check_done : (fs : Files) (words : List (List ℕ)) (left left' written written' noted noted' : Option (List ℕ)) (o : Order) → DoneCheck (world words (Some fs) left left' written written' noted noted') o → CheckTrace fs words o Done
check_done fs words left left' written written' noted noted' o h =
    accepted fs words o h.accepted.has.design h.accepted.has.certs h.accepted.has.networks h.accepted.has.loads h.accepted.certified

missing : (fs : Files) (words : List (List ℕ)) (left left' written written' noted noted' : Option (List ℕ)) (o : Order) (word : ℕ)
    → RefusesCheck (world words (Some fs) left left' written written' noted noted') o (Missing word) → CheckTrace fs words o (Missing word)
missing fs words left left' written written' noted noted' o word (inl h) = networks_trace fs words left left' written written' noted noted' o (CheckLater fs words o) (Missing word) refl h
missing fs words left left' written written' noted noted' o word (inr h) = at_load fs words left left' written written' noted noted' o (loads.Missing word) h (refl, h.refuses)

too_large : (fs : Files) (words : List (List ℕ)) (left left' written written' noted noted' : Option (List ℕ)) (o : Order) (word : ℕ)
    → RefusesCheck (world words (Some fs) left left' written written' noted noted') o (FileTooLarge word) → CheckTrace fs words o (FileTooLarge word)
too_large fs words left left' written written' noted noted' o word (inl h) = networks_trace fs words left left' written written' noted noted' o (CheckLater fs words o) (FileTooLarge word) refl h
too_large fs words left left' written written' noted noted' o word (inr h) = at_load fs words left left' written written' noted noted' o (loads.FileTooLarge word) h (refl, h.refuses)

pub check_trace : (fs : Files) (words : List (List ℕ)) (left left' written written' noted noted' : Option (List ℕ)) (o : Order) (s : Status)
    → IsTrue (rests_on_told s) → RefusesCheck (world words (Some fs) left left' written written' noted noted') o s → CheckTrace fs words o s
check_trace fs words left left' written written' noted noted' o Done r h = networks_trace fs words left left' written written' noted noted' o (CheckLater fs words o) Done r h
check_trace fs words left left' written written' noted noted' o (Usage word kind) r h = networks_trace fs words left left' written written' noted noted' o (CheckLater fs words o) (Usage word kind) r h
check_trace fs words left left' written written' noted noted' o (NetText fault) r h = networks_trace fs words left left' written written' noted noted' o (CheckLater fs words o) (NetText fault) r h
check_trace fs words left left' written written' noted noted' o (NotSeriesParallel side element core) r h = networks_trace fs words left left' written written' noted noted' o (CheckLater fs words o) (NotSeriesParallel side element core) r h
check_trace fs words left left' written written' noted noted' o (PortRange side element low) r h = networks_trace fs words left left' written written' noted noted' o (CheckLater fs words o) (PortRange side element low) r h
check_trace fs words left left' written written' noted noted' o (Bound side element ratio need limit) r h = networks_trace fs words left left' written written' noted noted' o (CheckLater fs words o) (Bound side element ratio need limit) r h
check_trace fs words left left' written written' noted noted' o (BadWave kind at) r h = networks_trace fs words left left' written written' noted noted' o (CheckLater fs words o) (BadWave kind at) r h
check_trace fs words left left' written written' noted noted' o (RateMismatch netlist wave) r h = networks_trace fs words left left' written written' noted noted' o (CheckLater fs words o) (RateMismatch netlist wave) r h
check_trace fs words left left' written written' noted noted' o (TooLong frames limit) r h = networks_trace fs words left left' written written' noted noted' o (CheckLater fs words o) (TooLong frames limit) r h
check_trace fs words left left' written written' noted noted' o (Amplitude frame channel sample) r h = networks_trace fs words left left' written written' noted noted' o (CheckLater fs words o) (Amplitude frame channel sample) r h
check_trace fs words left left' written written' noted noted' o (Truncated frames) r h = networks_trace fs words left left' written written' noted noted' o (CheckLater fs words o) (Truncated frames) r h
check_trace fs words left left' written written' noted noted' o (Unobservable side element kernel) r h = networks_trace fs words left left' written written' noted noted' o (CheckLater fs words o) (Unobservable side element kernel) r h
check_trace fs words left left' written written' noted noted' o (CertText at range) r h = at_load fs words left left' written written' noted noted' o (loads.CertText at range) h (refl, h.refuses)
check_trace fs words left left' written written' noted noted' o (CertWrong side fault) r h = at_check fs words left left' written written' noted noted' o (checks.CertWrong side fault) h (refl, h.refuses)
check_trace fs words left left' written written' noted noted' o ReadFault r h = absurd (no r)
check_trace fs words left left' written written' noted noted' o WriteFault r h = absurd (no r)
check_trace fs words left left' written written' noted noted' o NoteFault r h = absurd (no r)
check_trace fs words left left' written written' noted noted' o LoadFault r h = absurd (no r)
check_trace fs words left left' written written' noted noted' o (Missing word) r h = missing fs words left left' written written' noted noted' o word h
check_trace fs words left left' written written' noted noted' o (FileTooLarge word) r h = too_large fs words left left' written written' noted noted' o word h
check_trace fs words left left' written written' noted noted' o NoMemory r h = absurd (no r)
check_trace fs words left left' written written' noted noted' o (ChannelCount have want) r h = networks_trace fs words left left' written written' noted noted' o (CheckLater fs words o) (ChannelCount have want) r h
