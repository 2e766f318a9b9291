-- The stages of `certify` as a chain.
use Rattle.std.proofs.Common.{◌≡◌, ℕ, List, Option, Some, Err, refl}
use Rattle.std.specs.Prelude.{IsTrue}
use Rattle.wdf_io.specs.Files.{Files}
use Rattle.wdf_netlist.specs.Netlists.{NetlistValue}
use Rattle.wdf_lattice.specs.declared.networks.Networks.{Networks}
use Rattle.wdf_stages.specs.StageLaws.{HasOneNetlist, HasOneDesign}
use Rattle.wdf_report.specs.declared.status.Status.{Status}
use Rattle.wdf_report.specs.declared.status.Status.TheVariants.{Done, Usage, NetText, NotSeriesParallel, PortRange, Bound, BadWave, RateMismatch, TooLong, Amplitude, Truncated, Unobservable, CertText, CertWrong, ReadFault, WriteFault, NoteFault, LoadFault, Missing, FileTooLarge, NoMemory, ChannelCount}
use Rattle.wdf_words.specs.declared.order.Order.{Order}
use Rattle.wdf.specs.declared.designed.Designed.{Designed}
use Rattle.wdf.specs.World.{world}
use Rattle.wdf.specs.AnswerLaws.{rests_on_told}
use Rattle.wdf.proofs.Chains.{HasOne, Chain, one_chain, one_value, stopped, passed}
use Rattle.wdf.proofs.NetworksTrace.{NetworksTrace, one_trace, behind_networks, networks_trace, no}
use Rattle.wdf_certificates.specs.declared.certify_stop.CertifyStop.{CertifyStop}
use Rattle.wdf_certificates.specs.declared.certify_stop.CertifyStop.TheVariants as certifies
use Rattle.wdf_certificates.specs.CertLaws.{IsCertifyAnswer, HasOneCertifying}
use Rattle.wdf.specs.Statuses.{status_of_certify}
use Rattle.wdf_certificates.specs.Certifying.{IsCertified}
use Rattle.wdf.specs.NetworksAnswer.{HasNetworks}
use Rattle.wdf.specs.CertifyAnswer.{DoneCertify, AtCertify, RefusesCertify}

abbrev CertifyLater : NetlistValue → Networks → Status → Type 0
CertifyLater n ns = Chain (IsCertifyAnswer n.form ns) (λ text s. s ≡ Done) status_of_certify

abbrev pub CertifyTrace : Files → List (List ℕ) → Order → Status → Type 0
CertifyTrace fs words o = NetworksTrace fs words o CertifyLater

pub one_certify : HasOneNetlist → HasOneDesign → HasOneCertifying → (fs : Files) (words : List (List ℕ)) (o : Order) → HasOne (CertifyTrace fs words o)
one_certify one_netlist one_design one_certifying fs words o =
    one_trace one_netlist one_design fs words o CertifyLater
    (λ n ns. one_chain (IsCertifyAnswer n.form ns) (λ text s. s ≡ Done) status_of_certify (one_certifying n.form ns) (λ a allowed. one_value Done))

pub certified : (fs : Files) (words : List (List ℕ)) (o : Order) (d : Designed) (text : List ℕ) → HasNetworks (Some fs) words o d → IsCertified d.networks text
    → CertifyTrace fs words o Done
certified fs words o d text networks h =
    behind_networks fs words o CertifyLater Done d networks
    (passed (IsCertifyAnswer d.netlist.form d.networks) (λ text s. s ≡ Done) status_of_certify text Done h refl)

at_certify : (fs : Files) (words : List (List ℕ)) (left left' written written' noted noted' : Option (List ℕ)) (o : Order) (stop : CertifyStop) (h : AtCertify (world words (Some fs) left left' written written' noted noted') o stop)
    → IsCertifyAnswer h.design.netlist.form h.design.networks (Err stop) → CertifyTrace fs words o (status_of_certify stop)
at_certify fs words left left' written written' noted noted' o stop h allowed =
    behind_networks fs words o CertifyLater (status_of_certify stop) h.design h.networks
    (stopped (IsCertifyAnswer h.design.netlist.form h.design.networks) (λ text s. s ≡ Done) status_of_certify stop allowed)

pub certify_done : (fs : Files) (words : List (List ℕ)) (left left' written written' noted noted' : Option (List ℕ)) (o : Order) → DoneCertify (world words (Some fs) left left' written written' noted noted') o → CertifyTrace fs words o Done
certify_done fs words left left' written written' noted noted' o h = certified fs words o h.has.design h.text h.has.networks h.has.certified

pub certify_trace : (fs : Files) (words : List (List ℕ)) (left left' written written' noted noted' : Option (List ℕ)) (o : Order) (s : Status)
    → IsTrue (rests_on_told s) → RefusesCertify (world words (Some fs) left left' written written' noted noted') o s → CertifyTrace fs words o s
certify_trace fs words left left' written written' noted noted' o Done r h = networks_trace fs words left left' written written' noted noted' o CertifyLater Done r h
certify_trace fs words left left' written written' noted noted' o (Usage word kind) r h = networks_trace fs words left left' written written' noted noted' o CertifyLater (Usage word kind) r h
certify_trace fs words left left' written written' noted noted' o (NetText fault) r h = networks_trace fs words left left' written written' noted noted' o CertifyLater (NetText fault) r h
certify_trace fs words left left' written written' noted noted' o (NotSeriesParallel side element core) r h = networks_trace fs words left left' written written' noted noted' o CertifyLater (NotSeriesParallel side element core) r h
certify_trace fs words left left' written written' noted noted' o (PortRange side element low) r h = networks_trace fs words left left' written written' noted noted' o CertifyLater (PortRange side element low) r h
certify_trace fs words left left' written written' noted noted' o (Bound side element ratio need limit) r h = networks_trace fs words left left' written written' noted noted' o CertifyLater (Bound side element ratio need limit) r h
certify_trace fs words left left' written written' noted noted' o (BadWave kind at) r h = networks_trace fs words left left' written written' noted noted' o CertifyLater (BadWave kind at) r h
certify_trace fs words left left' written written' noted noted' o (RateMismatch netlist wave) r h = networks_trace fs words left left' written written' noted noted' o CertifyLater (RateMismatch netlist wave) r h
certify_trace fs words left left' written written' noted noted' o (TooLong frames limit) r h = networks_trace fs words left left' written written' noted noted' o CertifyLater (TooLong frames limit) r h
certify_trace fs words left left' written written' noted noted' o (Amplitude frame channel sample) r h = networks_trace fs words left left' written written' noted noted' o CertifyLater (Amplitude frame channel sample) r h
certify_trace fs words left left' written written' noted noted' o (Truncated frames) r h = networks_trace fs words left left' written written' noted noted' o CertifyLater (Truncated frames) r h
certify_trace fs words left left' written written' noted noted' o (Unobservable side element kernel) r h = at_certify fs words left left' written written' noted noted' o (certifies.Unobservable side element kernel) h (refl, h.refuses)
certify_trace fs words left left' written written' noted noted' o (CertText at range) r h = networks_trace fs words left left' written written' noted noted' o CertifyLater (CertText at range) r h
certify_trace fs words left left' written written' noted noted' o (CertWrong side fault) r h = networks_trace fs words left left' written written' noted noted' o CertifyLater (CertWrong side fault) r h
certify_trace fs words left left' written written' noted noted' o ReadFault r h = absurd (no r)
certify_trace fs words left left' written written' noted noted' o WriteFault r h = absurd (no r)
certify_trace fs words left left' written written' noted noted' o NoteFault r h = absurd (no r)
certify_trace fs words left left' written written' noted noted' o LoadFault r h = absurd (no r)
certify_trace fs words left left' written written' noted noted' o (Missing word) r h = networks_trace fs words left left' written written' noted noted' o CertifyLater (Missing word) r h
certify_trace fs words left left' written written' noted noted' o (FileTooLarge word) r h = networks_trace fs words left left' written written' noted noted' o CertifyLater (FileTooLarge word) r h
certify_trace fs words left left' written written' noted noted' o NoMemory r h = absurd (no r)
certify_trace fs words left left' written written' noted noted' o (ChannelCount have want) r h = networks_trace fs words left left' written written' noted noted' o CertifyLater (ChannelCount have want) r h
