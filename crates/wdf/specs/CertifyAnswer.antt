-- The answers of the command `certify`, which writes the certificates of the netlist's networks. It neither reads the
-- input nor writes the note.
use Rattle.std.specs.Prelude.{ℕ, ◌⊎◌, List}
use Rattle.std.specs.Io.KnownBytes.{Appends}
use Rattle.wdf_io.specs.Moved.{AppendsPart}
use Rattle.wdf_certificates.specs.declared.certify_stop.CertifyStop.{CertifyStop}
use Rattle.wdf_certificates.specs.declared.certify_stop.CertifyStop.TheVariants as stops
use Rattle.wdf_certificates.specs.Certifying.{IsCertified, CertifyRefuses}
use Rattle.wdf_words.specs.declared.order.Order.{Order}
use Rattle.wdf_report.specs.declared.status.Status.{Status}
use Rattle.wdf_report.specs.declared.status.Status.TheVariants.{Unobservable, WriteFault, NoMemory}
use Rattle.wdf.specs.declared.designed.Designed.{Designed}
use Rattle.wdf.specs.declared.certifying_stop.CertifyingStop.{CertifyingStop}
use Rattle.wdf.specs.declared.certifying_stop.CertifyingStop.TheVariants.{Networks, Certify, Write}
use Rattle.wdf.specs.World.{World, KeepsInput, KeepsNote, IsQuiet}
use Rattle.wdf.specs.NetworksAnswer.{HasNetworks, AtNetworks, RefusesNetworks}

-- the networks have certificates, and this is their text
pub record HasText (w : World) (o : Order) (text : List ℕ) : Type 0 where
  pub design : Designed
  pub networks : HasNetworks w.files w.words o design
  pub certified : IsCertified design.networks text

-- the output gained the text
pub record DoneCertify (w : World) (o : Order) : Type 0 where
  pub text : List ℕ
  pub has : HasText w o text
  pub input : KeepsInput w
  pub output : Appends w.written w.written' text
  pub note : KeepsNote w

-- a network has no certificate
pub record AtCertify (w : World) (o : Order) (stop : CertifyStop) : Type 0 where
  pub design : Designed
  pub networks : HasNetworks w.files w.words o design
  pub refuses : CertifyRefuses design.netlist.form design.networks stop
  pub quiet : IsQuiet w

-- the write of the text failed
pub record AtCertifyWrite (w : World) (o : Order) : Type 0 where
  pub text : List ℕ
  pub has : HasText w o text
  pub input : KeepsInput w
  pub output : AppendsPart w.written w.written' text
  pub note : KeepsNote w

-- where the command stopped
abbrev pub CertifyStops : World → Order → CertifyingStop → Type 0
CertifyStops w o (Networks stop) = AtNetworks w o stop
CertifyStops w o (Certify stop) = AtCertify w o stop
CertifyStops w o Write = AtCertifyWrite w o

-- its rows of the table of answers
abbrev pub RefusesCertify : World → Order → Status → Type 0
RefusesCertify w o (Unobservable side element kernel) = AtCertify w o (stops.Unobservable side element kernel)
RefusesCertify w o WriteFault = AtCertifyWrite w o
RefusesCertify w o NoMemory = RefusesNetworks w o NoMemory ⊎ AtCertify w o stops.NoMemory
RefusesCertify w o s = RefusesNetworks w o s
