-- The answers of the command `check`, which writes `accepted` where a file's certificates certify the netlist's
-- networks. It neither reads the input nor writes the note.
use Rattle.std.specs.Prelude.{ℕ, ◌⊎◌, List, [], ◌∷◌, ◌++◌, codes}
use Rattle.std.specs.Io.KnownBytes.{Appends}
use Rattle.wdf_io.specs.Moved.{AppendsPart}
use Rattle.wdf_cert.specs.declared.certs.Certs.{Certs}
use Rattle.wdf_certificates.specs.declared.load_stop.LoadStop.{LoadStop}
use Rattle.wdf_certificates.specs.declared.load_stop.LoadStop.TheVariants as loads
use Rattle.wdf_certificates.specs.declared.check_stop.CheckStop.{CheckStop}
use Rattle.wdf_certificates.specs.declared.check_stop.CheckStop.TheVariants as checks
use Rattle.wdf_certificates.specs.CertLoading.{LoadsCerts, LoadRefuses}
use Rattle.wdf_certificates.specs.CertChecking.{CertifiesEach, CheckRefuses}
use Rattle.wdf_words.specs.declared.order.Order.{Order}
use Rattle.wdf_report.specs.declared.status.Status.{Status}
use Rattle.wdf_report.specs.declared.status.Status.TheVariants.{CertText, CertWrong, WriteFault, LoadFault, Missing, FileTooLarge, NoMemory}
use Rattle.wdf.specs.declared.designed.Designed.{Designed}
use Rattle.wdf.specs.declared.checking_stop.CheckingStop.{CheckingStop}
use Rattle.wdf.specs.declared.checking_stop.CheckingStop.TheVariants.{Networks, Load, Check, Write}
use Rattle.wdf.specs.World.{World, KeepsInput, KeepsNote, IsQuiet}
use Rattle.wdf.specs.NetworksAnswer.{HasNetworks, AtNetworks, RefusesNetworks, word_of, name_of}

-- what is written where the certificates are accepted
abbrev pub accepted_text : List ℕ
accepted_text = codes "accepted" ++ 10 ∷ []

-- the netlist has networks, and the file that the words name holds certificates
pub record HasCerts (w : World) (o : Order) : Type 0 where
  pub design : Designed
  pub networks : HasNetworks w.files w.words o design
  pub certs : Certs
  pub loads : LoadsCerts w.files (name_of w.words o.cert) certs

-- and those certify the networks
pub record IsAccepted (w : World) (o : Order) : Type 0 where
  pub has : HasCerts w o
  pub certified : CertifiesEach has.design.networks has.certs.first has.certs.second

-- the output gained the text
pub record DoneCheck (w : World) (o : Order) : Type 0 where
  pub accepted : IsAccepted w o
  pub input : KeepsInput w
  pub output : Appends w.written w.written' accepted_text
  pub note : KeepsNote w

-- there are no certificates
pub record AtCertLoad (w : World) (o : Order) (stop : LoadStop) : Type 0 where
  pub design : Designed
  pub networks : HasNetworks w.files w.words o design
  pub refuses : LoadRefuses w.files (word_of o.cert) (name_of w.words o.cert) stop
  pub quiet : IsQuiet w

-- they do not certify the networks
pub record AtCheck (w : World) (o : Order) (stop : CheckStop) : Type 0 where
  pub has : HasCerts w o
  pub refuses : CheckRefuses has.design.networks has.certs.first has.certs.second stop
  pub quiet : IsQuiet w

-- the write of the text failed
pub record AtCheckWrite (w : World) (o : Order) : Type 0 where
  pub accepted : IsAccepted w o
  pub input : KeepsInput w
  pub output : AppendsPart w.written w.written' accepted_text
  pub note : KeepsNote w

-- where the command stopped
abbrev pub CheckStops : World → Order → CheckingStop → Type 0
CheckStops w o (Networks stop) = AtNetworks w o stop
CheckStops w o (Load stop) = AtCertLoad w o stop
CheckStops w o (Check stop) = AtCheck w o stop
CheckStops w o Write = AtCheckWrite w o

-- its rows of the table of answers: of two files each may be missing, too large or not to be loaded
abbrev pub RefusesCheck : World → Order → Status → Type 0
RefusesCheck w o (CertText at range) = AtCertLoad w o (loads.CertText at range)
RefusesCheck w o (CertWrong side fault) = AtCheck w o (checks.CertWrong side fault)
RefusesCheck w o WriteFault = AtCheckWrite w o
RefusesCheck w o LoadFault = RefusesNetworks w o LoadFault ⊎ AtCertLoad w o loads.LoadFault
RefusesCheck w o (Missing word) = RefusesNetworks w o (Missing word) ⊎ AtCertLoad w o (loads.Missing word)
RefusesCheck w o (FileTooLarge word) = RefusesNetworks w o (FileTooLarge word) ⊎ AtCertLoad w o (loads.FileTooLarge word)
RefusesCheck w o NoMemory = RefusesNetworks w o NoMemory ⊎ (AtCertLoad w o loads.NoMemory ⊎ AtCheck w o checks.NoMemory)
RefusesCheck w o s = RefusesNetworks w o s
