-- Certificates of the shelf: those that the file of a name holds.
use Rattle.std.specs.Prelude.{ℕ, Bool, true, false, List, Option, Ok, ⊤}
use Rattle.wdf_io.specs.Files.{Files}
use Rattle.wdf_cert.specs.declared.cert_text_fault.CertTextFault.{CertTextFault}
use Rattle.wdf_cert.specs.declared.cert_text_fault.CertTextFault.TheVariants.{Syntax, Range}
use Rattle.wdf_cert.specs.declared.cert_text_fault.CertTextFault.TheVariants as texts
use Rattle.wdf_cert.specs.declared.certs.Certs.{Certs}
use Rattle.wdf_cert.specs.CertFormat.{ReadsFile, file_format}
use Rattle.wdf_cert.specs.CertText.{AreSquare}
use Rattle.wdf_cert.specs.Format.{HasFault}
use Rattle.wdf_stages.specs.declared.file_stop.FileStop.{FileStop}
use Rattle.wdf_stages.specs.declared.file_stop.FileStop.TheVariants as files_
use Rattle.wdf_stages.specs.FileLoading.{IsFile, FileRefuses}
use Rattle.wdf_certificates.specs.declared.load_stop.LoadStop.{LoadStop}
use Rattle.wdf_certificates.specs.declared.load_stop.LoadStop.TheVariants.{Missing, FileTooLarge, CertText, LoadFault, NoMemory}

-- the file of this name is the text of these certificates
pub record LoadsCerts (files : Option Files) (name : List ℕ) (certs : Certs) : Type 0 where
  pub text : List ℕ
  pub file : IsFile files name text
  pub reads : ReadsFile text (Ok certs)
  -- what the type of each certificate keeps
  pub square : AreSquare certs.first certs.second

-- another token than the one expected stands at this byte, or a number out of its range
abbrev pub text_fault : ℕ → (range : Bool) → CertTextFault
text_fault at true = Range at
text_fault at false = Syntax at

-- the file of this name is none of certificates: this is its first fault
pub record IsNoCertText (files : Option Files) (name : List ℕ) (at : ℕ) (range : Bool) : Type 0 where
  pub text : List ℕ
  pub file : IsFile files name text
  pub fault : HasFault file_format text 0 (text_fault at range)

-- why no certificates were loaded, from the file of the name in this word
abbrev pub LoadRefuses : Option Files → (word : ℕ) → (name : List ℕ) → LoadStop → Type 0
LoadRefuses files word name (Missing at) = FileRefuses files word name (files_.Missing at)
LoadRefuses files word name (FileTooLarge at) = FileRefuses files word name (files_.FileTooLarge at)
LoadRefuses files word name (CertText at range) = IsNoCertText files name at range
LoadRefuses files word name LoadFault = ⊤
LoadRefuses files word name NoMemory = ⊤

-- no certificates, since no file
abbrev pub load_stop_of : FileStop → LoadStop
load_stop_of (files_.Missing at) = Missing at
load_stop_of (files_.FileTooLarge at) = FileTooLarge at
load_stop_of files_.LoadFault = LoadFault
load_stop_of files_.NoMemory = NoMemory

-- no certificates, since none were read
abbrev pub reading_stop_of : CertTextFault → LoadStop
reading_stop_of (texts.Syntax at) = CertText at false
reading_stop_of (texts.Range at) = CertText at true
reading_stop_of texts.NoMemory = NoMemory
