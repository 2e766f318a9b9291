-- Told files leave one answer to the load of certificates, since a file has one text and a text one meaning or one fault.
use Rattle.std.proofs.Common.{◌≡◌, ℕ, true, false, List, Result, Ok, Err, refl, sym, ap, ◌∙◌, subst}
use Rattle.std.proofs.lemmas.Bool.{false≢true}
use Rattle.wdf_io.specs.Files.{Files}
use Rattle.wdf_cert.specs.declared.cert_text_fault.CertTextFault.{CertTextFault}
use Rattle.wdf_cert.specs.declared.certs.Certs.{Certs}
use Rattle.wdf_cert.specs.Format.{HasFault}
use Rattle.wdf_cert.specs.CertFormat.{file_format, ReadsFile}
use Rattle.wdf_cert.specs.CertText.{AreSquare}
use Rattle.wdf_cert.specs.Laws.{IsOneFile, IsAccepted, IsOneFault}
use Rattle.wdf_stages.specs.declared.file_stop.FileStop.{FileStop}
use Rattle.wdf_stages.specs.declared.file_stop.FileStop.TheVariants as files_
use Rattle.wdf_stages.specs.StageLaws.{IsFileAnswer, HasOneFile}
use Rattle.wdf_certificates.specs.declared.load_stop.LoadStop.{LoadStop}
use Rattle.wdf_certificates.specs.declared.load_stop.LoadStop.TheVariants.{Missing, FileTooLarge, CertText, LoadFault, NoMemory}
use Rattle.wdf_certificates.specs.CertLoading.{load_stop_of, reading_stop_of, text_fault}
use Rattle.wdf_certificates.specs.CertLaws.{IsLoadAnswer, HasOneLoading}

-- ---- the reading of a text

abbrev IsReading : List ℕ → Result Certs CertTextFault → Type 0
IsReading text (Ok certs) = ReadsFile text (Ok certs) × AreSquare certs.first certs.second
IsReading text (Err fault) = HasFault file_format text 0 fault

not_both : IsAccepted → (text : List ℕ) (certs : Certs) (fault : CertTextFault) → IsReading text (Ok certs) → IsReading text (Err fault) → ⊥
not_both accepted text certs fault h k =
    accepted certs.first certs.second h.0.1 h.1 0 fault (subst (λ t. HasFault file_format t 0 fault) h.0.0 k)

one_reading : IsOneFile → IsAccepted → IsOneFault → (text : List ℕ) (x y : Result Certs CertTextFault) → IsReading text x → IsReading text y → x ≡ y
one_reading one accepted fault text (Ok c) (Ok d) h k =
    let same = one c.first d.first c.second d.second h.0.1 k.0.1 h.1 k.1 (sym h.0.0 ∙ k.0.0) in
    λ i. Ok (record { first = same.0 i; second = same.1 i })
one_reading one accepted fault text (Ok c) (Err f) h k = absurd (not_both accepted text c f h k)
one_reading one accepted fault text (Err e) (Ok d) h k = absurd (not_both accepted text d e k h)
one_reading one accepted fault text (Err e) (Err f) h k = ap (λ g. Err g) (fault text e f h k)

-- ---- the load

abbrev read_answer : Result Certs CertTextFault → Result Certs LoadStop
read_answer (Ok certs) = Ok certs
read_answer (Err fault) = Err (reading_stop_of fault)

data IsLoad (fs : Files) (word : ℕ) (name : List ℕ) (x : Result Certs LoadStop) : Type 0 where
  unfound : (stop : FileStop) → IsFileAnswer fs word name (Err stop) → x ≡ Err (load_stop_of stop) → IsLoad fs word name x
  found : (text : List ℕ) (reading : Result Certs CertTextFault) → IsFileAnswer fs word name (Ok text) → IsReading text reading
      → x ≡ read_answer reading → IsLoad fs word name x

load_of : (fs : Files) (word : ℕ) (name : List ℕ) (x : Result Certs LoadStop) → IsLoadAnswer fs word name x → IsLoad fs word name x
load_of fs word name (Ok certs) h = found h.text (Ok certs) h.file (h.reads, h.square) refl
load_of fs word name (Err (Missing at)) h = unfound (files_.Missing at) h refl
load_of fs word name (Err (FileTooLarge at)) h = unfound (files_.FileTooLarge at) h refl
load_of fs word name (Err (CertText at true)) h = found h.1.text (Err (text_fault at true)) h.1.file h.1.fault refl
load_of fs word name (Err (CertText at false)) h = found h.1.text (Err (text_fault at false)) h.1.file h.1.fault refl
load_of fs word name (Err LoadFault) h = absurd (false≢true h.0)
load_of fs word name (Err NoMemory) h = absurd (false≢true h.0)

-- what the load of a file tells
abbrev text_of : Result (List ℕ) FileStop → List ℕ → List ℕ
text_of (Ok text) other = text
text_of (Err stop) other = other

abbrev stop_of : Result (List ℕ) FileStop → LoadStop
stop_of (Ok text) = NoMemory
stop_of (Err stop) = load_stop_of stop

one_load : HasOneFile → IsOneFile → IsAccepted → IsOneFault → (fs : Files) (word : ℕ) (name : List ℕ) (x y : Result Certs LoadStop)
    → IsLoad fs word name x → IsLoad fs word name y → x ≡ y
one_load file one accepted fault fs word name x y (unfound s h p) (unfound t k q) =
    p ∙ (ap (λ r. Err (stop_of r)) (file fs word name (Err s) (Err t) h k) ∙ sym q)
one_load file one accepted fault fs word name x y (unfound s h p) (found text b k l q) = apart (file fs word name (Err s) (Ok text) h k)
  where
    apart : Err s ≡ Ok text → x ≡ y
    apart e = absurd (cc)
one_load file one accepted fault fs word name x y (found text a h l p) (unfound t k q) = apart (file fs word name (Ok text) (Err t) h k)
  where
    apart : Ok text ≡ Err t → x ≡ y
    apart e = absurd (cc)
one_load file one accepted fault fs word name x y (found text a h h' p) (found other b k k' q) =
    let same = ap (λ r. text_of r text) (file fs word name (Ok text) (Ok other) h k) in
    p ∙ (ap read_answer (one_reading one accepted fault text a b h' (subst (λ t. IsReading t b) (sym same) k')) ∙ sym q)

pub one_loading : HasOneFile → IsOneFile → IsAccepted → IsOneFault → HasOneLoading
one_loading file one accepted fault fs word name x y h k =
    one_load file one accepted fault fs word name x y (load_of fs word name x h) (load_of fs word name y k)
