-- What certificates and their text imply.
use Rattle.std.specs.Prelude.{◌≡◌, ◌⊎◌, Option, List, ℕ}
use Rattle.wdf_law.specs.Network.{Network}
use Rattle.wdf_residue.specs.Elimination.{IsFirstDependence}
use Rattle.wdf_check.specs.Certificate.{Certificate, HasSquareInverse}
use Rattle.wdf_check.specs.Observability.{observability}
use Rattle.wdf_cert.specs.declared.cert_text_fault.CertTextFault.{CertTextFault}
use Rattle.wdf_cert.specs.Format.{HasFault}
use Rattle.wdf_cert.specs.CertFormat.{file_format}
use Rattle.wdf_cert.specs.CertText.{file_text, AreInRange, AreSquare}
use Rattle.wdf_cert.specs.Making.{IsMade}

-- a network has a certificate of its first independent rows, or a first state that depends on those before it
abbrev pub HasMaking : Network → Type 0
HasMaking n =
    ((c : Certificate) × IsMade n c × HasSquareInverse c)
    ⊎ ((state : ℕ) × (v : List ℕ) × IsFirstDependence (observability n) state v)

-- it has one such certificate, or one such state, which depends in one way
pub record HasOneMaking (n : Network) : Type 0 where
  pub answered : HasMaking n
  pub certificate : (c d : Certificate) → IsMade n c → IsMade n d → HasSquareInverse c → HasSquareInverse d → c ≡ d
  pub dependence : (state other : ℕ) (v w : List ℕ) → IsFirstDependence (observability n) state v → IsFirstDependence (observability n) other w
      → (state ≡ other) × (v ≡ w)
  pub either : (c : Certificate) (state : ℕ) (v : List ℕ) → IsMade n c → HasSquareInverse c → IsFirstDependence (observability n) state v → ⊥

abbrev pub IsOneMaking : Type 0
IsOneMaking = (n : Network) → HasOneMaking n

-- two files with the same text have the same certificates
abbrev pub IsOneFile : Type 0
IsOneFile = (first first' : Certificate) (second second' : Option Certificate)
    → AreInRange first second → AreInRange first' second' → AreSquare first second → AreSquare first' second'
    → file_text first second ≡ file_text first' second' → (first ≡ first') × (second ≡ second')

-- the text of certificates has no fault
abbrev pub IsAccepted : Type 0
IsAccepted = (first : Certificate) (second : Option Certificate) → AreInRange first second → AreSquare first second
    → (at : ℕ) (fault : CertTextFault) → HasFault file_format (file_text first second) at fault → ⊥

-- a text has one fault at most
abbrev pub IsOneFault : Type 0
IsOneFault = (text : List ℕ) (fault other : CertTextFault) → HasFault file_format text 0 fault → HasFault file_format text 0 other → fault ≡ other
