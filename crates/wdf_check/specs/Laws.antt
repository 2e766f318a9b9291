-- What the definitions of certificates imply.
use Rattle.std.specs.Prelude.{◌≡◌, ◌≢◌, Result, Err}
use Rattle.wdf_law.specs.Network.{Network}
use Rattle.wdf_residue.specs.Matrix.{AreRows}
use Rattle.wdf_check.specs.declared.cert_fault.CertFault.{CertFault}
use Rattle.wdf_check.specs.declared.cert_fault.CertFault.TheVariants.{NoMemory}
use Rattle.wdf_check.specs.Observability.{observability}
use Rattle.wdf_check.specs.Certificate.{Certificate}
use Rattle.wdf_check.specs.Checking.{Checks}

-- each entry of the observability matrix is a residue
abbrev pub HasResidues : Type 0
HasResidues = (n : Network) → AreRows (observability n).columns (observability n).rows

-- an answer of the check, which is not that memory is wanting
abbrev pub IsCheckAnswer : Network → Certificate → Result (Unit {0}) CertFault → Type 0
IsCheckAnswer n c answer = Checks n c answer × (answer ≢ Err NoMemory)

-- a network and a certificate have one such answer
abbrev pub HasOneCheck : Type 0
HasOneCheck = (n : Network) (c : Certificate) (x y : Result (Unit {0}) CertFault) → IsCheckAnswer n c x → IsCheckAnswer n c y → x ≡ y
