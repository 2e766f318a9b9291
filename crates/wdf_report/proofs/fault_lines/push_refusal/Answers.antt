use Rattle.std.proofs.Common.{List, ℕ, refl, ap, ◌∙◌, sym}
use Rattle.std.specs.Prelude.{◌++◌, codes, decimal}
use Rattle.wdf_check.specs.declared.cert_fault.CertFault.{CertFault}
use Rattle.wdf_report.specs.FaultLine.{refusal_text}
use Rattle.wdf_report.proofs.Appends.{begins, goes_on}
use Rattle.wdf_report.proofs.fault_lines.push_refusal.Goals as goal

pub returns-in-WrongProduct-clause-text : goal.returns-in-WrongProduct-clause-text
returns-in-WrongProduct-clause-text c =
    let old : List ℕ = c.args.line.now in
    let row : List ℕ = codes "product row " ++ decimal c.in-WrongProduct.row in
    let column : List ℕ = row ++ codes " column " ++ decimal c.in-WrongProduct.col in
    let first = begins old (codes "product row ") c.push_number-in-WrongProduct.ensures.text refl in
    let second = goes_on old row (codes " column ") first c.push_number-in-WrongProduct-2.ensures.text refl in
    let third = goes_on old column (codes " got ") second c.push_number-in-WrongProduct-3.ensures.text refl in
    third ∙ ap (λ (fault : CertFault). old ++ refusal_text fault) (sym c.in-WrongProduct.is)
