use Rattle.std.proofs.Common.{List, ℕ, ◌++◌, ap, ◌∙◌}
use Rattle.wdf_cert.specs.CertText.{cert_text}
use Rattle.wdf_certificates.proofs.TextLemmas.{text_before}
use Rattle.wdf_certificates.proofs.certifying.write_both.Goals as goal

pub returns : goal.returns
returns c =
    let first = cert_text c.args.first.now in
    c.in_ok-extend_from_slice.ensures.items
    ∙ (ap (λ (l : List ℕ). l ++ c.deref.result.now) c.in_ok-text.ensures
    ∙ (ap (λ (l : List ℕ). first ++ l) (c.deref.ensures.value ∙ c.in_ok-rest.ensures)
    ∙ text_before c.args.first.now (cert_text c.args.second.now)))
