use Rattle.std.proofs.Common.{sym, subst}
use Rattle.std.specs.Prelude.{IfErr}
use Rattle.wdf_stages.specs.FileLoading.{IsFile}
use Rattle.wdf_certificates.specs.CertLoading.{LoadRefuses, reading_stop_of}
use Rattle.wdf_certificates.proofs.StageLemmas.{handed_on, unread}
use Rattle.wdf_certificates.proofs.loading.load_certs.Goals as goal

-- the file is none of certificates
pub returns-in_err-certs-clause-refused : goal.returns-in_err-certs-clause-refused
returns-in_err-certs-clause-refused g c =
    let files = g.H.Shelf.files c.args.shelf.now in
    let fault = c.in_err-certs.field-0.0 in
    let same = handed_on c.from_residual-in_err-certs.result (reading_stop_of fault) c.from_residual-in_err-certs.ensures.0 c.from_residual-in_err-certs.ensures.1 in
    let file = subst (IsFile files c.args.name.now) (sym c.deref.ensures.value) c.in_ok-text.ensures.file in
    subst (λ r. IfErr r (LoadRefuses files c.args.word c.args.name.now)) (sym same)
    (unread files c.args.word c.args.name.now c.deref.result.now fault file c.in_err-certs.ensures.answer)
