use Rattle.std.proofs.lemmas.Result.{err_from_is_err_and}
use Rattle.wdf_cert.specs.declared.cert_text_fault.CertTextFault.TheVariants.{Syntax}
use Rattle.wdf_cert.proofs.OneFile.{accepted}
use Rattle.wdf_cert.proofs.CertReading.{file_fails_first, file_fails_second, file_fails_end, file_reads_two, accepted_reads}
use Rattle.wdf_cert.proofs.reading.read.Goals as goal

pub returns-in_err-first-clause-accepted : goal.returns-in_err-first-clause-accepted
returns-in_err-first-clause-accepted c =
    let p = err_from_is_err_and c.from_residual.result c.from_residual.ensures.1 in
    let e = c.in_err-first.field-0.0 in
    rw (p.1, p.2) (λ first second range square same.
    accepted_reads c.args.text.now first second e (accepted first second range square) same (file_fails_first c.args.text.now e c.in_err-first.ensures))

pub returns-in_err-second-clause-accepted : goal.returns-in_err-second-clause-accepted
returns-in_err-second-clause-accepted c =
    let p = err_from_is_err_and c.from_residual-in_err-second.result c.from_residual-in_err-second.ensures.1 in
    let e = c.in_err-second.field-0.0 in
    rw (p.1, p.2) (λ first second range square same.
    accepted_reads c.args.text.now first second e (accepted first second range square) same
    (file_fails_second c.args.text.now c.in_ok-first.first.cert c.in_ok-first.first.next e c.in_ok-first.ensures c.if-first-text.false c.in_err-second.ensures))

pub returns-then-second-text-clause-answer : goal.returns-then-second-text-clause-answer
returns-then-second-text-clause-answer c =
    file_fails_end c.args.text.now c.in_ok-first.first.cert c.in_ok-second.second.cert c.in_ok-first.first.next c.in_ok-second.second.next
    c.in_ok-first.ensures c.if-first-text.false c.in_ok-second.ensures c.if-second-text.true

pub returns-then-second-text-clause-accepted : goal.returns-then-second-text-clause-accepted
returns-then-second-text-clause-accepted c = λ first second range square same.
    accepted_reads c.args.text.now first second (Syntax c.in_ok-second.second.next) (accepted first second range square) same
    (file_fails_end c.args.text.now c.in_ok-first.first.cert c.in_ok-second.second.cert c.in_ok-first.first.next c.in_ok-second.second.next
    c.in_ok-first.ensures c.if-first-text.false c.in_ok-second.ensures c.if-second-text.true)

pub returns-clause-answer : goal.returns-clause-answer
returns-clause-answer c =
    file_reads_two c.args.text.now c.in_ok-first.first.cert c.in_ok-second.second.cert c.in_ok-first.first.next c.in_ok-second.second.next
    c.in_ok-first.ensures c.in_ok-second.ensures c.if-second-text.false
