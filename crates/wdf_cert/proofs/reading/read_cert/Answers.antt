use Rattle.std.proofs.Common.{◌≡◌, ℕ, length, sym, ◌∙◌, subst, rules}
use Rattle.std.specs.Prelude.{IfSome}
use Rattle.std.proofs.lemmas.Result.{err_from_is_err_and}
use Rattle.wdf_check.specs.Certificate.{Certificate}
use Rattle.wdf_cert.specs.CertFormat.{inverse_format}
use Rattle.wdf_cert.specs.Scanning.{Fails, plain_part, ReadsInverse, ReadsCert}
use Rattle.wdf_cert.proofs.CertReading.{cert_fails_multipliers, cert_fails_rows, cert_fails_inverse, cert_reads}
use Rattle.wdf_cert.proofs.reading.read_cert.Goals as goal

pub returns-in_err-multipliers : goal.returns-in_err-multipliers
returns-in_err-multipliers c =
    let p = err_from_is_err_and c.from_residual-in_err-multipliers.result c.from_residual-in_err-multipliers.ensures.1 in
    rw (p.1, p.2) (cert_fails_multipliers c.args.text.now c.args.at c.in_ok-width.width.next c.in_ok-width.width.value c.most.result c.in_err-multipliers.field-0.0
    c.most.ensures c.in_ok-width.ensures c.in_err-multipliers.ensures)

pub returns-in_err-rows : goal.returns-in_err-rows
returns-in_err-rows c =
    let p = err_from_is_err_and c.from_residual-in_err-rows.result c.from_residual-in_err-rows.ensures.1 in
    rw (p.1, p.2) (cert_fails_rows c.args.text.now c.in_ok-multipliers.multipliers.values.items c.args.at c.in_ok-width.width.next c.in_ok-multipliers.multipliers.next c.in_ok-width.width.value
    c.most.result c.in_err-rows.field-0.0 c.most.ensures c.in_ok-width.ensures c.in_ok-multipliers.ensures c.in_err-rows.ensures)

pub returns-in_err-inverse : goal.returns-in_err-inverse
returns-in_err-inverse c =
    let p = err_from_is_err_and c.from_residual-in_err-inverse.result c.from_residual-in_err-inverse.ensures.1 in
    let e = c.in_err-inverse.field-0.0 in
    let rs = c.in_ok-rows.rows.values.items in
    let count : c.len.result ≡ length rs = search rules in
    let fails : Fails (plain_part (inverse_format (length rs))) c.args.text.now c.in_ok-rows.rows.next e =
    subst (λ (n : ℕ). Fails (plain_part (inverse_format n)) c.args.text.now c.in_ok-rows.rows.next e) count c.in_err-inverse.ensures in
    rw (p.1, p.2) (cert_fails_inverse c.args.text.now c.in_ok-multipliers.multipliers.values.items rs c.args.at c.in_ok-width.width.next c.in_ok-multipliers.multipliers.next
    c.in_ok-rows.rows.next c.in_ok-width.width.value c.most.result e c.most.ensures c.in_ok-width.ensures c.in_ok-multipliers.ensures c.in_ok-rows.ensures fails)

pub returns : goal.returns
returns c =
    let k = c.in_ok-width.width.value in
    let ms = c.in_ok-multipliers.multipliers.values.items in
    let rs = c.in_ok-rows.rows.values.items in
    let es = c.in_ok-inverse.inverse.values.items in
    let next = c.in_ok-inverse.inverse.next in
    let first : c.in_ok-narrowed.field-0.items ≡ ms = c.in_ok-narrowed.ensures ∙ c.deref.ensures.value in
    let second : c.in_ok-narrowed-2.field-0.items ≡ rs = c.in_ok-narrowed-2.ensures ∙ c.deref-2.ensures.value in
    let count : c.len.result ≡ length rs = search rules in
    let inverse : ReadsInverse (length rs) es c.args.text.now c.in_ok-rows.rows.next next =
    subst (λ (n : ℕ). ReadsInverse n es c.args.text.now c.in_ok-rows.rows.next next) count c.in_ok-inverse.ensures in
    let reads = cert_reads c.args.text.now ms rs es c.args.at c.in_ok-width.width.next c.in_ok-multipliers.multipliers.next c.in_ok-rows.rows.next next k c.most.result
    c.most.ensures c.in_ok-width.ensures c.in_ok-multipliers.ensures c.in_ok-rows.ensures inverse in
    let Narrow = λ (d : Certificate). d ≡ record { k = k; multipliers = c.in_ok-narrowed.field-0.items; rows = c.in_ok-narrowed-2.field-0.items; inverse = es } in
    let parts : Narrow c.unwrap.result = subst (λ o. IfSome o Narrow) c.unwrap.ensures c.new-cert.ensures.parts in
    let same : record { k = k; multipliers = ms; rows = rs; inverse = es } ≡ c.unwrap.result =
    (λ i. record { k = k; multipliers = sym first i; rows = sym second i; inverse = es }) ∙ sym parts in
    subst (λ (d : Certificate). ReadsCert d c.args.text.now c.args.at next) same reads
