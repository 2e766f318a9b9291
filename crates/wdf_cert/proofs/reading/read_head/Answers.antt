use Rattle.std.proofs.lemmas.Result.{err_from_is_err_and}
use Rattle.wdf_cert.proofs.ReadingLemmas.{head_fails_width, head_fails_end, head_reads}
use Rattle.wdf_cert.proofs.reading.read_head.Goals as goal

pub returns-in_err-width : goal.returns-in_err-width
returns-in_err-width c =
    let p = err_from_is_err_and c.from_residual-in_err-width.result c.from_residual-in_err-width.ensures.1 in
    rw (p.1, p.2) (head_fails_width c.args.text.now c.args.at c.in_ok-next.next c.in_ok-next-2.next c.in_ok-next-3.next c.in_err-width.field-0.0
    c.in_ok-next.ensures c.in_ok-next-2.ensures c.in_ok-next-3.ensures c.in_err-width.ensures)

pub returns-in_err-next-4 : goal.returns-in_err-next-4
returns-in_err-next-4 c =
    let p = err_from_is_err_and c.from_residual-in_err-next-4.result c.from_residual-in_err-next-4.ensures.1 in
    rw (p.1, p.2) (head_fails_end c.args.text.now c.args.at c.in_ok-next.next c.in_ok-next-2.next c.in_ok-next-3.next c.in_ok-width.width.next c.in_ok-width.width.value c.in_err-next-4.field-0.0
    c.in_ok-next.ensures c.in_ok-next-2.ensures c.in_ok-next-3.ensures c.in_ok-width.ensures c.in_err-next-4.ensures)

pub returns : goal.returns
returns c =
    head_reads c.args.text.now c.args.at c.in_ok-next.next c.in_ok-next-2.next c.in_ok-next-3.next c.in_ok-width.width.next c.in_ok-next-4.next c.in_ok-width.width.value
    c.in_ok-next.ensures c.in_ok-next-2.ensures c.in_ok-next-3.ensures c.in_ok-width.ensures c.in_ok-next-4.ensures
