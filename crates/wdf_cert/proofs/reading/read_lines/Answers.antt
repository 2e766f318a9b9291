use Rattle.std.proofs.lemmas.Result.{err_from_is_err_and}
use Rattle.wdf_cert.proofs.ReadingLemmas.{lines_fails}
use Rattle.wdf_cert.proofs.reading.read_lines.Goals as goal

pub returns-in_err-line : goal.returns-in_err-line
returns-in_err-line c =
    let p = err_from_is_err_and c.from_residual.result c.from_residual.ensures.1 in
    rw (p.1, p.2) (lines_fails c.args.n c.loop-i.i c.args.text.now c.args.at c.loop-i.place c.in_err-line.field-0.0 c.loop-i-test.true c.loop-i.invariant.carries c.in_err-line.ensures)
