use Rattle.std.proofs.Common.{◌∙◌}
use Rattle.std.proofs.lemmas.Result.{err_from_is_err_and}
use Rattle.wdf_wav.proofs.PassLemmas.{passes_other}
use Rattle.wdf_wav.proofs.StopLemmas.{chunk_stops, size_stops}
use Rattle.wdf_wav.proofs.chunk_reader.read_other.Goals as goal

pub returns-in_err-size-clause-stop : goal.returns-in_err-size-clause-stop
returns-in_err-size-clause-stop g c =
    let p = err_from_is_err_and c.from_residual.result c.from_residual.ensures.1 in
    rw (p.1, p.2) (size_stops c.args.seen.now c.args.id.now (g.S.Source.left c.args.src.now) c.in_err-size.field-0.0
    c.requires.few c.requires.four c.requires.no_data c.requires.no_format c.in_err-size.ensures.stop)

pub returns-in_err-pass_over-clause-stop : goal.returns-in_err-pass_over-clause-stop
returns-in_err-pass_over-clause-stop g c =
    let p = err_from_is_err_and c.from_residual-in_err-pass_over.result c.from_residual-in_err-pass_over.ensures.1 in
    let number = c.in_ok-size.ensures.ok in
    rw (p.1, p.2) (chunk_stops c.args.seen.now c.args.id.now number.bytes c.in_ok-size.size (g.S.Source.left c.args.src.now) (g.S.Source.left c.take_number.new.src) c.in_err-pass_over.field-0.0
    c.requires.few c.requires.four c.requires.no_data c.requires.no_format number.size number.number number.input
    (rw c.padded.ensures at c.in_err-pass_over.ensures.stop))

pub returns-clause-ok : goal.returns-clause-ok
returns-clause-ok g c =
    let number = c.in_ok-size.ensures.ok in
    let rest = c.in_ok-pass_over.ensures.ok in
    rw c.passed.ensures.counted (passes_other c.args.seen.now c.args.id.now number.bytes rest.bytes c.in_ok-size.size
    (g.S.Source.left c.args.src.now) (g.S.Source.left c.take_number.new.src) (g.S.Source.left c.pass_over.new.src)
    c.requires.few c.requires.four c.requires.no_data c.requires.no_format number.size number.number (rest.size ∙ c.padded.ensures) number.input rest.input)
