use Rattle.std.proofs.lemmas.Result.{err_from_is_err_and}
use Rattle.wdf_wav.proofs.PassLemmas.{ends_at_data}
use Rattle.wdf_wav.proofs.StopLemmas.{data_size_stops}
use Rattle.wdf_wav.proofs.chunk_reader.read_data.Goals as goal

pub returns-in_err-size-clause-stop : goal.returns-in_err-size-clause-stop
returns-in_err-size-clause-stop g c =
    let p = err_from_is_err_and c.from_residual.result c.from_residual.ensures.1 in
    rw (p.1, p.2) (data_size_stops c.args.seen.now c.in-Some.format (g.S.Source.left c.args.src.now) c.in_err-size.field-0.0 c.in-Some.is c.in_err-size.ensures.stop)

pub returns-clause-ok : goal.returns-clause-ok
returns-clause-ok g c =
    let number = c.in_ok-size.ensures.ok in
    ends_at_data c.args.seen.now number.bytes c.in_ok-size.size c.in-Some.format c.head_of.result (g.S.Source.left c.args.src.now) (g.S.Source.left c.take_number.new.src)
    c.in-Some.is number.size number.number c.if-size-ge-UNKNOWN_LENGTH.false c.head_of.ensures number.input
