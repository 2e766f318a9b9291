use Rattle.std.proofs.Common.{◌≡◌, length, rules}
use Rattle.std.proofs.lemmas.Result.{err_from_is_err_and}
use Rattle.wdf_wav.proofs.StopLemmas.{fields_stop}
use Rattle.wdf_wav.proofs.chunk_reader.read_body.Goals as goal

pub returns-in_err-format-clause-stop : goal.returns-in_err-format-clause-stop
returns-in_err-format-clause-stop g c =
    let p = err_from_is_err_and c.from_residual-in_err-format.result c.from_residual-in_err-format.ensures.1 in
    let whole : length c.take_part.new.part ≡ length c.args.body.now = search rules in
    rw (p.1, p.2) (fields_stop (length c.args.body.now) c.args.at c.take_part.new.part (g.S.Source.left c.args.src.now) (g.S.Source.left c.take_part.new.src) c.in_err-format.field-0.0
    whole c.in_ok-take_part.ensures.ok c.in_err-format.ensures.stop)
