use Rattle.std.proofs.Common.{◌≡◌, ℕ, ◌%◌, ◌≤◌, None, replicate, length-take-le, sym, rules}
use Rattle.std.proofs.lemmas.Result.{err_from_is_err_and}
use Rattle.wdf_wav.specs.HeadReading.{BodyStops, TakesBytes, TakesFormat}
use Rattle.wdf_wav.proofs.PassLemmas.{passes_format}
use Rattle.wdf_wav.proofs.StopLemmas.{bad_size_stops, body_stops, format_size_stops, none_told, pad_stops}
use Rattle.wdf_wav.proofs.chunk_reader.read_format.Goals as goal

pub returns-in_err-size-clause-stop : goal.returns-in_err-size-clause-stop
returns-in_err-size-clause-stop g c =
    let p = err_from_is_err_and c.from_residual.result c.from_residual.ensures.1 in
    let first : c.args.seen.now.format ≡ None = none_told c.args.seen.now.format (search rules) in
    rw (p.1, p.2) (format_size_stops c.args.seen.now (g.S.Source.left c.args.src.now) c.in_err-size.field-0.0 c.requires.few first c.in_err-size.ensures.stop)

pub returns-then-has_other_size-clause-stop : goal.returns-then-has_other_size-clause-stop
returns-then-has_other_size-clause-stop g c =
    let first : c.args.seen.now.format ≡ None = none_told c.args.seen.now.format (search rules) in
    let number = c.in_ok-size.ensures.ok in
    rw c.fault-then-has_other_size.ensures (bad_size_stops c.args.seen.now number.bytes c.in_ok-size.size (g.S.Source.left c.args.src.now) (g.S.Source.left c.take_number.new.src)
    c.requires.few first number.size number.number (sym c.if-has_other_size.ensures) number.input)

pub returns-in_err-format-clause-stop : goal.returns-in_err-format-clause-stop
returns-in_err-format-clause-stop g c =
    let p = err_from_is_err_and c.from_residual-in_err-format.result c.from_residual-in_err-format.ensures.1 in
    let first : c.args.seen.now.format ≡ None = none_told c.args.seen.now.format (search rules) in
    let number = c.in_ok-size.ensures.ok in
    let few : c.in_ok-size.size ≤ 64 = search rules in
    let whole = length-take-le {A = ℕ} c.in_ok-size.size (replicate 64 0) few in
    let stop : BodyStops c.in_ok-size.size c.args.seen.now.at (g.S.Source.left c.take_number.new.src) c.in_err-format.field-0.0 = rw whole at c.in_err-format.ensures.stop in
    rw (p.1, p.2) (body_stops c.args.seen.now number.bytes c.in_ok-size.size (g.S.Source.left c.args.src.now) (g.S.Source.left c.take_number.new.src) c.in_err-format.field-0.0
    c.requires.few first number.size number.number (sym c.if-has_other_size.ensures) number.input stop)

pub returns-in_err-pass_over-clause-stop : goal.returns-in_err-pass_over-clause-stop
returns-in_err-pass_over-clause-stop g c =
    let p = err_from_is_err_and c.from_residual-in_err-pass_over.result c.from_residual-in_err-pass_over.ensures.1 in
    let first : c.args.seen.now.format ≡ None = none_told c.args.seen.now.format (search rules) in
    let number = c.in_ok-size.ensures.ok in
    let few : c.in_ok-size.size ≤ 64 = search rules in
    let whole = length-take-le {A = ℕ} c.in_ok-size.size (replicate 64 0) few in
    let told : TakesFormat c.in_ok-size.size (g.S.Source.left c.take_number.new.src) (g.S.Source.left c.read_body.new.src) c.in_ok-format.format = rw whole at c.in_ok-format.ensures.ok in
    rw (p.1, p.2) (pad_stops c.args.seen.now number.bytes told.body c.in_ok-size.size c.in_ok-format.format
    (g.S.Source.left c.args.src.now) (g.S.Source.left c.take_number.new.src) (g.S.Source.left c.read_body.new.src) c.in_err-pass_over.field-0.0
    c.requires.few first number.size number.number (sym c.if-has_other_size.ensures) told.sized told.told number.input told.input (rw (c.from.ensures, c.from-2.ensures) at c.in_err-pass_over.ensures.stop))

pub returns-clause-ok : goal.returns-clause-ok
returns-clause-ok g c =
    let first : c.args.seen.now.format ≡ None = none_told c.args.seen.now.format (search rules) in
    let number = c.in_ok-size.ensures.ok in
    let few : c.in_ok-size.size ≤ 64 = search rules in
    let whole = length-take-le {A = ℕ} c.in_ok-size.size (replicate 64 0) few in
    let told : TakesFormat c.in_ok-size.size (g.S.Source.left c.take_number.new.src) (g.S.Source.left c.read_body.new.src) c.in_ok-format.format = rw whole at c.in_ok-format.ensures.ok in
    let pad : TakesBytes (c.in_ok-size.size % 2) (g.S.Source.left c.read_body.new.src) (g.S.Source.left c.pass_over.new.src) = rw c.from-2.ensures at c.in_ok-pass_over.ensures.ok in
    rw c.passed.ensures.counted (passes_format c.args.seen.now number.bytes told.body pad.bytes c.in_ok-size.size c.in_ok-format.format
    (g.S.Source.left c.args.src.now) (g.S.Source.left c.take_number.new.src) (g.S.Source.left c.read_body.new.src) (g.S.Source.left c.pass_over.new.src)
    c.requires.few first number.size number.number told.sized pad.size told.told number.input told.input pad.input)
