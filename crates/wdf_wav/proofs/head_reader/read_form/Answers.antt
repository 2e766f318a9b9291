use Rattle.std.proofs.Common.{◌≡◌, length, sym, rules}
use Rattle.std.proofs.lemmas.Result.{err_from_is_err_and}
use Rattle.wdf_wav.proofs.FormLemmas.{not_riff, not_wave, short_form, takes_form}
use Rattle.wdf_wav.proofs.head_reader.read_form.Goals as goal

pub returns-then-not-is_id-clause-stop : goal.returns-then-not-is_id-clause-stop
returns-then-not-is_id-clause-stop g c =
    let named : length c.take_part.new.part ≡ 4 = search rules in
    rw c.fault.ensures (not_riff c.take_part.new.part (g.S.Source.left c.args.src.now) (g.S.Source.left c.take_part.new.src) named (sym c.if-not-is_id.ensures) c.in_ok-take_part.ensures.ok)

pub returns-in_err-take_part-3-clause-stop : goal.returns-in_err-take_part-3-clause-stop
returns-in_err-take_part-3-clause-stop g c =
    let p = err_from_is_err_and c.from_residual-in_err-take_part-3.result c.from_residual-in_err-take_part-3.ensures.1 in
    let named : length c.take_part.new.part ≡ 4 = search rules in
    let sized : length c.take_part-2.new.part ≡ 4 = search rules in
    rw (p.1, p.2) (short_form c.take_part.new.part c.take_part-2.new.part (g.S.Source.left c.args.src.now) (g.S.Source.left c.take_part.new.src) (g.S.Source.left c.take_part-2.new.src)
    c.in_err-take_part-3.field-0.0 named sized (sym c.if-not-is_id.ensures) c.in_ok-take_part.ensures.ok c.in_ok-take_part-2.ensures.ok c.in_err-take_part-3.ensures.stop)

pub returns-then-not-is_id-2-clause-stop : goal.returns-then-not-is_id-2-clause-stop
returns-then-not-is_id-2-clause-stop g c =
    let named : length c.take_part.new.part ≡ 4 = search rules in
    let sized : length c.take_part-2.new.part ≡ 4 = search rules in
    let formed : length c.take_part-3.new.part ≡ 4 = search rules in
    rw c.fault-then-not-is_id-2.ensures (not_wave c.take_part.new.part c.take_part-2.new.part c.take_part-3.new.part
    (g.S.Source.left c.args.src.now) (g.S.Source.left c.take_part.new.src) (g.S.Source.left c.take_part-2.new.src) (g.S.Source.left c.take_part-3.new.src)
    named sized formed (sym c.if-not-is_id.ensures) (sym c.if-not-is_id-2.ensures) c.in_ok-take_part.ensures.ok c.in_ok-take_part-2.ensures.ok c.in_ok-take_part-3.ensures.ok)

pub returns-clause-ok : goal.returns-clause-ok
returns-clause-ok g c =
    let sized : length c.take_part-2.new.part ≡ 4 = search rules in
    takes_form c.take_part.new.part c.take_part-2.new.part c.take_part-3.new.part
    (g.S.Source.left c.args.src.now) (g.S.Source.left c.take_part.new.src) (g.S.Source.left c.take_part-2.new.src) (g.S.Source.left c.take_part-3.new.src)
    sized (sym c.if-not-is_id.ensures) (sym c.if-not-is_id-2.ensures) c.in_ok-take_part.ensures.ok c.in_ok-take_part-2.ensures.ok c.in_ok-take_part-3.ensures.ok
