use Rattle.std.proofs.Common.{◌≡◌, [], length, subst, sym, rules}
use Rattle.std.proofs.lemmas.Result.{err_from_is_err_and}
use Rattle.std.specs.Io.KnownBytes.{Consumes}
use Rattle.wdf_wav.specs.Chunks.{format_id}
use Rattle.wdf_wav.proofs.PassLemmas.{passes_front, same_id}
use Rattle.wdf_wav.proofs.StopLemmas.{id_stops, stops_back, too_many_stops}
use Rattle.wdf_wav.proofs.chunk_reader.read_next.Goals as goal

pub returns-in_err-take_id-clause-stop : goal.returns-in_err-take_id-clause-stop
returns-in_err-take_id-clause-stop g c =
    let p = err_from_is_err_and c.from_residual.result c.from_residual.ensures.1 in
    rw (p.1, p.2) (id_stops c.args.seen.now (g.S.Source.left c.args.src.now) c.in_err-take_id.field-0.0 c.in_err-take_id.ensures.stop)

pub returns-then-seen-ge-MOST_CHUNKS-clause-stop : goal.returns-then-seen-ge-MOST_CHUNKS-clause-stop
returns-then-seen-ge-MOST_CHUNKS-clause-stop g c =
    let named : length c.take_id.new.id ≡ 4 = search rules in
    rw c.fault.ensures (too_many_stops c.args.seen.now c.take_id.new.id (g.S.Source.left c.args.src.now) (g.S.Source.left c.take_id.new.src)
    c.if-seen-ge-MOST_CHUNKS.true named (sym c.if-is_id.ensures) c.in_ok-take_id.ensures.ok)

pub returns-in_err-passed-clause-stop : goal.returns-in_err-passed-clause-stop
returns-in_err-passed-clause-stop g c =
    let p = err_from_is_err_and c.from_residual-in_err-passed.result c.from_residual-in_err-passed.ensures.1 in
    let same = same_id c.take_id.new.id format_id (sym c.if-is_id-2.ensures) in
    let taken = subst (Consumes (g.S.Source.left c.args.src.now) (g.S.Source.left c.take_id.new.src)) same c.in_ok-take_id.ensures.ok in
    rw (p.1, p.2) (stops_back c.args.seen.now [] format_id (g.S.Source.left c.args.src.now) (g.S.Source.left c.take_id.new.src) c.in_err-passed.field-0.0 taken c.in_err-passed.ensures.stop)

pub returns-then-is_id-2-clause-ok : goal.returns-then-is_id-2-clause-ok
returns-then-is_id-2-clause-ok g c =
    let same = same_id c.take_id.new.id format_id (sym c.if-is_id-2.ensures) in
    let taken = subst (Consumes (g.S.Source.left c.args.src.now) (g.S.Source.left c.take_id.new.src)) same c.in_ok-take_id.ensures.ok in (
      c.in_ok-passed.ensures.good,
      passes_front c.args.seen.now c.in_ok-passed.passed format_id (g.S.Source.left c.args.src.now) (g.S.Source.left c.take_id.new.src) (g.S.Source.left c.read_format.new.src) taken c.in_ok-passed.ensures.ok,
    )

pub returns-in_err-passed-2-clause-stop : goal.returns-in_err-passed-2-clause-stop
returns-in_err-passed-2-clause-stop g c =
    let p = err_from_is_err_and c.from_residual-in_err-passed-2.result c.from_residual-in_err-passed-2.ensures.1 in
    rw (p.1, p.2) (stops_back c.args.seen.now [] c.take_id.new.id (g.S.Source.left c.args.src.now) (g.S.Source.left c.take_id.new.src) c.in_err-passed-2.field-0.0
    c.in_ok-take_id.ensures.ok c.in_err-passed-2.ensures.stop)

pub returns-clause-ok : goal.returns-clause-ok
returns-clause-ok g c = (
  c.in_ok-passed-2.ensures.good,
  passes_front c.args.seen.now c.in_ok-passed-2.passed c.take_id.new.id (g.S.Source.left c.args.src.now) (g.S.Source.left c.take_id.new.src) (g.S.Source.left c.read_other.new.src)
      c.in_ok-take_id.ensures.ok c.in_ok-passed-2.ensures.ok,
)
