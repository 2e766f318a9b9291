use Rattle.std.proofs.Common.{rules}
use Rattle.std.proofs.lemmas.Result.{err_from_is_err_and}
use Rattle.wdf_wav.proofs.SeenLemmas.{head_stops, seen_more, takes_head}
use Rattle.wdf_wav.proofs.head_reader.read_head.Goals as goal

pub returns-in_err-passed-clause-fault : goal.returns-in_err-passed-clause-fault
returns-in_err-passed-clause-fault g c =
    let p = err_from_is_err_and c.from_residual-in_err-passed.result c.from_residual-in_err-passed.ensures.1 in
    let so_far = c.loop-passed.invariant in
    rw (p.1, p.2) (head_stops c.loop-passed.seen (g.S.Source.left c.args.src.now) (g.S.Source.left c.loop-passed.src) c.in_err-passed.field-0.0 so_far.good.few so_far.seen c.in_err-passed.ensures.stop)

pub loop-passed-preserved : goal.loop-passed-preserved
loop-passed-preserved g c =
    let so_far = c.loop-passed.invariant in
    let next = rw c.in-Chunk.is at c.in_ok-passed.ensures.ok in
    record {
      good = next.0;
      seen = seen_more c.loop-passed.seen c.in-Chunk.passed (g.S.Source.left c.args.src.now) (g.S.Source.left c.loop-passed.src) (g.S.Source.left c.read_next.new.src) so_far.seen next.1;
      later = search rules;
    }

pub returns-in-Data-clause-head : goal.returns-in-Data-clause-head
returns-in-Data-clause-head g c =
    let so_far = c.loop-passed.invariant in
    let next = rw c.in-Data.is at c.in_ok-passed.ensures.ok in
    takes_head c.loop-passed.seen c.in-Data.head (g.S.Source.left c.args.src.now) (g.S.Source.left c.loop-passed.src) (g.S.Source.left c.read_next.new.src) so_far.good.few so_far.seen next.1
