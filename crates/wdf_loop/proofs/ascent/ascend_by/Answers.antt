use Rattle.std.proofs.Common.{◌*◌, ◌<◌, ◌≤◌, ◌^◌, map, arith}
use Rattle.std.proofs.lemmas.Nat.{pow_pos}
use Rattle.wdf_loop.specs.Runs.{AllCanClimb}
use Rattle.wdf_loop.proofs.AscentLemmas.{ascend_climb, begin_can}
use Rattle.wdf_loop.proofs.ascent.ascend_by.Goals as goal

pub begin-requires : goal.begin-requires
begin-requires g c =
    let can = begin_can g.row.C (2 ^ g.row.K) c.args.shares.now c.args.chain.first c.args.chain.end c.args.chain.sign (map g.R.RunRow.cells c.args.cells.now) (pow_pos g.row.K) c.requires.sign c.requires.can in
    let runs : g.row.C ≤ 8 = c.requires.runs in
    let size : g.row.C * 8 < 9223372036854775808 = omega arith in
    (size, (c.requires.few, (c.requires.runs, (c.requires.bottom, (c.requires.sign, can)))))

pub climb_by-requires : goal.climb_by-requires
climb_by-requires g c =
    let can : AllCanClimb g.row.C (2 ^ g.row.K) c.args.shares.now c.args.chain.first c.args.chain.end (map g.R.RunRow.cells c.args.cells.now) c.begin.new.waves =
    (λ c' h.
    let one = c.requires.can c' h in
    (one.0, one.1, ascend_climb (2 ^ g.row.K) c.args.shares.now c.args.chain.first c.args.chain.end c.args.chain.sign (map g.R.RunRow.cells c.args.cells.now) c.begin.new.waves c' (c.begin.ensures c' h) one.0 one.1 one.2)) in
    let runs : g.row.C ≤ 8 = c.requires.runs in
    let size : g.row.C * 8 < 9223372036854775808 = omega arith in
    (size, (c.requires.few, (c.requires.runs, (c.requires.order, (c.requires.inside, (c.requires.each, (c.requires.shares, (c.requires.pairs, can))))))))

pub returns-clause-ascend : goal.returns-clause-ascend
returns-clause-ascend g c c' h v height can =
    c.climb_by.ensures.climb c' h v height
    (ascend_climb (2 ^ g.row.K) c.args.shares.now c.args.chain.first c.args.chain.end c.args.chain.sign (map g.R.RunRow.cells c.args.cells.now) c.begin.new.waves c' (c.begin.ensures c' h) v height can)
