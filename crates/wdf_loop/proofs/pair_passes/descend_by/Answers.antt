use Rattle.std.proofs.Common.{◌≡◌, ◌+◌, ◌*◌, ◌<◌, ◌≤◌, ◌^◌, length, map, arith}
use Rattle.wdf_loop.proofs.PairLemmas.{descend_joined, descend_none, descend_part, keeps_none, others_joined}
use Rattle.wdf_loop.proofs.pair_passes.descend_by.Goals as goal

pub descend-requires : goal.descend-requires
descend-requires g c =
    let order = c.requires.pairs.order in
    let lone = c.requires.pairs.lone.order in
    let within = c.requires.pairs.inside in
    let inside = c.requires.inside in
    let each = c.requires.each in
    let can = (descend_part g.row.C (2 ^ g.row.K) c.args.shares.now c.args.first c.args.end c.args.end (c.args.pairs.start + 2 * c.args.pairs.count) (map g.R.RunRow.cells c.args.cells.now) (map g.R.RunRow.cells c.args.cells.now) c.args.waves.now c.args.waves.now (omega arith) (omega arith) c.requires.can
    (descend_none g.row.C (2 ^ g.row.K) c.args.shares.now c.args.first c.args.end (map g.R.RunRow.cells c.args.cells.now) c.args.waves.now) (λ i h. keeps_none (map g.R.RunRow.cells c.args.cells.now) i)) in
    let runs : g.row.C ≤ 8 = c.requires.runs in
    let size : g.row.C * 8 < 9223372036854775808 = omega arith in
    (size, (c.requires.some, (c.requires.few, (c.requires.runs, (within, (c.requires.inside, (c.requires.each, (c.requires.shares, can))))))))

pub descend_alternating-requires : goal.descend_alternating-requires
descend_alternating-requires g c =
    let order = c.requires.pairs.order in
    let lone = c.requires.pairs.lone.order in
    let within = c.requires.pairs.inside in
    let inside = c.requires.inside in
    let each = c.requires.each in
    let long = c.descend.auto.cells in
    let high : c.args.pairs.start + 2 * c.args.pairs.count ≤ length c.descend.new.cells = omega arith in
    let each-now : length c.args.shares.now ≡ length c.descend.new.cells = omega arith in
    let one = (descend_joined g.row.C (2 ^ g.row.K) c.args.shares.now c.args.first c.args.end c.args.end (c.args.pairs.start + 2 * c.args.pairs.count) (map g.R.RunRow.cells c.args.cells.now) (map g.R.RunRow.cells c.args.cells.now) (map g.R.RunRow.cells c.descend.new.cells) c.args.waves.now c.args.waves.now c.descend.new.waves (omega arith) (omega arith)
    (descend_none g.row.C (2 ^ g.row.K) c.args.shares.now c.args.first c.args.end (map g.R.RunRow.cells c.args.cells.now) c.args.waves.now) (λ i h. keeps_none (map g.R.RunRow.cells c.args.cells.now) i)
    c.descend.ensures.descend c.descend.ensures.others) in
    let can = (descend_part g.row.C (2 ^ g.row.K) c.args.shares.now c.args.first c.args.end (c.args.pairs.start + 2 * c.args.pairs.count) c.args.pairs.low (map g.R.RunRow.cells c.args.cells.now) (map g.R.RunRow.cells c.descend.new.cells) c.args.waves.now c.descend.new.waves (omega arith) (omega arith) c.requires.can
    one c.descend.ensures.others) in
    let runs : g.row.C ≤ 8 = c.requires.runs in
    let size : g.row.C * 8 < 9223372036854775808 = omega arith in
    (size, (c.requires.some, (c.requires.few, (c.requires.runs, (high, (each-now, (c.requires.shares, (c.requires.pairs.size, (c.requires.pairs.lone, (c.requires.pairs.pairs, can))))))))))

pub descend-requires-2 : goal.descend-requires-2
descend-requires-2 g c =
    let order = c.requires.pairs.order in
    let lone = c.requires.pairs.lone.order in
    let within = c.requires.pairs.inside in
    let inside = c.requires.inside in
    let each = c.requires.each in
    let long = c.descend.auto.cells in
    let long-2 = c.descend_alternating.auto.cells in
    let high : c.args.pairs.low ≤ length c.descend_alternating.new.cells = omega arith in
    let each-now : length c.args.shares.now ≡ length c.descend_alternating.new.cells = omega arith in
    let one = (descend_joined g.row.C (2 ^ g.row.K) c.args.shares.now c.args.first c.args.end c.args.end (c.args.pairs.start + 2 * c.args.pairs.count) (map g.R.RunRow.cells c.args.cells.now) (map g.R.RunRow.cells c.args.cells.now) (map g.R.RunRow.cells c.descend.new.cells) c.args.waves.now c.args.waves.now c.descend.new.waves (omega arith) (omega arith)
    (descend_none g.row.C (2 ^ g.row.K) c.args.shares.now c.args.first c.args.end (map g.R.RunRow.cells c.args.cells.now) c.args.waves.now) (λ i h. keeps_none (map g.R.RunRow.cells c.args.cells.now) i)
    c.descend.ensures.descend c.descend.ensures.others) in
    let two = (descend_joined g.row.C (2 ^ g.row.K) c.args.shares.now c.args.first c.args.end (c.args.pairs.start + 2 * c.args.pairs.count) c.args.pairs.low (map g.R.RunRow.cells c.args.cells.now) (map g.R.RunRow.cells c.descend.new.cells) (map g.R.RunRow.cells c.descend_alternating.new.cells) c.args.waves.now c.descend.new.waves c.descend_alternating.new.waves (omega arith) (omega arith)
    one c.descend.ensures.others
    c.descend_alternating.ensures.descend c.descend_alternating.ensures.others) in
    let can = (descend_part g.row.C (2 ^ g.row.K) c.args.shares.now c.args.first c.args.end c.args.pairs.low c.args.first (map g.R.RunRow.cells c.args.cells.now) (map g.R.RunRow.cells c.descend_alternating.new.cells) c.args.waves.now c.descend_alternating.new.waves (omega arith) (omega arith) c.requires.can
    two (others_joined (c.args.pairs.start + 2 * c.args.pairs.count) c.args.end c.args.pairs.low (c.args.pairs.start + 2 * c.args.pairs.count) (map g.R.RunRow.cells c.args.cells.now) (map g.R.RunRow.cells c.descend.new.cells) (map g.R.RunRow.cells c.descend_alternating.new.cells) c.descend.ensures.others c.descend_alternating.ensures.others c.args.pairs.low c.args.end (omega arith) (omega arith) (omega arith) (omega arith))) in
    let runs : g.row.C ≤ 8 = c.requires.runs in
    let size : g.row.C * 8 < 9223372036854775808 = omega arith in
    (size, (c.requires.some, (c.requires.few, (c.requires.runs, (order, (high, (each-now, (c.requires.shares, can))))))))

pub returns-clause-descend : goal.returns-clause-descend
returns-clause-descend g c =
    let order = c.requires.pairs.order in
    let lone = c.requires.pairs.lone.order in
    let within = c.requires.pairs.inside in
    let inside = c.requires.inside in
    let each = c.requires.each in
    let one = (descend_joined g.row.C (2 ^ g.row.K) c.args.shares.now c.args.first c.args.end c.args.end (c.args.pairs.start + 2 * c.args.pairs.count) (map g.R.RunRow.cells c.args.cells.now) (map g.R.RunRow.cells c.args.cells.now) (map g.R.RunRow.cells c.descend.new.cells) c.args.waves.now c.args.waves.now c.descend.new.waves (omega arith) (omega arith)
    (descend_none g.row.C (2 ^ g.row.K) c.args.shares.now c.args.first c.args.end (map g.R.RunRow.cells c.args.cells.now) c.args.waves.now) (λ i h. keeps_none (map g.R.RunRow.cells c.args.cells.now) i)
    c.descend.ensures.descend c.descend.ensures.others) in
    let two = (descend_joined g.row.C (2 ^ g.row.K) c.args.shares.now c.args.first c.args.end (c.args.pairs.start + 2 * c.args.pairs.count) c.args.pairs.low (map g.R.RunRow.cells c.args.cells.now) (map g.R.RunRow.cells c.descend.new.cells) (map g.R.RunRow.cells c.descend_alternating.new.cells) c.args.waves.now c.descend.new.waves c.descend_alternating.new.waves (omega arith) (omega arith)
    one c.descend.ensures.others
    c.descend_alternating.ensures.descend c.descend_alternating.ensures.others) in
    (descend_joined g.row.C (2 ^ g.row.K) c.args.shares.now c.args.first c.args.end c.args.pairs.low c.args.first (map g.R.RunRow.cells c.args.cells.now) (map g.R.RunRow.cells c.descend_alternating.new.cells) (map g.R.RunRow.cells c.descend-2.new.cells) c.args.waves.now c.descend_alternating.new.waves c.descend-2.new.waves (omega arith) (omega arith)
    two (others_joined (c.args.pairs.start + 2 * c.args.pairs.count) c.args.end c.args.pairs.low (c.args.pairs.start + 2 * c.args.pairs.count) (map g.R.RunRow.cells c.args.cells.now) (map g.R.RunRow.cells c.descend.new.cells) (map g.R.RunRow.cells c.descend_alternating.new.cells) c.descend.ensures.others c.descend_alternating.ensures.others c.args.pairs.low c.args.end (omega arith) (omega arith) (omega arith) (omega arith))
    c.descend-2.ensures.descend c.descend-2.ensures.others)

pub returns-clause-others : goal.returns-clause-others
returns-clause-others g c =
    let order = c.requires.pairs.order in
    let lone = c.requires.pairs.lone.order in
    let within = c.requires.pairs.inside in
    let inside = c.requires.inside in
    let each = c.requires.each in
    others_joined c.args.pairs.low c.args.end c.args.first c.args.pairs.low (map g.R.RunRow.cells c.args.cells.now) (map g.R.RunRow.cells c.descend_alternating.new.cells) (map g.R.RunRow.cells c.descend-2.new.cells) (others_joined (c.args.pairs.start + 2 * c.args.pairs.count) c.args.end c.args.pairs.low (c.args.pairs.start + 2 * c.args.pairs.count) (map g.R.RunRow.cells c.args.cells.now) (map g.R.RunRow.cells c.descend.new.cells) (map g.R.RunRow.cells c.descend_alternating.new.cells) c.descend.ensures.others c.descend_alternating.ensures.others c.args.pairs.low c.args.end (omega arith) (omega arith) (omega arith) (omega arith)) c.descend-2.ensures.others c.args.first c.args.end (omega arith) (omega arith) (omega arith) (omega arith)
