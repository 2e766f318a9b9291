use Rattle.std.proofs.Common.{◌≡◌, ◌+◌, ◌*◌, ◌<◌, ◌≤◌, ◌^◌, length, map, arith}
use Rattle.wdf_loop.proofs.PairLemmas.{climb_joined, climb_none, climb_part, keeps_none, others_joined}
use Rattle.wdf_loop.proofs.pair_passes.climb_by.Goals as goal

pub climb-requires : goal.climb-requires
climb-requires g c =
    let order = c.requires.pairs.order in
    let lone = c.requires.pairs.lone.order in
    let within = c.requires.pairs.inside in
    let inside = c.requires.inside in
    let each = c.requires.each in
    let high : c.args.pairs.low ≤ length c.args.cells.now = omega arith in
    let can = (climb_part g.row.C (2 ^ g.row.K) c.args.shares.now c.args.first c.args.end c.args.first c.args.pairs.low (map g.R.RunRow.cells c.args.cells.now) (map g.R.RunRow.cells c.args.cells.now) c.args.waves.now c.args.waves.now (omega arith) (omega arith) c.requires.can
    (climb_none g.row.C (2 ^ g.row.K) c.args.shares.now c.args.first c.args.end (map g.R.RunRow.cells c.args.cells.now) c.args.waves.now) (λ i h. keeps_none (map g.R.RunRow.cells c.args.cells.now) i)) in
    let runs : g.row.C ≤ 8 = c.requires.runs in
    let size : g.row.C * 8 < 9223372036854775808 = omega arith in
    (size, (c.requires.few, (c.requires.runs, (order, (high, (c.requires.each, (c.requires.shares, can)))))))

pub climb_alternating-requires : goal.climb_alternating-requires
climb_alternating-requires g c =
    let order = c.requires.pairs.order in
    let lone = c.requires.pairs.lone.order in
    let within = c.requires.pairs.inside in
    let inside = c.requires.inside in
    let each = c.requires.each in
    let long = c.climb.auto.cells in
    let high : c.args.pairs.start + 2 * c.args.pairs.count ≤ length c.climb.new.cells = omega arith in
    let each-now : length c.args.shares.now ≡ length c.climb.new.cells = omega arith in
    let one = (climb_joined g.row.C (2 ^ g.row.K) c.args.shares.now c.args.first c.args.end c.args.first c.args.pairs.low (map g.R.RunRow.cells c.args.cells.now) (map g.R.RunRow.cells c.args.cells.now) (map g.R.RunRow.cells c.climb.new.cells) c.args.waves.now c.args.waves.now c.climb.new.waves (omega arith) (omega arith)
    (climb_none g.row.C (2 ^ g.row.K) c.args.shares.now c.args.first c.args.end (map g.R.RunRow.cells c.args.cells.now) c.args.waves.now) (λ i h. keeps_none (map g.R.RunRow.cells c.args.cells.now) i)
    c.climb.ensures.climb c.climb.ensures.others) in
    let can = (climb_part g.row.C (2 ^ g.row.K) c.args.shares.now c.args.first c.args.end c.args.pairs.low (c.args.pairs.start + 2 * c.args.pairs.count) (map g.R.RunRow.cells c.args.cells.now) (map g.R.RunRow.cells c.climb.new.cells) c.args.waves.now c.climb.new.waves (omega arith) (omega arith) c.requires.can
    one c.climb.ensures.others) in
    let runs : g.row.C ≤ 8 = c.requires.runs in
    let size : g.row.C * 8 < 9223372036854775808 = omega arith in
    (size, (c.requires.few, (c.requires.runs, (high, (each-now, (c.requires.shares, (c.requires.pairs.size, (c.requires.pairs.lone, (c.requires.pairs.pairs, can)))))))))

pub climb-requires-2 : goal.climb-requires-2
climb-requires-2 g c =
    let order = c.requires.pairs.order in
    let lone = c.requires.pairs.lone.order in
    let within = c.requires.pairs.inside in
    let inside = c.requires.inside in
    let each = c.requires.each in
    let long = c.climb.auto.cells in
    let long-2 = c.climb_alternating.auto.cells in
    let high : c.args.end ≤ length c.climb_alternating.new.cells = omega arith in
    let each-now : length c.args.shares.now ≡ length c.climb_alternating.new.cells = omega arith in
    let one = (climb_joined g.row.C (2 ^ g.row.K) c.args.shares.now c.args.first c.args.end c.args.first c.args.pairs.low (map g.R.RunRow.cells c.args.cells.now) (map g.R.RunRow.cells c.args.cells.now) (map g.R.RunRow.cells c.climb.new.cells) c.args.waves.now c.args.waves.now c.climb.new.waves (omega arith) (omega arith)
    (climb_none g.row.C (2 ^ g.row.K) c.args.shares.now c.args.first c.args.end (map g.R.RunRow.cells c.args.cells.now) c.args.waves.now) (λ i h. keeps_none (map g.R.RunRow.cells c.args.cells.now) i)
    c.climb.ensures.climb c.climb.ensures.others) in
    let two = (climb_joined g.row.C (2 ^ g.row.K) c.args.shares.now c.args.first c.args.end c.args.pairs.low (c.args.pairs.start + 2 * c.args.pairs.count) (map g.R.RunRow.cells c.args.cells.now) (map g.R.RunRow.cells c.climb.new.cells) (map g.R.RunRow.cells c.climb_alternating.new.cells) c.args.waves.now c.climb.new.waves c.climb_alternating.new.waves (omega arith) (omega arith)
    one c.climb.ensures.others
    c.climb_alternating.ensures.climb c.climb_alternating.ensures.others) in
    let can = (climb_part g.row.C (2 ^ g.row.K) c.args.shares.now c.args.first c.args.end (c.args.pairs.start + 2 * c.args.pairs.count) c.args.end (map g.R.RunRow.cells c.args.cells.now) (map g.R.RunRow.cells c.climb_alternating.new.cells) c.args.waves.now c.climb_alternating.new.waves (omega arith) (omega arith) c.requires.can
    two (others_joined c.args.first c.args.pairs.low c.args.pairs.low (c.args.pairs.start + 2 * c.args.pairs.count) (map g.R.RunRow.cells c.args.cells.now) (map g.R.RunRow.cells c.climb.new.cells) (map g.R.RunRow.cells c.climb_alternating.new.cells) c.climb.ensures.others c.climb_alternating.ensures.others c.args.first (c.args.pairs.start + 2 * c.args.pairs.count) (omega arith) (omega arith) (omega arith) (omega arith))) in
    let runs : g.row.C ≤ 8 = c.requires.runs in
    let size : g.row.C * 8 < 9223372036854775808 = omega arith in
    (size, (c.requires.few, (c.requires.runs, (within, (high, (each-now, (c.requires.shares, can)))))))

pub returns-clause-climb : goal.returns-clause-climb
returns-clause-climb g c =
    let order = c.requires.pairs.order in
    let lone = c.requires.pairs.lone.order in
    let within = c.requires.pairs.inside in
    let inside = c.requires.inside in
    let each = c.requires.each in
    let one = (climb_joined g.row.C (2 ^ g.row.K) c.args.shares.now c.args.first c.args.end c.args.first c.args.pairs.low (map g.R.RunRow.cells c.args.cells.now) (map g.R.RunRow.cells c.args.cells.now) (map g.R.RunRow.cells c.climb.new.cells) c.args.waves.now c.args.waves.now c.climb.new.waves (omega arith) (omega arith)
    (climb_none g.row.C (2 ^ g.row.K) c.args.shares.now c.args.first c.args.end (map g.R.RunRow.cells c.args.cells.now) c.args.waves.now) (λ i h. keeps_none (map g.R.RunRow.cells c.args.cells.now) i)
    c.climb.ensures.climb c.climb.ensures.others) in
    let two = (climb_joined g.row.C (2 ^ g.row.K) c.args.shares.now c.args.first c.args.end c.args.pairs.low (c.args.pairs.start + 2 * c.args.pairs.count) (map g.R.RunRow.cells c.args.cells.now) (map g.R.RunRow.cells c.climb.new.cells) (map g.R.RunRow.cells c.climb_alternating.new.cells) c.args.waves.now c.climb.new.waves c.climb_alternating.new.waves (omega arith) (omega arith)
    one c.climb.ensures.others
    c.climb_alternating.ensures.climb c.climb_alternating.ensures.others) in
    (climb_joined g.row.C (2 ^ g.row.K) c.args.shares.now c.args.first c.args.end (c.args.pairs.start + 2 * c.args.pairs.count) c.args.end (map g.R.RunRow.cells c.args.cells.now) (map g.R.RunRow.cells c.climb_alternating.new.cells) (map g.R.RunRow.cells c.climb-2.new.cells) c.args.waves.now c.climb_alternating.new.waves c.climb-2.new.waves (omega arith) (omega arith)
    two (others_joined c.args.first c.args.pairs.low c.args.pairs.low (c.args.pairs.start + 2 * c.args.pairs.count) (map g.R.RunRow.cells c.args.cells.now) (map g.R.RunRow.cells c.climb.new.cells) (map g.R.RunRow.cells c.climb_alternating.new.cells) c.climb.ensures.others c.climb_alternating.ensures.others c.args.first (c.args.pairs.start + 2 * c.args.pairs.count) (omega arith) (omega arith) (omega arith) (omega arith))
    c.climb-2.ensures.climb c.climb-2.ensures.others)

pub returns-clause-others : goal.returns-clause-others
returns-clause-others g c =
    let order = c.requires.pairs.order in
    let lone = c.requires.pairs.lone.order in
    let within = c.requires.pairs.inside in
    let inside = c.requires.inside in
    let each = c.requires.each in
    others_joined c.args.first (c.args.pairs.start + 2 * c.args.pairs.count) (c.args.pairs.start + 2 * c.args.pairs.count) c.args.end (map g.R.RunRow.cells c.args.cells.now) (map g.R.RunRow.cells c.climb_alternating.new.cells) (map g.R.RunRow.cells c.climb-2.new.cells) (others_joined c.args.first c.args.pairs.low c.args.pairs.low (c.args.pairs.start + 2 * c.args.pairs.count) (map g.R.RunRow.cells c.args.cells.now) (map g.R.RunRow.cells c.climb.new.cells) (map g.R.RunRow.cells c.climb_alternating.new.cells) c.climb.ensures.others c.climb_alternating.ensures.others c.args.first (c.args.pairs.start + 2 * c.args.pairs.count) (omega arith) (omega arith) (omega arith) (omega arith)) c.climb-2.ensures.others c.args.first c.args.end (omega arith) (omega arith) (omega arith) (omega arith)
