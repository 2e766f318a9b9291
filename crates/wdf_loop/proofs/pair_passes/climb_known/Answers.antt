use Rattle.std.proofs.Common.{◌≡◌, ◌+◌, ◌*◌, ◌<◌, ◌≤◌, ◌^◌, length, map, sym, subst, arith}
use Rattle.std.specs.Prelude.{ℤ, unsigned_abs}
use Rattle.wdf_loop.specs.Pairs.{HasPairs}
use Rattle.wdf_loop.proofs.PairLemmas.{climb_joined, climb_none, climb_part, keeps_none, others_joined, sign-kept}
use Rattle.wdf_loop.proofs.pair_passes.climb_known.Goals as goal

pub climb_lone-requires : goal.climb_lone-requires
climb_lone-requires g c =
    let order = c.requires.lone.order in
    let inside = c.requires.inside in
    let high : c.args.start ≤ length c.args.cells.now = omega arith in
    let can = climb_part g.row.C (2 ^ g.row.K) c.args.shares.now c.args.low (c.args.start + 2 * c.args.count) c.args.low c.args.start (map g.R.RunRow.cells c.args.cells.now) (map g.R.RunRow.cells c.args.cells.now) c.args.waves.now c.args.waves.now (omega arith) (omega arith) c.requires.can
    (climb_none g.row.C (2 ^ g.row.K) c.args.shares.now c.args.low (c.args.start + 2 * c.args.count) (map g.R.RunRow.cells c.args.cells.now) c.args.waves.now) (λ i h. keeps_none (map g.R.RunRow.cells c.args.cells.now) i) in
    let runs : g.row.C ≤ 8 = c.requires.runs in
    let size : g.row.C * 8 < 9223372036854775808 = omega arith in
    (size, (c.requires.few, (c.requires.runs, (high, (c.requires.each, (c.requires.shares, (c.requires.lone, can)))))))

pub climb_pairs-requires : goal.climb_pairs-requires
climb_pairs-requires g c =
    let order = c.requires.lone.order in
    let inside = c.requires.inside in
    let each = c.requires.each in
    let long = c.climb_lone.auto.cells in
    let high : c.args.start + 2 * c.args.count ≤ length c.climb_lone.new.cells = omega arith in
    let each-now : length c.args.shares.now ≡ length c.climb_lone.new.cells = omega arith in
    let one = climb_joined g.row.C (2 ^ g.row.K) c.args.shares.now c.args.low (c.args.start + 2 * c.args.count) c.args.low c.args.start (map g.R.RunRow.cells c.args.cells.now) (map g.R.RunRow.cells c.args.cells.now) (map g.R.RunRow.cells c.climb_lone.new.cells) c.args.waves.now c.args.waves.now c.climb_lone.new.waves (omega arith) (omega arith)
    (climb_none g.row.C (2 ^ g.row.K) c.args.shares.now c.args.low (c.args.start + 2 * c.args.count) (map g.R.RunRow.cells c.args.cells.now) c.args.waves.now) (λ i h. keeps_none (map g.R.RunRow.cells c.args.cells.now) i) c.climb_lone.ensures.climb c.climb_lone.ensures.others in
    let can = climb_part g.row.C (2 ^ g.row.K) c.args.shares.now c.args.low (c.args.start + 2 * c.args.count) c.args.start (c.args.start + 2 * c.args.count) (map g.R.RunRow.cells c.args.cells.now) (map g.R.RunRow.cells c.climb_lone.new.cells) c.args.waves.now c.climb_lone.new.waves (omega arith) (omega arith) c.requires.can one c.climb_lone.ensures.others in
    let same = sym (sign-kept c.args.sign c.requires.size) in
    let runs : g.row.C ≤ 8 = c.requires.runs in
    let size : g.row.C * 8 < 9223372036854775808 = omega arith in
    (size, (c.requires.few, (c.requires.runs, (high, (each-now, (c.requires.shares, (subst (λ (z : ℤ). unsigned_abs z ≤ 1) same c.requires.size, (subst (λ (z : ℤ). HasPairs c.args.shares.now z c.args.start c.args.count) same c.requires.pairs, can))))))))

pub returns-clause-climb : goal.returns-clause-climb
returns-clause-climb g c =
    let order = c.requires.lone.order in
    let one = climb_joined g.row.C (2 ^ g.row.K) c.args.shares.now c.args.low (c.args.start + 2 * c.args.count) c.args.low c.args.start (map g.R.RunRow.cells c.args.cells.now) (map g.R.RunRow.cells c.args.cells.now) (map g.R.RunRow.cells c.climb_lone.new.cells) c.args.waves.now c.args.waves.now c.climb_lone.new.waves (omega arith) (omega arith)
    (climb_none g.row.C (2 ^ g.row.K) c.args.shares.now c.args.low (c.args.start + 2 * c.args.count) (map g.R.RunRow.cells c.args.cells.now) c.args.waves.now) (λ i h. keeps_none (map g.R.RunRow.cells c.args.cells.now) i) c.climb_lone.ensures.climb c.climb_lone.ensures.others in
    climb_joined g.row.C (2 ^ g.row.K) c.args.shares.now c.args.low (c.args.start + 2 * c.args.count) c.args.start (c.args.start + 2 * c.args.count) (map g.R.RunRow.cells c.args.cells.now) (map g.R.RunRow.cells c.climb_lone.new.cells) (map g.R.RunRow.cells c.climb_pairs.new.cells) c.args.waves.now c.climb_lone.new.waves c.climb_pairs.new.waves (omega arith) (omega arith)
    one c.climb_lone.ensures.others c.climb_pairs.ensures.climb c.climb_pairs.ensures.others

pub returns-clause-others : goal.returns-clause-others
returns-clause-others g c =
    let order = c.requires.lone.order in
    others_joined c.args.low c.args.start c.args.start (c.args.start + 2 * c.args.count) (map g.R.RunRow.cells c.args.cells.now) (map g.R.RunRow.cells c.climb_lone.new.cells) (map g.R.RunRow.cells c.climb_pairs.new.cells) c.climb_lone.ensures.others c.climb_pairs.ensures.others
    c.args.low (c.args.start + 2 * c.args.count) (omega arith) (omega arith) (omega arith) (omega arith)
