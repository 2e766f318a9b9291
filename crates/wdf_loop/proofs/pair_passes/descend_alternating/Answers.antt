use Rattle.std.proofs.Common.{◌≡◌, ◌+◌, ◌*◌, ◌<◌, ◌≤◌, ◌^◌, length, map, sym, subst, arith}
use Rattle.std.specs.Prelude.{ℤ, unsigned_abs}
use Rattle.wdf_loop.specs.Pairs.{HasPairs}
use Rattle.wdf_loop.proofs.PairLemmas.{descend_joined, descend_none, descend_part, keeps_none, others_joined, sign-kept}
use Rattle.wdf_loop.proofs.pair_passes.descend_alternating.Goals as goal

pub descend_pairs-requires : goal.descend_pairs-requires
descend_pairs-requires g c =
    let order = c.requires.lone.order in
    let one-or-less : unsigned_abs c.args.pairs.sign ≤ 1 = let one = c.requires.size in omega arith in
    let can = descend_part g.row.C (2 ^ g.row.K) c.args.shares.now c.args.pairs.low (c.args.pairs.start + 2 * c.args.pairs.count) (c.args.pairs.start + 2 * c.args.pairs.count) c.args.pairs.start (map g.R.RunRow.cells c.args.cells.now) (map g.R.RunRow.cells c.args.cells.now) c.args.waves.now c.args.waves.now (omega arith) (omega arith) c.requires.can
    (descend_none g.row.C (2 ^ g.row.K) c.args.shares.now c.args.pairs.low (c.args.pairs.start + 2 * c.args.pairs.count) (map g.R.RunRow.cells c.args.cells.now) c.args.waves.now) (λ i h. keeps_none (map g.R.RunRow.cells c.args.cells.now) i) in
    let same = sym (sign-kept c.args.pairs.sign one-or-less) in
    let runs : g.row.C ≤ 8 = c.requires.runs in
    let size : g.row.C * 8 < 9223372036854775808 = omega arith in
    (size, (c.requires.some, (c.requires.few, (c.requires.runs, (c.requires.inside, (c.requires.each, (c.requires.shares, (subst (λ (z : ℤ). unsigned_abs z ≤ 1) same one-or-less, (subst (λ (z : ℤ). HasPairs c.args.shares.now z c.args.pairs.start c.args.pairs.count) same c.requires.pairs, can)))))))))

pub descend_lone-requires : goal.descend_lone-requires
descend_lone-requires g c =
    let order = c.requires.lone.order in
    let inside = c.requires.inside in
    let each = c.requires.each in
    let long = c.descend_pairs.auto.cells in
    let high : c.args.pairs.start ≤ length c.descend_pairs.new.cells = omega arith in
    let each-now : length c.args.shares.now ≡ length c.descend_pairs.new.cells = omega arith in
    let one = descend_joined g.row.C (2 ^ g.row.K) c.args.shares.now c.args.pairs.low (c.args.pairs.start + 2 * c.args.pairs.count) (c.args.pairs.start + 2 * c.args.pairs.count) c.args.pairs.start (map g.R.RunRow.cells c.args.cells.now) (map g.R.RunRow.cells c.args.cells.now) (map g.R.RunRow.cells c.descend_pairs.new.cells) c.args.waves.now c.args.waves.now c.descend_pairs.new.waves (omega arith) (omega arith)
    (descend_none g.row.C (2 ^ g.row.K) c.args.shares.now c.args.pairs.low (c.args.pairs.start + 2 * c.args.pairs.count) (map g.R.RunRow.cells c.args.cells.now) c.args.waves.now) (λ i h. keeps_none (map g.R.RunRow.cells c.args.cells.now) i) c.descend_pairs.ensures.descend c.descend_pairs.ensures.others in
    let can = descend_part g.row.C (2 ^ g.row.K) c.args.shares.now c.args.pairs.low (c.args.pairs.start + 2 * c.args.pairs.count) c.args.pairs.start c.args.pairs.low (map g.R.RunRow.cells c.args.cells.now) (map g.R.RunRow.cells c.descend_pairs.new.cells) c.args.waves.now c.descend_pairs.new.waves (omega arith) (omega arith) c.requires.can one c.descend_pairs.ensures.others in
    let runs : g.row.C ≤ 8 = c.requires.runs in
    let size : g.row.C * 8 < 9223372036854775808 = omega arith in
    (size, (c.requires.some, (c.requires.few, (c.requires.runs, (high, (each-now, (c.requires.shares, (c.requires.lone, can))))))))

pub returns-clause-descend : goal.returns-clause-descend
returns-clause-descend g c =
    let order = c.requires.lone.order in
    let one = descend_joined g.row.C (2 ^ g.row.K) c.args.shares.now c.args.pairs.low (c.args.pairs.start + 2 * c.args.pairs.count) (c.args.pairs.start + 2 * c.args.pairs.count) c.args.pairs.start (map g.R.RunRow.cells c.args.cells.now) (map g.R.RunRow.cells c.args.cells.now) (map g.R.RunRow.cells c.descend_pairs.new.cells) c.args.waves.now c.args.waves.now c.descend_pairs.new.waves (omega arith) (omega arith)
    (descend_none g.row.C (2 ^ g.row.K) c.args.shares.now c.args.pairs.low (c.args.pairs.start + 2 * c.args.pairs.count) (map g.R.RunRow.cells c.args.cells.now) c.args.waves.now) (λ i h. keeps_none (map g.R.RunRow.cells c.args.cells.now) i) c.descend_pairs.ensures.descend c.descend_pairs.ensures.others in
    descend_joined g.row.C (2 ^ g.row.K) c.args.shares.now c.args.pairs.low (c.args.pairs.start + 2 * c.args.pairs.count) c.args.pairs.start c.args.pairs.low (map g.R.RunRow.cells c.args.cells.now) (map g.R.RunRow.cells c.descend_pairs.new.cells) (map g.R.RunRow.cells c.descend_lone.new.cells) c.args.waves.now c.descend_pairs.new.waves c.descend_lone.new.waves (omega arith) (omega arith)
    one c.descend_pairs.ensures.others c.descend_lone.ensures.descend c.descend_lone.ensures.others

pub returns-clause-others : goal.returns-clause-others
returns-clause-others g c =
    let order = c.requires.lone.order in
    others_joined c.args.pairs.start (c.args.pairs.start + 2 * c.args.pairs.count) c.args.pairs.low c.args.pairs.start (map g.R.RunRow.cells c.args.cells.now) (map g.R.RunRow.cells c.descend_pairs.new.cells) (map g.R.RunRow.cells c.descend_lone.new.cells) c.descend_pairs.ensures.others c.descend_lone.ensures.others
    c.args.pairs.low (c.args.pairs.start + 2 * c.args.pairs.count) (omega arith) (omega arith) (omega arith) (omega arith)
