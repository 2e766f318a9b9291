use Rattle.std.proofs.Common.{◌≡◌, ℕ, ◌+◌, ◌*◌, ◌<◌, ◌≤◌, ◌^◌, length, map, sym, subst, arith, w64, to_z, of_z}
use Rattle.std.specs.Prelude.{ℤ, pos, ◌-ℤ◌, true, false}
use Rattle.wdf_loop.specs.Layouts.{share_at}
use Rattle.wdf_loop.specs.Pairs.{IsOfKind}
use Rattle.wdf_loop.specs.Runs.{HaveClimbed}
use Rattle.wdf_loop.proofs.PairLemmas.{climb_joined, climb_none, climb_part, keeps_none, others_joined, sign-kept, sign-turned}
use Rattle.wdf_loop.proofs.pair_passes.climb_pair.Goals as goal

pub climb_one-requires : goal.climb_one-requires
climb_one-requires g c =
    let inside = c.requires.inside in
    let high : c.args.j < length c.args.cells.now = omega arith in
    let can = (climb_part g.row.C (2 ^ g.row.K) c.args.shares.now c.args.j (c.args.j + 2) c.args.j (c.args.j + 1) (map g.R.RunRow.cells c.args.cells.now) (map g.R.RunRow.cells c.args.cells.now) c.args.waves.now c.args.waves.now (omega arith) (omega arith) c.requires.can
    (climb_none g.row.C (2 ^ g.row.K) c.args.shares.now c.args.j (c.args.j + 2) (map g.R.RunRow.cells c.args.cells.now) c.args.waves.now) (λ i h. keeps_none (map g.R.RunRow.cells c.args.cells.now) i)) in
    let kept : IsOfKind false (to_z w64 (of_z w64 c.args.sign)) (share_at c.args.shares.now c.args.j) = subst (λ (z : ℤ). IsOfKind false z (share_at c.args.shares.now c.args.j)) (sym (sign-kept c.args.sign c.requires.size)) c.requires.pair.series in
    let runs : g.row.C ≤ 8 = c.requires.runs in
    let size : g.row.C * 8 < 9223372036854775808 = omega arith in
    (size, (c.requires.few, (c.requires.runs, (high, (c.requires.each, (c.requires.shares, (kept, can)))))))

pub climb_one-requires-2 : goal.climb_one-requires-2
climb_one-requires-2 g c =
    let inside = c.requires.inside in
    let long = c.climb_one.auto.cells in
    let high : c.args.j + 1 < length c.climb_one.new.cells = omega arith in
    let each = c.requires.each in
    let each-now : length c.args.shares.now ≡ length c.climb_one.new.cells = omega arith in
    let first = (climb_joined g.row.C (2 ^ g.row.K) c.args.shares.now c.args.j (c.args.j + 2) c.args.j (c.args.j + 1) (map g.R.RunRow.cells c.args.cells.now) (map g.R.RunRow.cells c.args.cells.now) (map g.R.RunRow.cells c.climb_one.new.cells) c.args.waves.now c.args.waves.now c.climb_one.new.waves (omega arith) (omega arith)
    (climb_none g.row.C (2 ^ g.row.K) c.args.shares.now c.args.j (c.args.j + 2) (map g.R.RunRow.cells c.args.cells.now) c.args.waves.now) (λ i h. keeps_none (map g.R.RunRow.cells c.args.cells.now) i)
    c.climb_one.ensures.climb c.climb_one.ensures.others) in
    let last : c.args.j + 2 ≡ c.args.j + 1 + 1 = omega arith in
    let can = (climb_part g.row.C (2 ^ g.row.K) c.args.shares.now c.args.j (c.args.j + 2) (c.args.j + 1) (c.args.j + 1 + 1) (map g.R.RunRow.cells c.args.cells.now) (map g.R.RunRow.cells c.climb_one.new.cells) c.args.waves.now c.climb_one.new.waves (omega arith) (omega arith) c.requires.can
    first c.climb_one.ensures.others) in
    let turned : IsOfKind true (to_z w64 (of_z w64 (pos 0 -ℤ to_z w64 (of_z w64 c.args.sign)))) (share_at c.args.shares.now (c.args.j + 1)) = subst (λ (z : ℤ). IsOfKind true z (share_at c.args.shares.now (c.args.j + 1))) (sym (sign-turned c.args.sign c.requires.size)) c.requires.pair.parallel in
    let runs : g.row.C ≤ 8 = c.requires.runs in
    let size : g.row.C * 8 < 9223372036854775808 = omega arith in
    (size, (c.requires.few, (c.requires.runs, (high, (each-now, (c.requires.shares, (turned, can)))))))

pub returns-clause-climb : goal.returns-clause-climb
returns-clause-climb g c =
    let first = (climb_joined g.row.C (2 ^ g.row.K) c.args.shares.now c.args.j (c.args.j + 2) c.args.j (c.args.j + 1) (map g.R.RunRow.cells c.args.cells.now) (map g.R.RunRow.cells c.args.cells.now) (map g.R.RunRow.cells c.climb_one.new.cells) c.args.waves.now c.args.waves.now c.climb_one.new.waves (omega arith) (omega arith)
    (climb_none g.row.C (2 ^ g.row.K) c.args.shares.now c.args.j (c.args.j + 2) (map g.R.RunRow.cells c.args.cells.now) c.args.waves.now) (λ i h. keeps_none (map g.R.RunRow.cells c.args.cells.now) i)
    c.climb_one.ensures.climb c.climb_one.ensures.others) in
    let last : c.args.j + 1 + 1 ≡ c.args.j + 2 = omega arith in
    subst (λ (to : ℕ). HaveClimbed g.row.C (2 ^ g.row.K) c.args.shares.now c.args.j (c.args.j + 2) to (map g.R.RunRow.cells c.args.cells.now) c.args.waves.now (map g.R.RunRow.cells c.climb_one-2.new.cells) c.climb_one-2.new.waves) last
    (climb_joined g.row.C (2 ^ g.row.K) c.args.shares.now c.args.j (c.args.j + 2) (c.args.j + 1) (c.args.j + 1 + 1) (map g.R.RunRow.cells c.args.cells.now) (map g.R.RunRow.cells c.climb_one.new.cells) (map g.R.RunRow.cells c.climb_one-2.new.cells) c.args.waves.now c.climb_one.new.waves c.climb_one-2.new.waves (omega arith) (omega arith)
    first c.climb_one.ensures.others
    c.climb_one-2.ensures.climb c.climb_one-2.ensures.others)

pub returns-clause-others : goal.returns-clause-others
returns-clause-others g c =
    others_joined c.args.j (c.args.j + 1) (c.args.j + 1) (c.args.j + 1 + 1) (map g.R.RunRow.cells c.args.cells.now) (map g.R.RunRow.cells c.climb_one.new.cells) (map g.R.RunRow.cells c.climb_one-2.new.cells) c.climb_one.ensures.others c.climb_one-2.ensures.others
    c.args.j (c.args.j + 2) (omega arith) (omega arith) (omega arith) (omega arith)
