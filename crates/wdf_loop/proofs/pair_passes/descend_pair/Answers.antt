use Rattle.std.proofs.Common.{◌≡◌, ℕ, ◌+◌, ◌*◌, ◌<◌, ◌≤◌, ◌^◌, length, map, sym, subst, arith, w64, to_z, of_z}
use Rattle.std.specs.Prelude.{ℤ, pos, ◌-ℤ◌, true, false}
use Rattle.wdf_loop.specs.Layouts.{share_at}
use Rattle.wdf_loop.specs.Pairs.{IsOfKind}
use Rattle.wdf_loop.specs.Runs.{AllCanDescend, HaveDescended, KeepsOthers}
use Rattle.wdf_loop.proofs.PairLemmas.{descend_joined, descend_none, descend_part, keeps_none, others_joined, sign-kept, sign-turned}
use Rattle.wdf_loop.proofs.pair_passes.descend_pair.Goals as goal

pub descend_one-requires : goal.descend_one-requires
descend_one-requires g c =
    let inside = c.requires.inside in
    let high : c.args.j + 1 < length c.args.cells.now = omega arith in
    let last : c.args.j + 2 ≡ c.args.j + 1 + 1 = omega arith in
    let can = subst (λ (top : ℕ). AllCanDescend g.row.C (2 ^ g.row.K) c.args.shares.now (c.args.j + 1) top (map g.R.RunRow.cells c.args.cells.now) c.args.waves.now) last
    (descend_part g.row.C (2 ^ g.row.K) c.args.shares.now c.args.j (c.args.j + 2) (c.args.j + 2) (c.args.j + 1) (map g.R.RunRow.cells c.args.cells.now) (map g.R.RunRow.cells c.args.cells.now) c.args.waves.now c.args.waves.now (omega arith) (omega arith) c.requires.can
    (descend_none g.row.C (2 ^ g.row.K) c.args.shares.now c.args.j (c.args.j + 2) (map g.R.RunRow.cells c.args.cells.now) c.args.waves.now) (λ i h. keeps_none (map g.R.RunRow.cells c.args.cells.now) i)) in
    let turned : IsOfKind true (to_z w64 (of_z w64 (pos 0 -ℤ to_z w64 (of_z w64 c.args.sign)))) (share_at c.args.shares.now (c.args.j + 1)) = subst (λ (z : ℤ). IsOfKind true z (share_at c.args.shares.now (c.args.j + 1))) (sym (sign-turned c.args.sign c.requires.size)) c.requires.pair.parallel in
    let runs : g.row.C ≤ 8 = c.requires.runs in
    let size : g.row.C * 8 < 9223372036854775808 = omega arith in
    (size, (c.requires.some, (c.requires.few, (c.requires.runs, (high, (c.requires.each, (c.requires.shares, (turned, can))))))))

pub descend_one-requires-2 : goal.descend_one-requires-2
descend_one-requires-2 g c =
    let inside = c.requires.inside in
    let long = c.descend_one.auto.cells in
    let high : c.args.j < length c.descend_one.new.cells = omega arith in
    let each = c.requires.each in
    let each-now : length c.args.shares.now ≡ length c.descend_one.new.cells = omega arith in
    let last : c.args.j + 1 + 1 ≡ c.args.j + 2 = omega arith in
    let others = subst (λ (top : ℕ). KeepsOthers (c.args.j + 1) top (map g.R.RunRow.cells c.args.cells.now) (map g.R.RunRow.cells c.descend_one.new.cells)) last c.descend_one.ensures.others in
    let first = (descend_joined g.row.C (2 ^ g.row.K) c.args.shares.now c.args.j (c.args.j + 2) (c.args.j + 2) (c.args.j + 1) (map g.R.RunRow.cells c.args.cells.now) (map g.R.RunRow.cells c.args.cells.now) (map g.R.RunRow.cells c.descend_one.new.cells) c.args.waves.now c.args.waves.now c.descend_one.new.waves (omega arith) (omega arith)
    (descend_none g.row.C (2 ^ g.row.K) c.args.shares.now c.args.j (c.args.j + 2) (map g.R.RunRow.cells c.args.cells.now) c.args.waves.now) (λ i h. keeps_none (map g.R.RunRow.cells c.args.cells.now) i)
    (subst (λ (top : ℕ). HaveDescended g.row.C (2 ^ g.row.K) c.args.shares.now (c.args.j + 1) top (c.args.j + 1) (map g.R.RunRow.cells c.args.cells.now) c.args.waves.now (map g.R.RunRow.cells c.descend_one.new.cells) c.descend_one.new.waves) last c.descend_one.ensures.descend) others) in
    let can = (descend_part g.row.C (2 ^ g.row.K) c.args.shares.now c.args.j (c.args.j + 2) (c.args.j + 1) c.args.j (map g.R.RunRow.cells c.args.cells.now) (map g.R.RunRow.cells c.descend_one.new.cells) c.args.waves.now c.descend_one.new.waves (omega arith) (omega arith) c.requires.can
    first others) in
    let kept : IsOfKind false (to_z w64 (of_z w64 c.args.sign)) (share_at c.args.shares.now c.args.j) = subst (λ (z : ℤ). IsOfKind false z (share_at c.args.shares.now c.args.j)) (sym (sign-kept c.args.sign c.requires.size)) c.requires.pair.series in
    let runs : g.row.C ≤ 8 = c.requires.runs in
    let size : g.row.C * 8 < 9223372036854775808 = omega arith in
    (size, (c.requires.some, (c.requires.few, (c.requires.runs, (high, (each-now, (c.requires.shares, (kept, can))))))))

pub returns-clause-descend : goal.returns-clause-descend
returns-clause-descend g c =
    let last : c.args.j + 1 + 1 ≡ c.args.j + 2 = omega arith in
    let others = subst (λ (top : ℕ). KeepsOthers (c.args.j + 1) top (map g.R.RunRow.cells c.args.cells.now) (map g.R.RunRow.cells c.descend_one.new.cells)) last c.descend_one.ensures.others in
    let first = (descend_joined g.row.C (2 ^ g.row.K) c.args.shares.now c.args.j (c.args.j + 2) (c.args.j + 2) (c.args.j + 1) (map g.R.RunRow.cells c.args.cells.now) (map g.R.RunRow.cells c.args.cells.now) (map g.R.RunRow.cells c.descend_one.new.cells) c.args.waves.now c.args.waves.now c.descend_one.new.waves (omega arith) (omega arith)
    (descend_none g.row.C (2 ^ g.row.K) c.args.shares.now c.args.j (c.args.j + 2) (map g.R.RunRow.cells c.args.cells.now) c.args.waves.now) (λ i h. keeps_none (map g.R.RunRow.cells c.args.cells.now) i)
    (subst (λ (top : ℕ). HaveDescended g.row.C (2 ^ g.row.K) c.args.shares.now (c.args.j + 1) top (c.args.j + 1) (map g.R.RunRow.cells c.args.cells.now) c.args.waves.now (map g.R.RunRow.cells c.descend_one.new.cells) c.descend_one.new.waves) last c.descend_one.ensures.descend) others) in
    (descend_joined g.row.C (2 ^ g.row.K) c.args.shares.now c.args.j (c.args.j + 2) (c.args.j + 1) c.args.j (map g.R.RunRow.cells c.args.cells.now) (map g.R.RunRow.cells c.descend_one.new.cells) (map g.R.RunRow.cells c.descend_one-2.new.cells) c.args.waves.now c.descend_one.new.waves c.descend_one-2.new.waves (omega arith) (omega arith)
    first others
    c.descend_one-2.ensures.descend c.descend_one-2.ensures.others)

pub returns-clause-others : goal.returns-clause-others
returns-clause-others g c =
    others_joined (c.args.j + 1) (c.args.j + 1 + 1) c.args.j (c.args.j + 1) (map g.R.RunRow.cells c.args.cells.now) (map g.R.RunRow.cells c.descend_one.new.cells) (map g.R.RunRow.cells c.descend_one-2.new.cells) c.descend_one.ensures.others c.descend_one-2.ensures.others
    c.args.j (c.args.j + 2) (omega arith) (omega arith) (omega arith) (omega arith)
