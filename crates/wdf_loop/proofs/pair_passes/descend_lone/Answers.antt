use Rattle.std.proofs.Common.{◌≡◌, ℕ, ◌+◌, ◌*◌, ◌<◌, ◌≤◌, ◌^◌, length, map, sym, subst, arith, w64, to_z, of_z}
use Rattle.std.specs.Prelude.{true}
use Rattle.wdf_loop.specs.Layouts.{share_at}
use Rattle.wdf_loop.specs.Pairs.{IsOfKind}
use Rattle.wdf_loop.specs.Runs.{AllCanDescend, HaveDescended, KeepsOthers}
use Rattle.wdf_loop.proofs.PairLemmas.{descend_none, keeps_none, sign-kept}
use Rattle.wdf_loop.proofs.pair_passes.descend_lone.Goals as goal

pub descend_one-requires : goal.descend_one-requires
descend_one-requires g c =
    let less = c.if-low-start.true in
    let next = c.requires.lone.one in
    let inside = c.requires.inside in
    let each = c.requires.each in
    let high : c.args.low < length c.args.cells.now = omega arith in
    let here : c.args.low < length c.args.shares.now = omega arith in
    let last : c.args.start ≡ c.args.low + 1 = omega arith in
    let can = subst (λ (top : ℕ). AllCanDescend g.row.C (2 ^ g.row.K) c.args.shares.now c.args.low top (map g.R.RunRow.cells c.args.cells.now) c.args.waves.now) last c.requires.can in
    let kind : IsOfKind true (to_z w64 (of_z w64 (share_at c.args.shares.now c.args.low).sign)) (share_at c.args.shares.now c.args.low) = record {
      junction = c.requires.lone.parallel less;
      beside = sym (sign-kept (share_at c.args.shares.now c.args.low).sign (c.requires.shares c.args.low here).sign);
    } in
    let runs : g.row.C ≤ 8 = c.requires.runs in
    let size : g.row.C * 8 < 9223372036854775808 = omega arith in
    (size, (c.requires.some, (c.requires.few, (c.requires.runs, (high, (c.requires.each, (c.requires.shares, (kind, can))))))))

pub returns-then-low-start-clause-descend : goal.returns-then-low-start-clause-descend
returns-then-low-start-clause-descend g c =
    let less = c.if-low-start.true in
    let next = c.requires.lone.one in
    let last : c.args.low + 1 ≡ c.args.start = omega arith in
    subst (λ (top : ℕ). HaveDescended g.row.C (2 ^ g.row.K) c.args.shares.now c.args.low top c.args.low (map g.R.RunRow.cells c.args.cells.now) c.args.waves.now (map g.R.RunRow.cells c.descend_one.new.cells) c.descend_one.new.waves) last c.descend_one.ensures.descend

pub returns-then-low-start-clause-others : goal.returns-then-low-start-clause-others
returns-then-low-start-clause-others g c =
    let less = c.if-low-start.true in
    let next = c.requires.lone.one in
    let last : c.args.low + 1 ≡ c.args.start = omega arith in
    subst (λ (top : ℕ). KeepsOthers c.args.low top (map g.R.RunRow.cells c.args.cells.now) (map g.R.RunRow.cells c.descend_one.new.cells)) last c.descend_one.ensures.others

pub returns-else-low-start-clause-descend : goal.returns-else-low-start-clause-descend
returns-else-low-start-clause-descend g c =
    let most = c.if-low-start.false in
    let order = c.requires.lone.order in
    let none : c.args.start ≡ c.args.low = omega arith in
    subst (λ (to : ℕ). HaveDescended g.row.C (2 ^ g.row.K) c.args.shares.now c.args.low c.args.start to (map g.R.RunRow.cells c.args.cells.now) c.args.waves.now (map g.R.RunRow.cells c.args.cells.now) c.args.waves.now) none (descend_none g.row.C (2 ^ g.row.K) c.args.shares.now c.args.low c.args.start (map g.R.RunRow.cells c.args.cells.now) c.args.waves.now)

pub returns-else-low-start-clause-others : goal.returns-else-low-start-clause-others
returns-else-low-start-clause-others g c i h = keeps_none (map g.R.RunRow.cells c.args.cells.now) i
