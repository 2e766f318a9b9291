use Rattle.std.proofs.Common.{◌≡◌, ℕ, ◌*◌, ◌<◌, ◌≤◌, ◌^◌, map, sym, subst, arith}
use Rattle.wdf_loop.specs.Blocks.{AllCanRun, HaveRun}
use Rattle.wdf_loop.specs.Runs.{AreShares}
use Rattle.wdf_loop.proofs.width.block_at.Goals as goal

pub block-requires : goal.block-requires
block-requires g c =
    let width : c.args.k ≡ g.row.K = c.requires.width in
    let some : 1 ≤ g.row.K = subst (λ (k : ℕ). 1 ≤ k) width c.requires.some in
    let few : g.row.K ≤ 20 = subst (λ (k : ℕ). k ≤ 20) width c.requires.few in
    let shares : AreShares (2 ^ g.row.K) c.args.shares.now = subst (λ (k : ℕ). AreShares (2 ^ k) c.args.shares.now) width c.requires.shares in
    let can : AllCanRun g.row.C (2 ^ g.row.K) c.args.root c.args.shares.now c.args.chains.now c.args.feeds.now c.args.count (map g.R.RunRow.cells c.args.cells.now) c.args.values.now =
    subst (λ (k : ℕ). AllCanRun g.row.C (2 ^ k) c.args.root c.args.shares.now c.args.chains.now c.args.feeds.now c.args.count (map g.R.RunRow.cells c.args.cells.now) c.args.values.now) width c.requires.can in
    let runs : g.row.C ≤ 8 = c.requires.runs in
    let size : g.row.C * 8 < 9223372036854775808 = omega arith in
    (size, (some, (few, (runs, (c.requires.stages, (c.requires.each, (shares, (c.requires.chains, (c.requires.signs, (c.requires.sources, (c.requires.feeds, (c.requires.watched, (c.requires.inside, (c.requires.small, can))))))))))))))

pub returns : goal.returns
returns g c =
    let width : c.args.k ≡ g.row.K = c.requires.width in
    subst (λ (k : ℕ). HaveRun g.row.C (2 ^ k) c.args.root c.args.shares.now c.args.chains.now c.args.feeds.now c.args.watched.now c.args.count c.args.count (map g.R.RunRow.cells c.args.cells.now) c.args.values.now (map g.R.RunRow.cells c.block.new.cells) c.block.new.waves)
    (sym width) c.block.ensures
