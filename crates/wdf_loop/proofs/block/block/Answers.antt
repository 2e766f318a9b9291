use Rattle.std.proofs.Common.{◌≡◌, ℕ, ◌≤◌, ◌^◌, List, length, map, take, subst, arith}
use Rattle.std.proofs.lemmas.List.{take_all}
use Rattle.wdf_loop.specs.declared.chain.Chain.{Chain}
use Rattle.wdf_loop.specs.declared.feed.Feed.{Feed}
use Rattle.wdf_loop.specs.declared.part.Part.{Part}
use Rattle.wdf_loop.specs.Blocks.{HaveRun}
use Rattle.wdf_loop.proofs.block.block.Goals as goal

pub returns-then-watched-eq2 : goal.returns-then-watched-eq2
returns-then-watched-eq2 g c =
    let q = 2 ^ g.row.K in
    let before = map g.R.RunRow.cells c.args.cells.now in
    let after = map g.R.RunRow.cells c.frames.new.cells in
    let one = c.if-chains-eq1.true in
    let source = c.if-feeds-eq1.true in
    let two = c.if-watched-eq2.true in
    let chains : take 1 c.args.chains.now ≡ c.args.chains.now = take_all 1 c.args.chains.now (omega arith) in
    let feeds : take 1 c.args.feeds.now ≡ c.args.feeds.now = take_all 1 c.args.feeds.now (omega arith) in
    let watched : take 2 c.args.watched.now ≡ c.args.watched.now = take_all 2 c.args.watched.now (omega arith) in
    subst (λ (hs : List Chain). HaveRun g.row.C q c.args.root c.args.shares.now hs c.args.feeds.now c.args.watched.now c.args.count c.args.count before c.args.values.now after c.frames.new.waves) chains
    (subst (λ (fs : List Feed). HaveRun g.row.C q c.args.root c.args.shares.now (take 1 c.args.chains.now) fs c.args.watched.now c.args.count c.args.count before c.args.values.now after c.frames.new.waves) feeds
    (subst (λ (ps : List Part). HaveRun g.row.C q c.args.root c.args.shares.now (take 1 c.args.chains.now) (take 1 c.args.feeds.now) ps c.args.count c.args.count before c.args.values.now after c.frames.new.waves) watched
    c.frames.ensures))
