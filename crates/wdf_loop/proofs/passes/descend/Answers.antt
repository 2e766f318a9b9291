use Rattle.std.proofs.Common.{◌≡◌, ℕ, ◌<◌, ◌≤◌, ◌^◌, length, map, subst, arith}
use Rattle.wdf_loop.specs.Runs.{HaveDescended}
use Rattle.wdf_loop.proofs.PairLemmas.{descend_none, keeps_none}
use Rattle.wdf_loop.proofs.passes.descend.Goals as goal

pub returns-else-first-end-clause-descend : goal.returns-else-first-end-clause-descend
returns-else-first-end-clause-descend g c =
    let most = c.if-first-end.false in
    let order = c.requires.order in
    let none : c.args.end ≡ c.args.first = omega arith in
    subst (λ (to : ℕ). HaveDescended g.row.C (2 ^ g.row.K) c.args.shares.now c.args.first c.args.end to (map g.R.RunRow.cells c.args.cells.now) c.args.waves.now (map g.R.RunRow.cells c.args.cells.now) c.args.waves.now) none (descend_none g.row.C (2 ^ g.row.K) c.args.shares.now c.args.first c.args.end (map g.R.RunRow.cells c.args.cells.now) c.args.waves.now)

pub returns-else-first-end-clause-others : goal.returns-else-first-end-clause-others
returns-else-first-end-clause-others g c i h = keeps_none (map g.R.RunRow.cells c.args.cells.now) i
