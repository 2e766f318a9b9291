use Rattle.std.proofs.Common.{List, sym, subst}
use Rattle.wdf_law.specs.Network.{Network}
use Rattle.wdf_bounds.specs.HeldWords.{HoldsWords}
use Rattle.wdf_loop.specs.declared.cell.Cell.{Cell}
use Rattle.wdf_loop.specs.Advances.{AllAreAt}
use Rattle.wdf_loop.proofs.RestLemmas.{all_at_rest}
use Rattle.wdf_loop.proofs.rest.at_rest.Goals as goal

pub returns-clause-rest : goal.returns-clause-rest
returns-clause-rest g c =
    let s = c.args.schedule.now in
    let plan = c.args.plan.now in
    let shares = c.args.layout.now.shares.items in
    let marks = c.args.layout.now.marks.items in
    let chains = c.args.layout.now.chains.items in
    let feeds = c.args.layout.now.feeds.items in
    subst (λ (cells : List (List Cell)). AllAreAt g.row.C s plan 0 shares marks chains feeds cells) (sym c.in_ok-cells.ensures)
    (all_at_rest g.row.C c.len.result s plan shares marks chains feeds (subst (λ (n : Network). HoldsWords n plan) c.net.ensures c.every_word.ensures))
