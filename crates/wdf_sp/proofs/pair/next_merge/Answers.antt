use Rattle.std.proofs.Common.{ap, sym, ◌∙◌}
use Rattle.std.specs.Prelude.{Option, Some}
use Rattle.std.specs.Option.{option_or}
use Rattle.wdf_law.specs.declared.connection.Connection.TheVariants.{Series}
use Rattle.wdf_sp.specs.declared.merge.Merge.{Merge}
use Rattle.wdf_sp.specs.Edges.{arcs}
use Rattle.wdf_sp.specs.Reduction.{pair_by}
use Rattle.wdf_sp.proofs.EdgeLemmas.{next_merge_order, next_merge_within}
use Rattle.wdf_sp.proofs.pair.next_merge.Goals as goal

pub returns-in-Some-clause-order : goal.returns-in-Some-clause-order
returns-in-Some-clause-order c =
    next_merge_order c.args.p c.args.q c.args.edges.now (Some c.in-Some.merge) (ap (λ (o : Option Merge). option_or o (pair_by c.args.p c.args.q (arcs c.args.edges.now) Series)) (sym c.in-Some.ensures))

pub returns-in-Some-clause-within : goal.returns-in-Some-clause-within
returns-in-Some-clause-within c =
    next_merge_within c.args.p c.args.q c.args.edges.now (Some c.in-Some.merge) (ap (λ (o : Option Merge). option_or o (pair_by c.args.p c.args.q (arcs c.args.edges.now) Series)) (sym c.in-Some.ensures))

pub returns-in-None-clause-order : goal.returns-in-None-clause-order
returns-in-None-clause-order c =
    next_merge_order c.args.p c.args.q c.args.edges.now c.first_pair-in-None.result
    (ap (λ (o : Option Merge). option_or o (pair_by c.args.p c.args.q (arcs c.args.edges.now) Series)) (sym c.in-None.ensures) ∙ sym c.first_pair-in-None.ensures)

pub returns-in-None-clause-within : goal.returns-in-None-clause-within
returns-in-None-clause-within c =
    next_merge_within c.args.p c.args.q c.args.edges.now c.first_pair-in-None.result
    (ap (λ (o : Option Merge). option_or o (pair_by c.args.p c.args.q (arcs c.args.edges.now) Series)) (sym c.in-None.ensures) ∙ sym c.first_pair-in-None.ensures)
