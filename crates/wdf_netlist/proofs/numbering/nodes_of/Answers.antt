use Rattle.std.proofs.Common.{ℕ, List, take, sym, ap, ◌∙◌, arith}
use Rattle.std.proofs.lemmas.List.{take_all}
use Rattle.wdf_netlist.specs.TextRules.{nodes_of, with_part}
use Rattle.wdf_netlist.proofs.NodeLemmas.{nodes_more}
use Rattle.wdf_netlist.proofs.numbering.nodes_of.Goals as goal

pub loop-part-preserved : goal.loop-part-preserved
loop-part-preserved c =
    let parts = c.args.parts.now in
    let i = c.loop-part.part-index in
    let part = c.part-item.result in
    record {
      nodes = c.in_ok-add_nodes.ensures.nodes ∙ ap (λ (n : List (List ℕ)). with_part n part) c.loop-part.invariant.nodes
          ∙ ap (with_part (nodes_of (take i parts))) c.part-item.is ∙ sym (nodes_more parts i part c.loop-part-test.true);
      few = omega (arith, c.in_ok-add_nodes.ensures.few, c.loop-part.invariant.few);
    }

pub returns-clause-nodes : goal.returns-clause-nodes
returns-clause-nodes c = c.loop-part.invariant.nodes ∙ ap nodes_of (take_all c.loop-part.part-index c.args.parts.now c.loop-part-test.false)
