use Rattle.std.proofs.Common.{◌+◌, ◌++◌, drop, ap, ◌∙◌, List, Vec, Global}
use Rattle.wdf_sp.specs.declared.edge.Edge.{Edge}
use Rattle.wdf_sp.specs.Edges.{arcs, branches}
use Rattle.wdf_sp.specs.Reduction.{edges_from}
use Rattle.wdf_sp.proofs.EdgeLemmas.{edge_added, edge_skipped}
use Rattle.wdf_sp.proofs.reduction.edges_without.Goals as goal
use Rattle.wdf_sp.proofs.reduction.edges_without.Goals.{then-elem-source+in_ok-push, else-elem-source}

pub loop-i-preserved : goal.loop-i-preserved
loop-i-preserved c =
    elim c.if-elem-source.branch [
      | then-elem-source+in_ok-push w ↦
          ap (λ (v : Vec Edge Global). arcs v.items ++ edges_from c.args.source (c.loop-i.i + 1) (drop (c.loop-i.i + 1) (branches c.args.elements.now))) w.edges-is
          ∙ ap (λ (es : List Edge). arcs es ++ edges_from c.args.source (c.loop-i.i + 1) (drop (c.loop-i.i + 1) (branches c.args.elements.now))) w.in_ok-push.ensures.items
          ∙ edge_added c.args.source c.loop-i.edges.items w.leaf_edge.result c.args.elements.now c.loop-i.i c.index-elements-i.result (edges_from c.args.source 0 (branches c.args.elements.now)) c.loop-i-test.true c.index-elements-i.is w.if-elem-source.true w.leaf_edge.ensures c.loop-i.invariant
      | else-elem-source w ↦
          ap (λ (v : Vec Edge Global). arcs v.items ++ edges_from c.args.source (c.loop-i.i + 1) (drop (c.loop-i.i + 1) (branches c.args.elements.now))) w.edges-is
          ∙ edge_skipped c.args.source c.loop-i.edges.items c.args.elements.now c.loop-i.i c.index-elements-i.result (edges_from c.args.source 0 (branches c.args.elements.now)) c.loop-i-test.true c.index-elements-i.is w.if-elem-source.false c.loop-i.invariant
    ]
