use Rattle.std.proofs.Common.{◌<◌, length, get_or, ap, sym, ◌∙◌, arith}
use Rattle.wdf_sp.specs.declared.edge.Edge.{Edge}
use Rattle.wdf_sp.proofs.EdgeLemmas.{arcs_merged}
use Rattle.wdf_sp.proofs.reduction.merge_pair.Goals as goal

pub returns-clause-list : goal.returns-clause-list
returns-clause-list c =
    let within : c.args.merge.second < length c.args.edges.now.items = omega (arith, c.deref.ensures.len, ap (length {A = Edge}) c.deref.ensures.value) in
    let first = c.replace-first.ensures.value ∙ c.index_mut.ensures.value ∙ ap (get_or c.remove-second.new.self.items c.args.merge.first) (sym c.replace-first.ensures.value) in
    arcs_merged c.args.p c.args.q c.args.edges.now.items c.remove-second.new.self.items c.deref.result.now c.args.merge c.replace-first.new.dest c.in_ok-whole.whole c.replace-first.result c.remove-second.result
    c.index.result.now c.index-2.result.now c.inner_node-node.result c.requires.order within c.remove-second.ensures.items c.remove-second.ensures.value first c.deref.ensures.value
    c.index.ensures c.index-2.ensures c.inner_node-node.ensures c.in_ok-whole.ensures
