use Rattle.wdf_law.specs.Outline.{outline}
use Rattle.wdf_sp.specs.Edges.{halves}
use Rattle.wdf_design.proofs.StageLemmas.{has_trees}
use Rattle.wdf_design.proofs.designing.trees.Goals as goal

pub returns-in-Ok : goal.returns-in-Ok
returns-in-Ok c =
    has_trees c.args.side c.args.circuit.now (outline c.in-Ok.shape) c.source.result c.choose-root.result (halves c.reroot.result) c.rules.ensures c.source.ensures.first c.in-Ok.ensures.answer c.in-Ok.ensures.spans c.in-Ok.ensures.leaves c.choose-root.ensures.root
    (record { trees = c.reroot.ensures.trees; meet = c.reroot.ensures.meet; elements = c.reroot.ensures.elements; leaves = c.reroot.ensures.leaves; depth = c.reroot.ensures.depth })
