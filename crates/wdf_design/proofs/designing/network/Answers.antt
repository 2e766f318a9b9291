use Rattle.wdf_law.specs.Outline.{outline}
use Rattle.wdf_law.specs.PortOutline.{port_outline}
use Rattle.wdf_sp.specs.Edges.{halves}
use Rattle.wdf_design.proofs.StageLemmas.{both_below, depth_there, leaves_there, is_made}
use Rattle.wdf_design.proofs.designing.network.Goals as goal

pub ports-requires-clause-elements : goal.ports-requires-clause-elements
ports-requires-clause-elements c = (both_below c.args.side c.args.circuit.now (halves c.args.trees.now) c.requires.trees).0

pub ports-requires-2-clause-elements : goal.ports-requires-2-clause-elements
ports-requires-2-clause-elements c = (both_below c.args.side c.args.circuit.now (halves c.args.trees.now) c.requires.trees).1

pub quantise-requires-clause-elements : goal.quantise-requires-clause-elements
quantise-requires-clause-elements c =
    leaves_there c.args.rate c.args.side c.args.circuit.now (halves c.args.trees.now) (port_outline c.in_ok-left.left) (port_outline c.in_ok-right.right) c.outlet.result c.rules.ensures c.kinds_counted.ensures c.requires.trees c.in_ok-left.ensures.0 c.in_ok-right.ensures.0 c.outlet.ensures

pub quantise-requires-clause-left_depth : goal.quantise-requires-clause-left_depth
quantise-requires-clause-left_depth c =
    depth_there c.args.rate c.args.circuit.now (outline c.args.trees.now.left) (port_outline c.in_ok-left.left) c.in_ok-left.ensures.0 c.requires.trees.left_depth

pub quantise-requires-clause-right_depth : goal.quantise-requires-clause-right_depth
quantise-requires-clause-right_depth c =
    depth_there c.args.rate c.args.circuit.now (outline c.args.trees.now.right) (port_outline c.in_ok-right.right) c.in_ok-right.ensures.0 c.requires.trees.right_depth

pub returns : goal.returns
returns c =
    let made = is_made c.args.rate c.args.k c.args.side c.args.circuit.now (halves c.args.trees.now) (port_outline c.in_ok-left.left) (port_outline c.in_ok-right.right) c.outlet.result c.in_ok-quantise.field-0
    c.rules.ensures c.kinds_counted.ensures c.requires.trees c.in_ok-left.ensures.0 c.in_ok-right.ensures.0 c.outlet.ensures c.in_ok-left.ensures.2 c.in_ok-right.ensures.2 c.in_ok-quantise.ensures in
    (made.answer, made.realises)
