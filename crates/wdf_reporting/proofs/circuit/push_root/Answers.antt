use Rattle.std.proofs.Common.{◌≡◌, ◌<◌, length, ap, ◌∙◌, arith}
use Rattle.wdf_law.specs.Network.{elements}
use Rattle.wdf_law.specs.Trees.{first_of}
use Rattle.wdf_reporting.proofs.LeafLemmas.{first_below}
use Rattle.wdf_reporting.proofs.circuit.push_root.Goals as goal

pub element_in-root-requires : goal.element_in-root-requires
element_in-root-requires c =
    let below : first_of c.args.net.now.left < length (elements c.args.net.now) = first_below c.args.net.now c.numbers.ensures in
    let same : c.first_leaf.result ≡ first_of c.args.net.now.left = c.first_leaf.ensures ∙ ap first_of c.left.ensures in
    omega (arith, below, same, c.requires)
