-- The network keeps every rule, so it is not refused.
use Rattle.std.proofs.Common.{◌≡◌, sym, subst}
use Rattle.wdf_law.specs.Network.{IsNetwork, network_of}
use Rattle.wdf_law.specs.PortOutline.{port_outline}
use Rattle.wdf_quant.specs.QuantisedNetwork.{quantised_network}
use Rattle.wdf_quant.proofs.QuantisedLemmas.{network-rules}
use Rattle.wdf_quant.proofs.quantising.quantise.Goals as goal

pub unreachable-requires : goal.unreachable-requires
unreachable-requires c =
    let left = port_outline c.args.left.now in
    let right = port_outline c.args.right.now in
    let n = network_of c.args.k c.joint-m.result c.in_ok-left.left c.in_ok-right.right c.args.outlet in
    let same : quantised_network c.args.k left right c.args.outlet ≡ n =
    λ j. record { k = c.args.k; m = sym c.joint-m.ensures.value j; left = sym c.in_ok-left.ensures j; right = sym c.in_ok-right.ensures j; outlet = c.args.outlet } in
    let rules : IsNetwork n =
    subst IsNetwork same (network-rules c.args.k left right c.args.outlet c.requires.some c.requires.few c.requires.elements c.requires.left_depth c.requires.right_depth) in
    let taken = c.in_default.ensures.accepted.1 rules in
    absurd (cc)
