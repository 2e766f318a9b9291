use Rattle.std.proofs.Common.{◌≡◌, drop}
use Rattle.wdf_quant.specs.PortBound.{leaf_in}
use Rattle.wdf_quant.proofs.ratios.Ratios.of_leaf.Given as goal

abbrev pub invariant-loop-port : goal.invariant-loop-port
invariant-loop-port l = leaf_in l.self l.elem ≡ leaf_in (drop l.port-index l.self) l.elem
