use Rattle.std.proofs.Common.{◌≡◌, drop}
use Rattle.wdf_quant.specs.PortBound.{leaf_in}
use Rattle.wdf_reporting.proofs.bound_lookup.word_beside.Given as goal

abbrev pub invariant-loop-i : goal.invariant-loop-i
invariant-loop-i l = leaf_in l.ports l.elem ≡ leaf_in (drop l.i l.ports) l.elem
