use Rattle.std.proofs.Common.{◌≡◌, map, take}
use Rattle.wdf_netlist.specs.TextRules.{numbered}
use Rattle.wdf_netlist.proofs.numbering.elements_of.Given as goal

abbrev pub invariant-loop-part : goal.invariant-loop-part
invariant-loop-part l = l.elements.items ≡ map (numbered l.nodes) (take l.part-index l.parts)
