use Rattle.std.proofs.Common.{◌≡◌, ◌*◌, ◌≤◌, length, take}
use Rattle.wdf_netlist.specs.TextRules.{nodes_of}
use Rattle.wdf_netlist.proofs.numbering.nodes_of.Given as goal

abbrev pub invariant-loop-part : goal.invariant-loop-part
invariant-loop-part l = record {
  nodes : l.nodes ≡ nodes_of (take l.part-index l.parts);
  few : length l.nodes ≤ 2 * l.part-index;
}
