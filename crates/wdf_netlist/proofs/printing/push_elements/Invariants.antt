use Rattle.std.proofs.Common.{◌≡◌, ◌++◌, drop}
use Rattle.wdf_netlist.specs.Canonical.{element_lines, lines_text}
use Rattle.wdf_netlist.proofs.printing.push_elements.Given as goal

abbrev pub invariant-loop-element : goal.invariant-loop-element
invariant-loop-element l =
    l.out.items ++ lines_text (element_lines l.nodes l.behind (drop l.element-index l.elements)) ≡ l.fn.out.items ++ lines_text (element_lines l.nodes l.sourced l.elements)
