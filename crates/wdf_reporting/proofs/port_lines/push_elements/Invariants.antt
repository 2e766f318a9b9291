use Rattle.std.proofs.Common.{◌≡◌, ℕ, ◌++◌, map}
use Rattle.std.specs.List.{range_with_len}
use Rattle.wdf_quant.specs.PortBound.{number_at}
use Rattle.wdf_bounds.specs.WordBound.{bound}
use Rattle.wdf_reporting.specs.ReportText.{element_line, lines_text}
use Rattle.wdf_reporting.proofs.port_lines.push_elements.Given as goal

abbrev pub invariant-loop-number : goal.invariant-loop-number
invariant-loop-number l =
    l.out.items
    ≡ l.fn.out.items ++ lines_text (map (λ (i : ℕ). element_line l.rate l.circuit.elements i (bound l.plan (number_at l.net i))) (range_with_len 0 l.number))
