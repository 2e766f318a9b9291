use Rattle.std.proofs.Common.{ℕ, List, [], ◌∷◌, ◌++◌, ap, ◌∙◌}
use Rattle.wdf_quant.specs.PortBound.{number_at}
use Rattle.wdf_bounds.specs.WordBound.{bound}
use Rattle.wdf_reporting.specs.ReportText.{element_line}
use Rattle.wdf_reporting.proofs.LineLemmas.{lines_more}
use Rattle.wdf_reporting.proofs.port_lines.push_elements.Goals as goal

pub loop-number-preserved : goal.loop-number-preserved
loop-number-preserved c =
    let number = c.loop-number.number in
    let line = λ (i words : ℕ). element_line c.args.rate c.args.circuit.now.elements i words in
    let told = λ (i : ℕ). line i (bound c.args.plan.now (number_at c.args.net.now i)) in
    c.in_ok-push_element.ensures
    ∙ ap (λ (words : ℕ). c.loop-number.out.items ++ line number words ++ 10 ∷ []) c.bound_at.ensures
    ∙ ap (λ (text : List ℕ). text ++ told number ++ 10 ∷ []) c.loop-number.invariant
    ∙ lines_more told number c.args.out.now.items
