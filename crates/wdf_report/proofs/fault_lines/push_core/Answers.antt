use Rattle.std.proofs.Common.{List, ℕ, length, sym, ap, ◌∙◌}
use Rattle.std.proofs.lemmas.List.{length-map}
use Rattle.std.specs.Prelude.{◌++◌, codes}
use Rattle.wdf_sp.specs.Edges.{arc}
use Rattle.wdf_report.specs.FaultLine.{element_text}
use Rattle.wdf_report.proofs.Appends.{goes_on, piece}
use Rattle.wdf_report.proofs.fault_lines.push_core.Goals as goal

pub returns-clause-text : goal.returns-clause-text
returns-clause-text c =
    let old : List ℕ = c.args.line.now in
    let element : List ℕ = element_text c.args.side c.args.element in
    let first = piece old (codes "not series-parallel ") element c.push.ensures c.push_element.ensures.text in
    goes_on old (codes "not series-parallel " ++ element) (codes " core ") first c.push_number.ensures.text
    (sym (length-map c.list.result.now arc) ∙ ap length c.list.ensures)
