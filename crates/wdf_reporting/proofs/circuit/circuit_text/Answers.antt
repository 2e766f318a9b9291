use Rattle.std.proofs.Common.{◌++◌, ◌∙◌}
use Rattle.std.specs.Prelude.{codes, decimal}
use Rattle.wdf_law.specs.Trees.{first_of}
use Rattle.wdf_reporting.specs.ReportText.{branch_lines, element_lines, junction_lines, largest_line, name_of, states_line}
use Rattle.wdf_reporting.proofs.LineLemmas.{circuit_told}
use Rattle.wdf_reporting.proofs.circuit.circuit_text.Goals as goal

pub returns : goal.returns
returns c =
    let n = c.args.net.now in
    let plan = c.args.plan.now in
    let es = c.args.circuit.now.elements in
    let root = rw (c.from.ensures ∙ c.root_m.ensures.value) at c.in_ok-push_number_line.ensures in
    let left = rw c.left.ensures at c.in_ok-push_junctions.ensures in
    let right = rw c.right.ensures at c.in_ok-push_junctions-2.ensures in
    circuit_told (branch_lines c.args.side) (element_lines c.args.rate plan es n) (junction_lines n.left) (junction_lines n.right)
    (codes "root " ++ name_of es (first_of n.left)) (codes "junction root " ++ decimal n.m) (largest_line plan n) (states_line n c.args.certified)
    _ _ _ _ _ _ _ _ _
    c.in_ok-push_branch.ensures c.in_ok-push_root.ensures c.in_ok-push_elements.ensures root left right c.in_ok-push_largest.ensures c.in_ok-push_states.ensures
