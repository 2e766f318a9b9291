use Rattle.std.proofs.Common.{◌≡◌, List, Some, Err, sym, ap, ◌∙◌}
use Rattle.wdf_netlist.specs.declared.net_fault.NetFault.{NetFault}
use Rattle.wdf_netlist.specs.declared.part.Part.{Part}
use Rattle.wdf_netlist.specs.LineRules.{count_fault, own_parts}
use Rattle.wdf_netlist.specs.Statements.{names_of}
use Rattle.wdf_netlist.proofs.lines.element_line.Goals as goal

pub returns-in-Some-clause-said : goal.returns-in-Some-clause-said
returns-in-Some-clause-said c = λ text before own.
    let taken = own.names ∙ ap names_of (sym own.parts) in
    let many : count_fault (own_parts before) c.args.kind ≡ Some c.in-Some.fault = ap (λ (ps : List Part). count_fault ps c.args.kind) own.parts ∙ sym c.count_fault.ensures ∙ c.in-Some.is in
    rw (c.in_ok-name.ensures.reads before taken, c.in_ok-from.ensures.reads before, c.in_ok-to.ensures.reads before, c.in_ok-value.ensures.reads before, c.in_ok-end.ensures, many)
    (ap (λ (f : NetFault). Err f) (sym (c.fault_at.ensures text)))
