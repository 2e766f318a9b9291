use Rattle.std.proofs.Common.{Err, sym, ap}
use Rattle.wdf_netlist.specs.declared.net_fault.NetFault.{NetFault}
use Rattle.wdf_netlist.proofs.line_reader.LineReader.end.Goals as goal

pub returns-in-Some : goal.returns-in-Some
returns-in-Some c =
    rw (← c.self.view_is, c.in-Some.ensures.cases.0) (ap (λ (f : NetFault). Err f) (sym (c.fault_at.ensures c.self.inside.text.now)))
