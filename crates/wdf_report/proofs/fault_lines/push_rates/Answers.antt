use Rattle.std.specs.Prelude.{◌++◌, codes, decimal}
use Rattle.wdf_report.proofs.Appends.{begins, goes_on}
use Rattle.wdf_report.proofs.fault_lines.push_rates.Goals as goal

pub returns-clause-text : goal.returns-clause-text
returns-clause-text c =
    let first = begins c.args.line.now (codes "rate netlist ") c.push_number.ensures.text c.from.ensures in
    goes_on c.args.line.now (codes "rate netlist " ++ decimal c.args.netlist) (codes " wave ") first c.push_number-2.ensures.text c.from-2.ensures
