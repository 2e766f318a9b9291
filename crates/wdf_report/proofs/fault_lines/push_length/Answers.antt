use Rattle.std.specs.Prelude.{◌++◌, codes, decimal}
use Rattle.wdf_report.proofs.Appends.{begins, goes_on}
use Rattle.wdf_report.proofs.fault_lines.push_length.Goals as goal

pub returns-clause-text : goal.returns-clause-text
returns-clause-text c =
    let first = begins c.args.line.now (codes "too long frames ") c.push_number.ensures.text c.from.ensures in
    goes_on c.args.line.now (codes "too long frames " ++ decimal c.args.frames) (codes " limit ") first c.push_number-2.ensures.text c.from-2.ensures
