use Rattle.std.proofs.Common.{refl}
use Rattle.std.specs.Prelude.{codes}
use Rattle.wdf_report.proofs.Appends.{begins}
use Rattle.wdf_report.proofs.fault_lines.push_large.Goals as goal

pub returns-clause-text : goal.returns-clause-text
returns-clause-text c = begins c.args.line.now (codes "file too large word ") c.push_number.ensures.text refl
