use Rattle.wdf_reporting.proofs.OneReport.{one_report}
use Rattle.wdf_reporting.proofs.laws.one_report.Goals as goal

pub returns : goal.returns
returns c = one_report c.one_making.ensures
