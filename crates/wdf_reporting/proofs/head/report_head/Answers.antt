use Rattle.std.proofs.Common.{◌++◌, ◌∙◌}
use Rattle.std.specs.Prelude.{codes, decimal}
use Rattle.wdf_reporting.specs.ReportText.{form_word, plan_line}
use Rattle.wdf_reporting.proofs.LineLemmas.{head_told}
use Rattle.wdf_reporting.proofs.head.report_head.Goals as goal

pub returns : goal.returns
returns c =
    let n = c.args.netlist.now in
    let form = rw c.form.ensures at c.in_ok-push_form.ensures in
    let rate = rw (c.from.ensures ∙ c.rate.ensures.value) at c.in_ok-push_number_line.ensures in
    head_told (codes "wdf report 1") (codes "form " ++ form_word n.form) (codes "rate " ++ decimal n.rate) (plan_line c.args.plan.now) _ _ _ _ _ c.in_ok-push_line.ensures.ok form rate c.in_ok-push_plan.ensures
