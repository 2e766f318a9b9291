use Rattle.std.proofs.Common.{◌∙◌}
use Rattle.std.specs.Prelude.{codes, decimal}
use Rattle.wdf_law.specs.declared.side.Side.TheVariants.{Whole}
use Rattle.wdf_reporting.specs.CountLines.{count_text}
use Rattle.wdf_reporting.specs.LedgerLine.{ledger_text}
use Rattle.wdf_reporting.specs.ReportText.{states_line}
use Rattle.wdf_soak.specs.Summary.{figures_line}
use Rattle.wdf_soak.proofs.SummaryLemmas.{summary_told}
use Rattle.wdf_soak.proofs.summarising.summary.Goals as goal

pub returns : goal.returns
returns c =
    let counts = rw (c.as_bytes.ensures.value ∙ c.count_lines.ensures) at c.in_ok-extend_from_slice.ensures.items in
    let ledger = rw (c.as_bytes-2.ensures.value ∙ c.ledger_line.ensures) at c.in_ok-extend_from_slice-2.ensures.items in
    summary_told (codes "soak seed ") (decimal c.args.seed) (codes " order ") (decimal c.args.order) (states_line c.args.net.now c.args.certified)
    (count_text c.args.frames c.args.clipped) (figures_line c.args.figures.now) (ledger_text Whole 0 c.args.totals.now) _ _ _ _ _ _
    c.new-out.ensures.items c.in_ok-push_order.ensures c.in_ok-push_states.ensures counts c.in_ok-push_figures.ensures ledger
