-- Where a plan fits, no number is too wide.
use Rattle.std.proofs.Common.{Err, ap, ◌∙◌, subst}
use Rattle.wdf_quant.specs.PortBound.{Encloses}
use Rattle.wdf_lattice.proofs.WidthLemmas.{never_wide}
use Rattle.wdf_lattice.proofs.side_runs.ratios_of.Goals as goal

pub unreachable-requires : goal.unreachable-requires
unreachable-requires c =
    never_wide c.args.net.now c.args.plan.now c.in-Err-Wide.field-0-0 c.in-Err-Wide.field-0-1 c.whole_walk.ensures c.requires
    (subst (Encloses c.args.net.now) (c.in-Err-Wide.is ∙ ap Err c.in-Err-Wide.field-0-is) c.enclose.ensures.answer)
