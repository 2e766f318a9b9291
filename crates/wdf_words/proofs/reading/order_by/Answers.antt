use Rattle.std.proofs.Common.{sym, ◌∙◌}
use Rattle.wdf_words.specs.Orders.{texts}
use Rattle.wdf_words.proofs.WellFormedLemmas.{are_well_formed, files, have_room, ranges}
use Rattle.wdf_words.proofs.reading.order_by.Goals as goal

pub order_given-requires : goal.order_given-requires
order_given-requires c =
    have_room c.args.command (texts c.args.words.now)
    (are_well_formed c.args.command (texts c.args.words.now) c.requires (sym c.first_fault.ensures ∙ c.in_default.is) (sym c.lacks_operand.ensures ∙ c.if-lacks_operand.false))

pub returns-clause-ranges : goal.returns-clause-ranges
returns-clause-ranges c =
    let well = are_well_formed c.args.command (texts c.args.words.now) c.requires (sym c.first_fault.ensures ∙ c.in_default.is) (sym c.lacks_operand.ensures ∙ c.if-lacks_operand.false) in
    rw c.order_given.ensures (ranges c.args.command (texts c.args.words.now) well)

pub returns-clause-files : goal.returns-clause-files
returns-clause-files c =
    let well = are_well_formed c.args.command (texts c.args.words.now) c.requires (sym c.first_fault.ensures ∙ c.in_default.is) (sym c.lacks_operand.ensures ∙ c.if-lacks_operand.false) in
    rw c.order_given.ensures (files c.args.command (texts c.args.words.now) well)
