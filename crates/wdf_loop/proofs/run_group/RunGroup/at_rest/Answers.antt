use Rattle.std.proofs.Common.{map, sym, ◌∙◌}
use Rattle.std.proofs.lemmas.List.{map-id}
use Rattle.wdf_loop.specs.LaneCells.{lane_cells}
use Rattle.wdf_loop.proofs.SettingLemmas.{silent_shown}
use Rattle.wdf_loop.proofs.run_group.RunGroup.at_rest.Goals as goal

pub returns-then-most-ge8-clause-silent : goal.returns-then-most-ge8-clause-silent
returns-then-most-ge8-clause-silent c = λ k i few small. silent_shown c.args.setting.now 8 k i (map lane_cells c.in_ok-at_rest.field-0.items) c.requires c.in_ok-at_rest.ensures.silent small

pub returns-then-most-ge4-clause-silent : goal.returns-then-most-ge4-clause-silent
returns-then-most-ge4-clause-silent c = λ k i few small. silent_shown c.args.setting.now 4 k i (map lane_cells c.in_ok-at_rest-2.field-0.items) c.requires c.in_ok-at_rest-2.ensures.silent small

pub returns-then-most-ge2-clause-silent : goal.returns-then-most-ge2-clause-silent
returns-then-most-ge2-clause-silent c = λ k i few small. silent_shown c.args.setting.now 2 k i c.in_ok-at_rest-3.field-0.items c.requires (sym (map-id c.in_ok-at_rest-3.field-0.items) ∙ c.in_ok-at_rest-3.ensures.silent) small

pub returns-then-most-ge1-clause-silent : goal.returns-then-most-ge1-clause-silent
returns-then-most-ge1-clause-silent c = λ k i few small. silent_shown c.args.setting.now 1 k i c.in_ok-at_rest-4.field-0.items c.requires (sym (map-id c.in_ok-at_rest-4.field-0.items) ∙ c.in_ok-at_rest-4.ensures.silent) small
