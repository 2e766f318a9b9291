use Rattle.std.proofs.Common.{◌≡◌, ℕ, ◌<◌, List, length, sym, subst}
use mathlib.Core.Logic.{◌⊎◌}
use Rattle.wdf_loop.specs.declared.mark.Mark.{Mark}
use Rattle.wdf_loop.specs.Layouts.{mark_at}
use Rattle.wdf_loop.specs.Parts.{sent_slot}
use Rattle.wdf_loop.proofs.PartLemmas.{is_part, part_shown}
use Rattle.wdf_loop.proofs.parts.part_with.Goals as goal

pub part_sent-requires-clause-some : goal.part_sent-requires-clause-some
part_sent-requires-clause-some c =
    let slot = c.leaf_slots-slot.result.down in
    subst (λ (ms : List Mark). (j : ℕ) × ((j < length ms) × (((mark_at ms j).down ≡ slot) ⊎ ((mark_at ms j).onward ≡ slot)))) (sym c.deref.ensures.value)
    (part_shown c.args.schedule.now c.args.layout.now.shares.items c.args.layout.now.marks.items c.args.layout.now.chains.items c.args.layout.now.feeds.items c.args.number slot c.requires.layout c.requires.below
    c.leaf_slots-slot.ensures.down)

pub returns : goal.returns
returns c =
    let part = c.part_sent.result in
    is_part c.args.schedule.now c.args.layout.now.shares.items c.args.layout.now.marks.items c.args.layout.now.chains.items c.args.layout.now.feeds.items part c.args.number c.leaf_slots-slot.result.down c.requires.layout
    (subst (λ (ms : List Mark). part.stage < length ms) c.deref.ensures.value c.part_sent.ensures.inside)
    (subst (λ (ms : List Mark). sent_slot part (mark_at ms part.stage) ≡ c.leaf_slots-slot.result.down) c.deref.ensures.value c.part_sent.ensures.slot)
    c.leaf_slots-slot.ensures.down
