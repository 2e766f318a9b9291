use Rattle.std.proofs.Common.{List, map, ap, ◌∙◌}
use Rattle.wdf_law.specs.Network.{Network, absorbing_numbers}
use Rattle.wdf_loop.specs.declared.part.Part.{Part}
use Rattle.wdf_loop.specs.Advances.{root_of}
use Rattle.wdf_loop.specs.Parts.{part_at}
use Rattle.wdf_loop.proofs.PartLemmas.{has_parts}
use Rattle.wdf_loop.proofs.parts.parts_of.Goals as goal

pub returns : goal.returns
returns c =
    has_parts c.args.schedule.now (root_of c.args.layout.now.shares.items) c.args.layout.now.marks.items c.in_ok-every.every.items c.in_ok-absorbing.absorbing.items c.in_ok-every.ensures
    (c.in_ok-absorbing.ensures
    ∙ (ap (λ (ps : List Part). map (part_at ps) (absorbing_numbers c.net-2.result.now)) c.deref.ensures.value
    ∙ ap (λ (n : Network). map (part_at c.in_ok-every.every.items) (absorbing_numbers n)) c.net-2.ensures))
