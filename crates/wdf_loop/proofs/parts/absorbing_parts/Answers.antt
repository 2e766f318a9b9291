use Rattle.std.proofs.Common.{◌<◌, length, sym, ◌∙◌, arith}
use Rattle.wdf_law.specs.Network.{elements, has_absorbing}
use Rattle.wdf_loop.specs.Parts.{part_at}
use Rattle.wdf_loop.proofs.PartLemmas.{passing_more, passing_same, read_part}
use Rattle.wdf_loop.proofs.parts.absorbing_parts.Goals as goal
use Rattle.wdf_loop.proofs.parts.absorbing_parts.Goals.{then-has_absorbing+in_ok-push, else-has_absorbing}

pub loop-number-preserved : goal.loop-number-preserved
loop-number-preserved c =
    let every = c.args.every.now in
    let number = c.loop-number.number in
    let has = has_absorbing (elements c.args.net.now) in
    let small = c.loop-number-test.true in
    let count = c.element_count-number-end.ensures.count in
    let inside : c.loop-number.number < length c.args.every.now = omega (arith, small, count, c.requires) in
    elim c.if-has_absorbing.branch [
      | then-has_absorbing+in_ok-push w ↦
          passing_more (part_at every) has number c.loop-number.parts.items c.if-has_absorbing.parts.items c.loop-number.invariant (sym c.has_absorbing.ensures ∙ w.if-has_absorbing.true)
          ((λ i. (w.parts-is i).items) ∙ read_part every c.loop-number.parts.items w.push.new.self.items number _ inside w.in_ok-push.ensures.items)
      | else-has_absorbing w ↦
          (λ i. (w.parts-is i).items) ∙ passing_same (part_at every) has number c.loop-number.parts.items c.loop-number.invariant (sym c.has_absorbing.ensures ∙ w.if-has_absorbing.false)
    ]
