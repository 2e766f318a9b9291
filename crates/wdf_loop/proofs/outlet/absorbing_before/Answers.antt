use Rattle.std.proofs.Common.{◌+◌, sym, ◌∙◌, arith}
use Rattle.wdf_law.specs.Network.{elements, has_absorbing}
use Rattle.wdf_loop.proofs.PartLemmas.{counted_other, counted_one}
use Rattle.wdf_loop.proofs.outlet.absorbing_before.Goals as goal
use Rattle.wdf_loop.proofs.outlet.absorbing_before.Goals.{then-has_absorbing, else-has_absorbing}

pub loop-i-preserved : goal.loop-i-preserved
loop-i-preserved c =
    let few = c.loop-i.invariant.few in
    let has = has_absorbing (elements c.args.net.now) in
    elim c.if-has_absorbing.branch [
      | then-has_absorbing w ↦ record {
        few = omega (arith, w.count-is, few);
        so_far = w.count-is ∙ ((λ t. c.loop-i.invariant.so_far t + 1) ∙ sym (counted_one has c.loop-i.i (sym c.has_absorbing.ensures ∙ w.if-has_absorbing.true)));
      }
      | else-has_absorbing w ↦ record {
        few = omega (arith, w.count-is, few);
        so_far = w.count-is ∙ (c.loop-i.invariant.so_far ∙ sym (counted_other has c.loop-i.i (sym c.has_absorbing.ensures ∙ w.if-has_absorbing.false)));
      }
    ]
