use Rattle.std.proofs.Common.{◌≡◌, ◌++◌, length, length-append, rules, arith}
use Rattle.std.proofs.KnownBytes.{Consumes-trans}
use Rattle.wdf_wav.proofs.parts.pass_over.Goals as goal

pub loop-done-preserved : goal.loop-done-preserved
loop-done-preserved g c =
    let so_far = c.loop-done.invariant.taken in
    let next = c.take_part.new.part in
    let size : length next ≡ c.min-next.result = search rules in
    record {
      within = search rules;
      taken = record {
        bytes = so_far.bytes ++ next;
        size = omega (arith, length-append so_far.bytes next, so_far.size);
        input = Consumes-trans _ _ _ _ _ so_far.input c.in_ok-take_part.ensures.ok;
      };
      later = search rules;
    }
