use Rattle.std.proofs.Common.{◌-◌, length, sym, subst, rules}
use Rattle.std.specs.Io.KnownBytes.{Consumes}
use Rattle.std.proofs.KnownBytes.{Consumes-trans}
use Rattle.wdf_io.proofs.FilledLemmas.{take-put_mid_filled}
use Rattle.wdf_io.proofs.copy.take_exact.Goals as goal

pub loop-at-preserved : goal.loop-at-preserved
loop-at-preserved g c =
    let at = c.loop-at.at in
    let room = length c.loop-at.buf - at in
    let n = c.in_ok-count.count in
    let within = c.loop-at.invariant.in_range in
    let read = c.in_ok-count.ensures in
    let front = take-put_mid_filled at room n c.loop-at.buf c.read.new.buf within read.bound.0 in
    record {
      in_range = search rules;
      consumed = subst (Consumes _ _) (sym front) (Consumes-trans _ _ _ _ _ c.loop-at.invariant.consumed read.bytes.0);
      later = search rules;
    }
