use Rattle.std.proofs.Common.{◌≡◌, ◌+◌, ◌-◌, ◌++◌, length, take, drop, sym, ap, ◌∙◌, subst, rules}
use Rattle.std.proofs.lemmas.List.{take_rest}
use Rattle.std.specs.Io.KnownBytes.{Appends}
use Rattle.std.proofs.KnownBytes.{Appends-trans}
use lib.Seq.{take-add}
use Rattle.wdf_io.proofs.copy.put_all.Goals as goal

pub loop-at-preserved : goal.loop-at-preserved
loop-at-preserved g c =
    let at = c.loop-at.at in
    let n = c.in_ok-count.count in
    let piece = c.args.piece.now in
    let front : take at piece ++ take n (take (length piece - at) (drop at piece)) ≡ take (at + n) piece =
    ap (λ l. take at piece ++ take n l) (take_rest piece at) ∙ sym (take-add at n piece) in
    record {
      in_range = search rules;
      appended = subst (Appends _ _) front (Appends-trans _ _ _ _ _ c.loop-at.invariant.appended c.in_ok-count.ensures.bytes);
      later = search rules;
    }
