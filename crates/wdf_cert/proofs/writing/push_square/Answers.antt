use Rattle.std.proofs.Common.{◌≡◌, ℕ, ◌+◌, ◌-◌, List, length, take, drop, sym, ap, ◌∙◌, subst, arith}
use Rattle.std.proofs.lemmas.List.{take_all, length-drop}
use Rattle.wdf_cert.proofs.WritingLemmas.{LinesSoFar, lines_more, lines-left}
use Rattle.wdf_cert.proofs.writing.push_square.Goals as goal

pub loop-i-preserved : goal.loop-i-preserved
loop-i-preserved c =
    let left = c.loop-i.left.now in
    let n = c.args.n in
    let fewer = length-drop n left in
    let whole : take (length left - n) (drop n left) ≡ drop n left = take_all (length left - n) (drop n left) (omega arith) in
    record {
      count = ap length whole ∙ (fewer ∙ lines-left n c.loop-i.i (length left) c.loop-i-test.true c.loop-i.invariant.count);
      written = subst (λ (ns : List ℕ). LinesSoFar c.args.out.now.items c.push_numbers.new.out.items ns c.args.entries.now n (c.loop-i.i + 1)) (sym whole)
          (lines_more c.args.out.now.items c.loop-i.out.items c.push_numbers.new.out.items left c.args.entries.now n c.loop-i.i c.loop-i-test.true c.loop-i.invariant.written c.in_ok-push_numbers.ensures);
    }
