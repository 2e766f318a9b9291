use Rattle.std.proofs.Common.{◌≡◌, ℕ, ◌+◌, ◌*◌, ◌^◌, ◌∙◌, ap, add-one, arith, rules}
use Rattle.std.proofs.Math.Nat.{pow-suc}
use Rattle.std.proofs.lemmas.List.Folds.{list_all_more}
use Rattle.std.proofs.lemmas.Bool.{and_from}
use Rattle.std.specs.Char.{is_ascii_digit}
use Rattle.wdf_text.proofs.NumberLemmas.{number_of_more}
use Rattle.wdf_text.proofs.numbers.whole.Goals as goal

pub loop-byte-preserved : goal.loop-byte-preserved
loop-byte-preserved c =
    let digit = c.if-not-is_ascii_digit.ensures.cases in
    let more = number_of_more c.args.text.now c.loop-byte.byte-index (omega arith) in
    let tens : 10 ^ (c.loop-byte.byte-index + 1) ≡ 10 ^ c.loop-byte.byte-index * 10 = ap (λ (n : ℕ). 10 ^ n) (add-one c.loop-byte.byte-index) ∙ pow-suc 10 c.loop-byte.byte-index in
    record {
      read = omega arith;
      small = omega arith;
      digits = list_all_more is_ascii_digit c.args.text.now c.loop-byte.byte-index 0 (omega arith) ∙ and_from _ _ c.loop-byte.invariant.digits (search rules);
    }
