use Rattle.std.proofs.Common.{◌≡◌, ℕ, ◌+◌, ◌*◌, ◌^◌, ◌∙◌, ap, add-one, arith}
use Rattle.std.proofs.Math.Nat.{pow-suc}
use Rattle.std.proofs.lemmas.List.{take_all}
use Rattle.wdf_text.specs.Numbers.{number_of}
use Rattle.wdf_cert.proofs.TakenTokens.{digits_small, number_of_more}
use Rattle.wdf_cert.proofs.tokens.digits_number.Goals as goal

pub loop-byte-preserved : goal.loop-byte-preserved
loop-byte-preserved c =
    let digit = c.if-not-is_ascii_digit.ensures.cases in
    let more = number_of_more c.args.word.now c.loop-byte.byte-index (omega arith) in
    let tens : 10 ^ (c.loop-byte.byte-index + 1) ≡ 10 ^ c.loop-byte.byte-index * 10 = ap (λ (n : ℕ). 10 ^ n) (add-one c.loop-byte.byte-index) ∙ pow-suc 10 c.loop-byte.byte-index in
    record {
      value = omega arith;
      small = omega arith;
    }

pub returns : goal.returns
returns c =
    let place = c.loop-byte.byte-index in
    let word = c.args.word.now in
    (c.loop-byte.invariant.value ∙ ap number_of (take_all place word (omega arith)), digits_small c.loop-byte.n place c.loop-byte.invariant.small (omega arith))
