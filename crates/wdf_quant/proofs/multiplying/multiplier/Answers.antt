-- 2^k is at least 2 and below 2^128.
use Rattle.std.proofs.Common.{◌≡◌, ◌*◌, ◌%◌, ◌^◌, ◌≤◌, arith}
use Rattle.std.proofs.Math.Nat.{pow-le-pow_right, mod-eq_of_lt}
use Rattle.wdf_quant.proofs.multiplying.multiplier.Goals as goal

pub returns-clause-range : goal.returns-clause-range
returns-clause-range c =
    let most : 2 ^ c.args.k ≤ 2 ^ 20 = pow-le-pow_right (omega arith) c.requires.few in
    let least : 2 ^ 1 ≤ 2 ^ c.args.k = pow-le-pow_right (omega arith) c.requires.some in
    let kept : 1 * 2 ^ c.args.k % 340282366920938463463374607431768211456 ≡ 1 * 2 ^ c.args.k = mod-eq_of_lt (omega arith) in
    (omega arith, omega arith)
