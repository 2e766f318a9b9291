-- The shift loses nothing: x·2^k is below 2^128.
use Rattle.std.proofs.Common.{◌≡◌, ℕ, ◌*◌, ◌/◌, ◌%◌, ◌^◌, ◌≤◌, ap, arith}
use Rattle.std.proofs.Math.Nat.{mul-le-mul, mod-eq_of_lt, pow-le-pow_right}
use Rattle.wdf_quant.proofs.multiplying.nearest.Goals as goal

pub returns : goal.returns
returns c =
    let power : 2 ^ c.args.k ≤ 2 ^ 20 = pow-le-pow_right (omega arith) c.requires.few in
    let x : c.args.x ≤ 2 ^ 64 = omega arith in
    let product : c.args.x * 2 ^ c.args.k ≤ 2 ^ 64 * 2 ^ 20 = mul-le-mul x power in
    let same : c.from.result * 2 ^ c.args.k ≡ c.args.x * 2 ^ c.args.k = ap (λ (n : ℕ). n * 2 ^ c.args.k) c.from.ensures in
    let kept : c.from.result * 2 ^ c.args.k % 340282366920938463463374607431768211456 ≡ c.from.result * 2 ^ c.args.k = mod-eq_of_lt (omega arith) in
    ap (λ (n : ℕ). n / (2 * c.args.sum)) (omega arith)
