-- amp is below 2^32 and 2^guard at most 2^16, so the shift loses nothing; the root of the frames is at most 2^16.
use Rattle.std.proofs.Common.{◌≡◌, ◌*◌, ◌%◌, ◌^◌, ◌≤◌, arith}
use Rattle.std.proofs.Math.Nat.{mul-le-mul, mod-eq_of_lt, pow-le-pow_right}
use Rattle.wdf_bounds.proofs.bounds.scale_of.Goals as goal

pub returns-clause-fits : goal.returns-clause-fits
returns-clause-fits c =
    let power : 2 ^ c.guard.result ≤ 2 ^ 16 = pow-le-pow_right (omega arith) c.guard.ensures.range in
    let amp : c.from.result ≤ 2 ^ 32 = omega arith in
    let input : c.from.result * 2 ^ c.guard.result ≤ 2 ^ 32 * 2 ^ 16 = mul-le-mul amp power in
    let kept : c.from.result * 2 ^ c.guard.result % 340282366920938463463374607431768211456 ≡ c.from.result * 2 ^ c.guard.result = mod-eq_of_lt (omega arith) in
    let few : c.from.result * 2 ^ c.guard.result % 340282366920938463463374607431768211456 ≤ 2 ^ 48 = omega arith in
    let all : c.from.result * 2 ^ c.guard.result % 340282366920938463463374607431768211456 * c.root.result ≤ 2 ^ 48 * 2 ^ 16 = mul-le-mul few c.root.ensures.fits in
    omega arith
