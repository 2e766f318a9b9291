-- A power of two that a word holds.
use Rattle.std.proofs.Common.{◌≡◌, ℕ, ◌*◌, ◌%◌, ◌^◌, ◌≤◌, arith}
use Rattle.std.proofs.Math.Nat.{pow-le-pow_right, mod-eq_of_lt}

pub unit_fits : (k : ℕ) → k ≤ 20 → 1 * 2 ^ k % 4294967296 ≡ 2 ^ k
unit_fits k few =
    let most : 2 ^ k ≤ 2 ^ 20 = pow-le-pow_right (omega arith) few in
    let kept : 1 * 2 ^ k % 4294967296 ≡ 1 * 2 ^ k = mod-eq_of_lt (omega arith) in
    omega arith
