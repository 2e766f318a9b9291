-- How large the values of a junction are.
use Rattle.std.proofs.Common.{◌≡◌, ℕ, ◌+◌, ◌-◌, ◌*◌, ◌<◌, ◌≤◌, ◌^◌, ap, sym, ◌∙◌, arith}
use Rattle.std.proofs.Math.Nat.{mul-le-mul, mul-le-mul_left, pow-le-pow_right}
use Rattle.std.proofs.lemmas.Nat.{pow_pos, pow-add}
use Rattle.std.specs.Prelude.{ℤ, unsigned_abs}
use Rattle.wdf_tree.specs.Words.{IsWord}

-- a multiplier's share of a wave is no larger than the wave in units of 1/q
pub share : (m q a : ℕ) → m ≤ q → m * a ≤ q * a
share m q a h = mul-le-mul h (omega arith)

-- the sum of three words, in units of 1/q
pub three_words : (q a b c x : ℕ) → x ≤ a + b + c → q * a ≤ 2 ^ 60 → q * b ≤ 2 ^ 60 → q * c ≤ 2 ^ 60 → q * x ≤ 3 * 2 ^ 60
three_words q a b c x h ha hb hc = let least : q * x ≤ q * (a + b + c) = mul-le-mul_left q h in omega arith

-- a unit is at least 1
pub unit_some : (q k : ℕ) → q ≡ 2 ^ k → 1 ≤ q
unit_some q k e = let some = pow_pos k in omega arith

-- a sample of 32 bits with 16 more
pub shifted_fits : (a g : ℕ) → a ≤ 2 ^ 31 → g ≤ 16 → a * 2 ^ g < 2 ^ 63
shifted_fits a g h k =
    let scale : 2 ^ g ≤ 2 ^ 16 = pow-le-pow_right (omega arith) k in
    let both : a * 2 ^ g ≤ 2 ^ 31 * 2 ^ 16 = mul-le-mul h scale in
    omega arith

-- a number within the limit of words of the width k
pub limited_word : (k : ℕ) (z : ℤ) → k ≤ 20 → unsigned_abs z ≤ 2 ^ (60 - k) → IsWord (2 ^ k) z
limited_word k z few h =
    let least : 60 - k ≤ 60 = omega arith in
    let whole : 2 ^ (60 - k) ≤ 2 ^ 60 = pow-le-pow_right (omega arith) least in
    let scaled : 2 ^ k * unsigned_abs z ≤ 2 ^ k * 2 ^ (60 - k) = mul-le-mul_left (2 ^ k) h in
    let at : k + (60 - k) ≡ 60 = omega arith in
    let both : 2 ^ 60 ≡ 2 ^ k * 2 ^ (60 - k) = sym (ap (λ (m : ℕ). 2 ^ m) at) ∙ pow-add 2 k (60 - k) in
    (omega arith, omega arith)
