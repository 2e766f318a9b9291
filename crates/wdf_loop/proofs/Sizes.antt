-- How large the values of a junction are.
use Rattle.std.proofs.Common.{◌≡◌, ℕ, ◌+◌, ◌*◌, ◌<◌, ◌≤◌, ◌^◌, ap, arith}
use Rattle.std.specs.Prelude.{ℤ, pos, ◌+ℤ◌, ◌*ℤ◌, unsigned_abs}
use Rattle.std.proofs.Math.Nat.{mul-le-mul, mul-le-mul_left, pow-le-pow_right}
use Rattle.std.proofs.lemmas.Int.{unsigned_abs-mul}
use borrow.Author.Differences.{ints}
use Rattle.wdf_algebra.specs.JunctionValues.{parallel_value}
use Rattle.wdf_loop.specs.Cells.{IsWord}

-- a multiplier's share of a wave is no larger than the wave in units of 1/q
pub share : (m q a : ℕ) → m ≤ q → m * a ≤ q * a
share m q a h = mul-le-mul h (omega arith)

pub sum-abs : (a b : ℤ) → unsigned_abs (a +ℤ b) ≤ unsigned_abs a + unsigned_abs b
sum-abs a b = omega (arith, ints)

addend-abs : (a b z : ℤ) → a +ℤ b ≡ z → unsigned_abs b ≤ unsigned_abs z + unsigned_abs a
addend-abs a b z e =
    let size : unsigned_abs (a +ℤ b) ≡ unsigned_abs z = ap unsigned_abs e in
    omega (arith, ints)

-- a word in whole units
pub whole-word : (q : ℕ) (z : ℤ) → 0 < q → IsWord q z → unsigned_abs z ≤ 2 ^ 60
whole-word q z some h = let least : 1 * unsigned_abs z ≤ q * unsigned_abs z = mul-le-mul some (omega arith) in omega arith

-- a word with a sign
pub signed-size : (q : ℕ) (s z : ℤ) → 0 < q → unsigned_abs s ≤ 1 → IsWord q z → unsigned_abs s * unsigned_abs z ≤ 2 ^ 60
signed-size q s z some few h =
    let least : unsigned_abs s * unsigned_abs z ≤ 1 * unsigned_abs z = mul-le-mul few (omega arith) in
    let whole = whole-word q z some h in
    omega arith

-- and what is left of a word without it
signed-word : (q : ℕ) (s z : ℤ) → 0 < q → unsigned_abs s ≤ 1 → IsWord q z → unsigned_abs (s *ℤ z) ≤ 2 ^ 60
signed-word q s z some few h =
    let size : unsigned_abs (s *ℤ z) ≡ unsigned_abs s * unsigned_abs z = unsigned_abs-mul s z in
    omega (arith, signed-size q s z some few h)

pub rest-size : (q : ℕ) (s z fed up : ℤ) → 0 < q → unsigned_abs s ≤ 1 → IsWord q z → IsWord q up → s *ℤ z +ℤ fed ≡ up → unsigned_abs fed ≤ 2 ^ 61
rest-size q s z fed up some few h k e =
    let one = signed-word q s z some few h in
    let two = whole-word q up some k in
    omega (arith, addend-abs (s *ℤ z) fed up e)

-- the sum of two shares of words
pub shares-size : (q m n : ℕ) (u1 u2 : ℤ) → m + n ≡ q → IsWord q u1 → IsWord q u2 → unsigned_abs (parallel_value m n u1 u2) ≤ 2 ^ 61
shares-size q m n u1 u2 e h k =
    let first : m * unsigned_abs u1 ≤ q * unsigned_abs u1 = share m q (unsigned_abs u1) (omega arith) in
    let second : n * unsigned_abs u2 ≤ q * unsigned_abs u2 = share n q (unsigned_abs u2) (omega arith) in
    let one : unsigned_abs (pos m *ℤ u1) ≡ m * unsigned_abs u1 = unsigned_abs-mul (pos m) u1 in
    let two : unsigned_abs (pos n *ℤ u2) ≡ n * unsigned_abs u2 = unsigned_abs-mul (pos n) u2 in
    omega (arith, sum-abs (pos m *ℤ u1) (pos n *ℤ u2))

-- the sum of three words
pub three-words : (q a b c x : ℕ) → x ≤ a + b + c → q * a ≤ 2 ^ 60 → q * b ≤ 2 ^ 60 → q * c ≤ 2 ^ 60 → q * x ≤ 3 * 2 ^ 60
three-words q a b c x h ha hb hc = let least : q * x ≤ q * (a + b + c) = mul-le-mul_left q h in omega arith

-- a sample of 32 bits with 16 more
pub shifted_fits : (a g : ℕ) → a ≤ 2 ^ 31 → g ≤ 16 → a * 2 ^ g < 2 ^ 63
shifted_fits a g h k =
    let scale : 2 ^ g ≤ 2 ^ 16 = pow-le-pow_right (omega arith) k in
    let both : a * 2 ^ g ≤ 2 ^ 31 * 2 ^ 16 = mul-le-mul h scale in
    omega arith
