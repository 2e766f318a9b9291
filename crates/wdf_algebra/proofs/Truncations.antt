-- What truncation towards zero does to magnitudes and squares.
use Rattle.std.proofs.Common.{◌≡◌, ℕ, suc, ◌+◌, ◌*◌, ◌/◌, ◌<◌, ◌≤◌, refl, ap, sym, ◌∙◌, arith}
use Rattle.std.proofs.Math.Nat.{mul-le-mul, mul-div-le, mul-div_cancel_left}
use Rattle.std.specs.Prelude.{unsigned_abs}
use mathlib.Core.Logic.{◌⊎◌, inl, inr}
use Rattle.std.proofs.lemmas.Bool.{cases_lt}
use lib.IntN.{ℤ, pos, negsuc, ◌*ℤ◌}
use borrow.Author.Differences.{ints, up, down, same_in, product_is, quot_is}
use Rattle.wdf_algebra.specs.Truncation.{trunc}
use Rattle.wdf_algebra.specs.Squares.{square}

pub trunc-abs : (a : ℤ) (q : ℕ) → unsigned_abs (trunc a q) ≡ unsigned_abs a / q
trunc-abs (pos n) q = refl
trunc-abs (negsuc n) q = omega (arith, ints)

-- a truncated value is no larger: q²·trunc(a/q)² ≤ a²
pub trunc-loses : (a : ℤ) (q : ℕ) → q * q * square (trunc a q) ≤ square a
trunc-loses a q =
    let e = trunc-abs a q in
    let t : ℕ = unsigned_abs a / q in
    let small : q * t ≤ unsigned_abs a = mul-div-le (unsigned_abs a) q in
    let both : (q * t) * (q * t) ≤ unsigned_abs a * unsigned_abs a = mul-le-mul small small in
    let s : square (trunc a q) ≡ t * t = ap (λ (n : ℕ). n * n) e in
    let r : q * q * square (trunc a q) ≡ q * q * (t * t) = ap (λ (n : ℕ). q * q * n) s in
    omega arith

-- the magnitude times q stays within the magnitude before
pub trunc-within : (a : ℤ) (q : ℕ) → q * unsigned_abs (trunc a q) ≤ unsigned_abs a
trunc-within a q =
    let e : q * unsigned_abs (trunc a q) ≡ q * (unsigned_abs a / q) = ap (λ (n : ℕ). q * n) (trunc-abs a q) in
    let small : q * (unsigned_abs a / q) ≤ unsigned_abs a = mul-div-le (unsigned_abs a) q in
    omega arith

-- a multiple is truncated to its factor
pub exact-trunc : (a t : ℤ) (q : ℕ) → 0 < q → pos q *ℤ t ≡ a → trunc a q ≡ t
exact-trunc a t q h e =
    let ups : up a ≡ q * up t = omega (arith, product_is (pos q) t, ap up e) in
    let downs : down a ≡ q * down t = omega (arith, product_is (pos q) t, ap down e) in
    let above : up (trunc a q) ≡ up t = (quot_is a q).0 ∙ (ap (λ (n : ℕ). n / q) ups ∙ mul-div_cancel_left (up t) h) in
    let below : down (trunc a q) ≡ down t = (quot_is a q).1 ∙ (ap (λ (n : ℕ). n / q) downs ∙ mul-div_cancel_left (down t) h) in
    same_in _ _ (omega arith)

-- a multiple keeps its square
pub whole-keeps : (a : ℤ) (q : ℕ) → pos q *ℤ trunc a q ≡ a → q * q * square (trunc a q) ≡ square a
whole-keeps a q e =
    let size : q * unsigned_abs (trunc a q) ≡ unsigned_abs a = sym (times-abs q (trunc a q)) ∙ ap unsigned_abs e in
    let both = ap (λ (n : ℕ). n * n) size in
    omega arith
  where
    times-abs : (q : ℕ) (t : ℤ) → unsigned_abs (pos q *ℤ t) ≡ q * unsigned_abs t
    times-abs q (pos n) = refl
    times-abs q (negsuc n) = omega (arith, ints)

-- two squares are equal only where their numbers are
square-one : (m n : ℕ) → m * m ≡ n * n → m ≡ n
square-one m n h =
    let least : n ≤ m = at_least m n h (cases_lt m n) in
    let most : m ≤ n = at_least n m (sym h) (cases_lt n m) in
    omega arith
  where
    at_least : (m n : ℕ) → m * m ≡ n * n → (m < n) ⊎ (n ≤ m) → n ≤ m
    at_least m n h (inl less) = let more : (m + 1) * (m + 1) ≤ n * n = mul-le-mul {n₁ = m + 1} {m₁ = m + 1} {n₂ = n} {m₂ = n} (omega arith) (omega arith) in omega arith
    at_least m n h (inr e) = e

-- and nothing but a multiple does
pub trunc-exact : (a : ℤ) (q : ℕ) → q * q * square (trunc a q) ≡ square a → pos q *ℤ trunc a q ≡ a
trunc-exact a q e =
    let size = trunc-abs a q in
    let s : q * q * square (trunc a q) ≡ (q * (unsigned_abs a / q)) * (q * (unsigned_abs a / q)) = ap (λ (n : ℕ). q * q * (n * n)) size ∙ omega arith in
    signed a q (square-one (q * (unsigned_abs a / q)) (unsigned_abs a) (sym s ∙ e))
  where
    signed : (a : ℤ) (q : ℕ) → q * (unsigned_abs a / q) ≡ unsigned_abs a → pos q *ℤ trunc a q ≡ a
    signed (pos n) q h = ap pos h
    signed (negsuc n) q h =
        let above : q * up (trunc (negsuc n) q) ≡ q * (0 / q) = ap (λ (k : ℕ). q * k) (quot_is (negsuc n) q).0 in
        let below : q * down (trunc (negsuc n) q) ≡ q * (suc n / q) = ap (λ (k : ℕ). q * k) (quot_is (negsuc n) q).1 in
        let none : q * (0 / q) ≤ 0 = mul-div-le 0 q in
        same_in _ _ (omega (arith, product_is (pos q) (trunc (negsuc n) q)))
