-- A step of long division in base ten.
use Rattle.std.proofs.Common.{◌≡◌, ℕ, ◌+◌, ◌*◌, ◌/◌, ◌%◌, ◌^◌, ◌<◌, min, sym, ap, ◌∙◌, add-one, arith}
use Rattle.std.proofs.Math.Nat.{div-add-mod, mul-add-div, div-div-eq-div-mul, pow-suc}
use Rattle.std.proofs.lemmas.Nat.{mul-mod_second}

-- ten times a quotient, with the next digit from the rest
ten-div : (n d : ℕ) → 0 < d → (10 * n) / d ≡ 10 * (n / d) + 10 * (n % d) / d
ten-div n d hd =
    let h = div-add-mod n d in
    let e : 10 * n ≡ d * (10 * (n / d)) + 10 * (n % d) = omega (arith, h) in
    ap (λ (x : ℕ). x / d) e ∙ mul-add-div hd (10 * (n / d)) (10 * (n % d))

ten-power : (k : ℕ) → 10 ^ (k + 1) ≡ 10 ^ k * 10
ten-power k = rw add-one (pow-suc 10 k)

power-step : (n k : ℕ) → n * 10 ^ (k + 1) ≡ 10 * (n * 10 ^ k)
power-step n k = let h = ap (λ (x : ℕ). n * x) (ten-power k) in omega (arith, h)

capped : (a r c : ℕ) → min (10 * min a c + r) c ≡ min (10 * a + r) c
capped a r c = omega arith

pub whole-step : (n d k c : ℕ) → 0 < d → min (10 * min (n * 10 ^ k / d) c + 10 * (n * 10 ^ k % d) / d) c ≡ min (n * 10 ^ (k + 1) / d) c
whole-step n d k c hd =
    capped (n * 10 ^ k / d) (10 * (n * 10 ^ k % d) / d) c
    ∙ ap (λ (x : ℕ). min x c) (sym (ten-div (n * 10 ^ k) d hd) ∙ ap (λ (x : ℕ). x / d) (sym (power-step n k)))

pub rest-step : (n d k : ℕ) → 10 * (n * 10 ^ k % d) % d ≡ n * 10 ^ (k + 1) % d
rest-step n d k = mul-mod_second 10 (n * 10 ^ k) d ∙ ap (λ (x : ℕ). x % d) (sym (power-step n k))

-- one digit less
pub right-step : (n k : ℕ) → n / 10 ^ k / 10 ≡ n / 10 ^ (k + 1)
right-step n k = div-div-eq-div-mul n (10 ^ k) 10 ∙ ap (λ (x : ℕ). n / x) (sym (ten-power k))
