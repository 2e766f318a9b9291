-- The nearest whole number by a count of halves.
use Rattle.std.proofs.Common.{◌≡◌, ℕ, suc, ℤ, pos, negsuc, ◌+◌, ◌*◌, ◌/◌, ◌^◌, ◌<◌, ◌<ℤ◌, ◌≤ℤ◌, min, unsigned_abs, sym, ap, ◌∙◌, arith}
use Rattle.std.proofs.Math.Nat.{mul_comm, add-mul-div_left, div-div-eq-div-mul, mul-pos, mul-div-mul_right, one-le-pow}
use Rattle.std.proofs.lemmas.Int.{ints}
use Rattle.std.specs.Int.{div_ceil}
use Rattle.wdf_frac.specs.Fraction.{Fraction, IsQuotient}
use Rattle.wdf_frac.specs.Units.{nearest, units_of, HasUnitsOf}

-- half of the count of halves, rounded up
nearest-halves : (top bottom : ℕ) → 0 < bottom → nearest top bottom ≡ (2 * top / bottom + 1) / 2
nearest-halves top bottom positive =
    let one : 2 * top + bottom ≡ 2 * top + bottom * 1 = omega arith in
    ap (λ (x : ℕ). (2 * top + bottom) / x) (mul_comm 2 bottom)
    ∙ sym (div-div-eq-div-mul (2 * top + bottom) bottom 2)
    ∙ ap (λ (x : ℕ). x / bottom / 2) one
    ∙ ap (λ (x : ℕ). x / 2) (add-mul-div_left (2 * top) 1 positive)

half-up : (n : ℕ) → div_ceil n 2 ≡ (n + 1) / 2
half-up n = omega arith

-- at a negative power of ten: the quotient loses its last digits
pub units_of-negative : (num den : ℕ) (tens : ℤ) → 0 < den → tens <ℤ pos 0 → units_of num den tens ≡ div_ceil (num * 2 ^ 41 / den / 10 ^ unsigned_abs tens) 2
units_of-negative num den (pos t) positive negative = absurd (omega (arith, ints))
units_of-negative num den (negsuc t) positive negative =
    let power : 0 < 10 ^ suc t = let h = one-le-pow (suc t) 10 (omega arith) in omega (arith, h) in
    let twice : 2 * (2 ^ 40 * num) ≡ num * 2 ^ 41 = omega arith in
    nearest-halves (2 ^ 40 * num) (10 ^ suc t * den) (mul-pos power positive)
    ∙ ap (λ (x : ℕ). (x / (10 ^ suc t * den) + 1) / 2) twice
    ∙ ap (λ (x : ℕ). (x + 1) / 2) (ap (λ (d : ℕ). num * 2 ^ 41 / d) (mul_comm (10 ^ suc t) den) ∙ sym (div-div-eq-div-mul (num * 2 ^ 41) den (10 ^ suc t)))
    ∙ sym (half-up (num * 2 ^ 41 / den / 10 ^ suc t))

-- from 2^64 halves on the count may stop
capped-halves : (n : ℕ) → min (div_ceil (min n (2 ^ 64)) 2) (2 ^ 63) ≡ min ((n + 1) / 2) (2 ^ 63)
capped-halves n = omega arith

-- at another power of ten: the quotient may stop at 2^64
pub units_of-positive : (num den : ℕ) (tens : ℤ) → 0 < den → pos 0 ≤ℤ tens → min (units_of num den tens) (2 ^ 63) ≡ min (div_ceil (min (num * 2 ^ 41 * 10 ^ unsigned_abs tens / den) (2 ^ 64)) 2) (2 ^ 63)
units_of-positive num den (negsuc t) positive tens_up = absurd (omega (arith, ints))
units_of-positive num den (pos t) positive tens_up =
    let twice : 2 * (2 ^ 40 * 10 ^ t * num) ≡ num * 2 ^ 41 * 10 ^ t = omega arith in
    ap (λ (x : ℕ). min x (2 ^ 63)) (nearest-halves (2 ^ 40 * 10 ^ t * num) den positive ∙ ap (λ (x : ℕ). (x / den + 1) / 2) twice)
    ∙ sym (capped-halves (num * 2 ^ 41 * 10 ^ t / den))

-- equal quotients have one nearest whole number
nearest-same : (t b s d : ℕ) → 0 < b → 0 < d → t * d ≡ s * b → nearest t b ≡ nearest s d
nearest-same t b s d hb hd e =
    let top : (2 * t + b) * d ≡ (2 * s + d) * b = omega (arith, e) in
    let bottom : 2 * b * d ≡ 2 * d * b = omega arith in
    sym (mul-div-mul_right (2 * t + b) (2 * b) hd)
    ∙ (λ i. top i / bottom i)
    ∙ mul-div-mul_right (2 * s + d) (2 * d) hb

-- equal fractions have equal units
pub HasUnitsOf-quotient : (f : Fraction) (num den : ℕ) → 0 < f.den → 0 < den → IsQuotient f num den → HasUnitsOf f num den
HasUnitsOf-quotient f num den hf hd e (pos t) =
    let h = ap (λ (x : ℕ). 2 ^ 40 * 10 ^ t * x) e in
    nearest-same (2 ^ 40 * 10 ^ t * f.num) f.den (2 ^ 40 * 10 ^ t * num) den hf hd (omega (arith, h))
HasUnitsOf-quotient f num den hf hd e (negsuc t) =
    let power : 0 < 10 ^ suc t = let p = one-le-pow (suc t) 10 (omega arith) in omega (arith, p) in
    let h = ap (λ (x : ℕ). 2 ^ 40 * 10 ^ suc t * x) e in
    nearest-same (2 ^ 40 * f.num) (10 ^ suc t * f.den) (2 ^ 40 * num) (10 ^ suc t * den) (mul-pos power hf) (mul-pos power hd) (omega (arith, h))
