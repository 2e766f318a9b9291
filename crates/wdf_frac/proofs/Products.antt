-- Fractions brought to lowest terms, and their products.
use Prim.Native.Nat.{◌∣◌}
use Rattle.std.proofs.Common.{◌≡◌, ℕ, ◌*◌, ◌/◌, ◌^◌, ◌<◌, ◌≤◌, sym, ap, subst, ⊎_elim, arith}
use Rattle.std.specs.Int.{IsGcd}
use Rattle.std.proofs.lemmas.Nat.Gcd.{le_of_dvd, IsGcd-swap}
use Rattle.std.proofs.Math.Nat.{dvd-mul_right, div-mul_cancel, pos_of_dvd_of_pos, mul-pos, eq_of_mul-eq-mul_right}
use Rattle.wdf_frac.specs.Fraction.{Fraction, IsLowest, IsQuotient, IsWithin, IsProduct, IsProductTooWide}
use Rattle.wdf_frac.proofs.Coprime.{dvd_of_coprime, IsGcd-divisors, IsGcd-product, IsGcd-quotients, quotient-positive}

-- a over b
abbrev pub over : ℕ → ℕ → Fraction
over a b = record { num = a; den = b }

-- a/g over b/g
abbrev pub reduced : ℕ → ℕ → ℕ → Fraction
reduced a b g = over (a / g) (b / g)

pub IsLowest-reduced : (a b g : ℕ) → 0 < a → 0 < b → IsGcd a b g → IsLowest (reduced a b g)
IsLowest-reduced a b g ha hb h = record {
  num_positive = quotient-positive a g ha h.0;
  den_positive = quotient-positive b g hb h.1;
  no_common_divisor = IsGcd-quotients a b g (pos_of_dvd_of_pos h.0 ha) h;
}

regroup : (a b g : ℕ) → a * (b * g) ≡ a * g * b
regroup a b g = omega arith

pub IsQuotient-reduced : (a b g : ℕ) → IsGcd a b g → IsQuotient (reduced a b g) a b
IsQuotient-reduced a b g h =
    let e = regroup (a / g) (b / g) g in
    let a_is : a / g * g ≡ a = div-mul_cancel g h.0 in
    let b_is : b / g * g ≡ b = div-mul_cancel g h.1 in
    rw (a_is, b_is) at e

-- the product of two fractions, part by part
abbrev pub crossed : Fraction → Fraction → Fraction
crossed p r = over (p.num * r.num) (p.den * r.den)

-- the parts of a quotient in lowest terms divide what it is the quotient of
num-divides : (p : Fraction) (top bottom : ℕ) → IsLowest p → IsQuotient p top bottom → p.num ∣ top
num-divides p top bottom lp is_p =
    let e : p.num * bottom ≡ p.den * top = omega (arith, is_p) in
    dvd_of_coprime p.num p.den top lp.no_common_divisor (subst (λ (m : ℕ). p.num ∣ m) e (dvd-mul_right p.num bottom))

den-divides : (p : Fraction) (top bottom : ℕ) → IsLowest p → IsQuotient p top bottom → p.den ∣ bottom
den-divides p top bottom lp is_p =
    let e : p.den * top ≡ p.num * bottom = omega (arith, is_p) in
    dvd_of_coprime p.den p.num bottom (IsGcd-swap p.num p.den 1 lp.no_common_divisor) (subst (λ (m : ℕ). p.den ∣ m) e (dvd-mul_right p.den top))

-- so they are within it
pub IsWithin-quotient : (p : Fraction) (top bottom : ℕ) → 0 < top → 0 < bottom → IsLowest p → IsQuotient p top bottom → IsWithin p top bottom
IsWithin-quotient p top bottom ht hb lp is_p = (le_of_dvd ht (num-divides p top bottom lp is_p), le_of_dvd hb (den-divides p top bottom lp is_p))

crossed-value : (a b c d pn pd rn rd : ℕ) → pn * d ≡ a * pd → rn * b ≡ c * rd → pn * rn * (b * d) ≡ a * c * (pd * rd)
crossed-value a b c d pn pd rn rd hp hr =
    let h = ap (λ (x : ℕ). x * (rn * b)) hp in
    let k = ap (λ (x : ℕ). a * pd * x) hr in
    omega (arith, h, k)

-- a/b times c/d is a/d times c/b, and has no common factor left where these two have none
pub IsProduct-crossed : (x y p r : Fraction) → IsLowest x → IsLowest y → IsLowest p → IsLowest r → IsQuotient p x.num y.den → IsQuotient r y.num x.den → IsProduct x y (crossed p r)
IsProduct-crossed x y p r lx ly lp lr is_p is_r =
    let own : IsGcd p.num r.den 1 = IsGcd-divisors x.num x.den p.num r.den (num-divides p x.num y.den lp is_p) (den-divides r y.num x.den lr is_r) lx.no_common_divisor in
    let other : IsGcd r.num p.den 1 = IsGcd-divisors y.num y.den r.num p.den (num-divides r y.num x.den lr is_r) (den-divides p x.num y.den lp is_p) ly.no_common_divisor in
    let with_p : IsGcd p.den (p.num * r.num) 1 = IsGcd-swap (p.num * r.num) p.den 1 (IsGcd-product p.num r.num p.den lp.no_common_divisor other) in
    let with_r : IsGcd r.den (p.num * r.num) 1 = IsGcd-swap (p.num * r.num) r.den 1 (IsGcd-product p.num r.num r.den own lr.no_common_divisor) in
    record {
      lowest = record {
        num_positive = mul-pos lp.num_positive lr.num_positive;
        den_positive = mul-pos lp.den_positive lr.den_positive;
        no_common_divisor = IsGcd-swap (p.den * r.den) (p.num * r.num) 1 (IsGcd-product p.den r.den (p.num * r.num) with_p with_r);
      };
      value = crossed-value x.num x.den y.num y.den p.num p.den r.num r.den is_p is_r;
    }

-- two quotients of the same numbers, multiplied out
same-quotient : (a b c d top bottom : ℕ) → 0 < bottom → a * bottom ≡ top * b → c * bottom ≡ top * d → a * d ≡ b * c
same-quotient a b c d top bottom positive ab cd =
    let h = ap (λ (s : ℕ). s * d) ab in
    let k = ap (λ (s : ℕ). s * b) cd in
    eq_of_mul-eq-mul_right bottom positive (a * d) (b * c) (omega (arith, h, k))

-- a quotient in lowest terms has the least parts
pub IsLowest-least : (p f : Fraction) (top bottom : ℕ) → 0 < bottom → IsLowest p → IsLowest f → IsQuotient p top bottom → IsQuotient f top bottom → (p.num ≤ f.num) × (p.den ≤ f.den)
IsLowest-least p f top bottom positive lp lf is_p is_f =
    let e : p.num * f.den ≡ p.den * f.num = same-quotient p.num p.den f.num f.den top bottom positive is_p is_f in
    let num : p.num ∣ f.num = dvd_of_coprime p.num p.den f.num lp.no_common_divisor (subst (λ (m : ℕ). p.num ∣ m) e (dvd-mul_right p.num f.den)) in
    let den : p.den ∣ f.den = dvd_of_coprime p.den p.num f.den (IsGcd-swap p.num p.den 1 lp.no_common_divisor) (subst (λ (m : ℕ). p.den ∣ m) (sym e) (dvd-mul_right p.den f.num)) in
    (le_of_dvd lf.num_positive num, le_of_dvd lf.den_positive den)

-- no product in lowest terms is wider than one that fits
pub IsProductTooWide-fits : (x y f : Fraction) → IsLowest x → IsLowest y → IsProduct x y f → f.num < 2 ^ 128 → f.den < 2 ^ 128 → IsProductTooWide x y → ⊥
IsProductTooWide-fits x y f lx ly is_f num den wide =
    let p = wide.product in
    let least = IsLowest-least p f (x.num * y.num) (x.den * y.den) (mul-pos lx.den_positive ly.den_positive) wide.is_product.lowest is_f.lowest wide.is_product.value is_f.value in
    ⊎_elim
    (λ (h : 2 ^ 128 ≤ p.num). let bad : ⊥ = omega (arith, least.0) in bad)
    (λ (h : 2 ^ 128 ≤ p.den). let bad : ⊥ = omega (arith, least.1) in bad)
    wide.too_wide
