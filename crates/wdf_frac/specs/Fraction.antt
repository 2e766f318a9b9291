-- Positive fractions in lowest terms.
use Rattle.std.specs.Prelude.{◌≡◌, ℕ, ◌*◌, ◌^◌, ◌<◌, ◌≤◌, ◌⊎◌}
use Rattle.std.specs.Int.{IsGcd}

-- num/den
pub record Fraction : Type 0 where
  pub num : ℕ
  pub den : ℕ

-- f is positive, and the greatest common divisor of its parts is 1
pub record IsLowest (f : Fraction) : Type 0 where
  pub num_positive : 0 < f.num
  pub den_positive : 0 < f.den
  pub no_common_divisor : IsGcd f.num f.den 1

-- f = num/den, multiplied out
abbrev pub IsQuotient : Fraction → ℕ → ℕ → Type 0
IsQuotient f num den = f.num * den ≡ num * f.den

-- neither part of f is greater than that of num/den
abbrev pub IsWithin : Fraction → ℕ → ℕ → Type 0
IsWithin f num den = (f.num ≤ num) × (f.den ≤ den)

-- f is the product x·y in lowest terms
pub record IsProduct (x y f : Fraction) : Type 0 where
  pub lowest : IsLowest f
  pub value : IsQuotient f (x.num * y.num) (x.den * y.den)

-- the product x·y, in lowest terms, does not fit 128 bits in both parts
pub record IsProductTooWide (x y : Fraction) : Type 0 where
  pub product : Fraction
  pub is_product : IsProduct x y product
  pub too_wide : (2 ^ 128 ≤ product.num) ⊎ (2 ^ 128 ≤ product.den)
