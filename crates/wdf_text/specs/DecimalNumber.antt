-- A decimal number that is not negative: digits · 10^exp.
use Rattle.std.specs.Prelude.{◌≡◌, ℕ, ℤ, ◌%◌, pos}

pub record DecimalNumber : Type 0 where
  pub digits : ℕ
  pub exp : ℤ

-- its one form: 0 with exponent 0, or digits that do not end in 0
abbrev pub IsNormal : DecimalNumber → Type 0
IsNormal q = q.digits % 10 ≡ 0 → (q.digits ≡ 0) × (q.exp ≡ pos 0)
