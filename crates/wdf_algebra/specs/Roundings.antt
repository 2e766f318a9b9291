-- The quotient of a number by a positive one, rounded down and rounded up.
use Rattle.std.specs.Prelude.{◌≡◌, ℕ, ◌<◌, ◌≤◌, ◌^◌, ℤ, pos, ◌+ℤ◌, ◌*ℤ◌, unsigned_abs}
use Rattle.wdf_algebra.specs.declared.rounding.Rounded.{Rounded}

-- z = q·floor + over and z + under = q·ceiling, where over and under are less than q
pub record Rounds (q : ℕ) (z floor ceiling : ℤ) : Type 0 where
  pub over : ℕ
  pub down : z ≡ pos q *ℤ floor +ℤ pos over
  pub over_less : over < q
  pub under : ℕ
  pub up : z +ℤ pos under ≡ pos q *ℤ ceiling
  pub under_less : under < q

-- neither is over 2^62 in magnitude
pub record IsSmall (r : Rounded) : Type 0 where
  pub floor : unsigned_abs r.floor ≤ 2 ^ 62
  pub ceiling : unsigned_abs r.ceiling ≤ 2 ^ 62
