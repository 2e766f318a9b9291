-- The square of a whole number, as a natural number: energies are sums of these.
use Rattle.std.specs.Prelude.{ℕ, ◌*◌, ℤ, unsigned_abs}

-- z² = |z|·|z|
abbrev pub square : ℤ → ℕ
square z = unsigned_abs z * unsigned_abs z
