-- Truncation towards zero.
use Rattle.std.specs.Prelude.{ℕ, ℤ, pos, int_div}

-- a / q without its fraction, q a positive number
abbrev pub trunc : ℤ → ℕ → ℤ
trunc a q = int_div a (pos q)
