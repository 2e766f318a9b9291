-- The waves that the engine's words of 64 bits hold: those whose magnitude is at most 2^60 in whole units and in
-- units of 1/q, so that every value which a junction forms of them stays below 2^63.
use Rattle.std.specs.Prelude.{ℕ, ◌*◌, ◌^◌, ◌≤◌, ℤ, unsigned_abs}

-- |z| ≤ 2^60 and q·|z| ≤ 2^60
abbrev pub IsWord : ℕ → ℤ → Type 0
IsWord q z = (unsigned_abs z ≤ 2 ^ 60) × (q * unsigned_abs z ≤ 2 ^ 60)
