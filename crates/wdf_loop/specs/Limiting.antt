-- When an output value is limited: where what the load wave w comes to, w / 2^down towards zero, is not a
-- value of bits bits, -2^(bits-1)..=2^(bits-1) - 1.
use Rattle.std.specs.Prelude.{ℕ, ◌-◌, ◌^◌, ℤ, pos, neg_ℤ, Bool, ◌||◌, not, int_lt}
use Rattle.wdf_algebra.specs.Truncation.{trunc}

-- z < -2^(bits-1) or 2^(bits-1) ≤ z
abbrev pub is_outside : ℕ → ℤ → Bool
is_outside bits z = int_lt z (neg_ℤ (pos (2 ^ (bits - 1)))) || not (int_lt z (pos (2 ^ (bits - 1))))

abbrev pub is_limited : ℕ → ℕ → ℤ → Bool
is_limited down bits w = is_outside bits (trunc w (2 ^ down))
