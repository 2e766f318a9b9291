-- The samples of audio: whole numbers of a width in bits, which is that of whole bytes.
use Rattle.std.specs.Prelude.{◌≡◌, ℕ, ◌-◌, ◌^◌, ◌⊎◌, ℤ, pos, ◌-ℤ◌, ◌≤ℤ◌, ◌<ℤ◌}

-- the widths that a sample may have, in bits
abbrev pub IsSampleWidth : ℕ → Type 0
IsSampleWidth bits = (bits ≡ 8) ⊎ (bits ≡ 16) ⊎ (bits ≡ 24) ⊎ (bits ≡ 32)

-- the values of a width: -2^(bits-1) ≤ value < 2^(bits-1)
pub record IsSampleValue (bits : ℕ) (value : ℤ) : Type 0 where
  pub low : (pos 0 -ℤ pos (2 ^ (bits - 1))) ≤ℤ value
  pub high : value <ℤ pos (2 ^ (bits - 1))
