-- How a sample stands in the bytes of a wave: at 8 bits as an unsigned number whose middle is 128,
-- at 16, 24 and 32 bits in two's complement, the lowest byte first.
use Rattle.std.specs.Prelude.{ℕ, ◌-◌, ◌/◌, ◌^◌, ◌==◌, if◌then◌else◌, nat_lt, List, ℤ, pos, ◌+ℤ◌, ◌-ℤ◌, int_lt, unsigned_abs}
use Rattle.byteorder.specs.Endian.{little_bytes, little_number}

-- the value for which the number n below 2^bits stands:
-- n - 128 at 8 bits; else n, and from 2^(bits-1) on n - 2^bits
abbrev pub value_of_code : ℕ → ℕ → ℤ
value_of_code bits n =
    if bits == 8 then pos n -ℤ pos 128
    else (if nat_lt n (2 ^ (bits - 1)) then pos n else pos n -ℤ pos (2 ^ bits))

-- the number below 2^bits that stands for a value:
-- value + 128 at 8 bits; else value, and below 0 value + 2^bits
abbrev pub code_of_value : ℕ → ℤ → ℕ
code_of_value bits value = unsigned_abs
    (if bits == 8 then value +ℤ pos 128
    else (if int_lt value (pos 0) then value +ℤ pos (2 ^ bits) else value))

-- the value of a sample of bits / 8 bytes
unfoldable pub sample_value : ℕ → List ℕ → ℤ
sample_value bits bytes = value_of_code bits (little_number (bits / 8) bytes)

-- the bits / 8 bytes of a value
unfoldable pub sample_coding : ℕ → ℤ → List ℕ
sample_coding bits value = little_bytes (bits / 8) (code_of_value bits value)
