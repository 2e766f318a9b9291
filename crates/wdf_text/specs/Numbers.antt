-- Decimal digits in ASCII, and the number that they write.
use Rattle.std.specs.Prelude.{ℕ, ◌-◌, ◌^◌, ◌<◌, ◌≤◌, Bool, ◌&&◌, nat_lt, nat_le, List, length, map, IsTrue}
use Rattle.std.specs.Char.{is_ascii_digit}
use Rattle.std.specs.List.{list_all}
use Rattle.std.specs.Int.Digits.{number_from_digits}

-- the digits 0 to 9 of their bytes
abbrev pub digits_of_bytes : List ℕ → List ℕ
digits_of_bytes bytes = map (λ (byte : ℕ). byte - 48) bytes

-- the number that the bytes of digits write, the highest digit first
abbrev pub number_of : List ℕ → ℕ
number_of bytes = number_from_digits 10 (digits_of_bytes bytes)

-- 1 to 20 digits, whose number fits 64 bits; zeros may stand in front
pub record IsWholeNumber (text : List ℕ) : Type 0 where
  pub some : 1 ≤ length text
  pub few : length text ≤ 20
  pub digits : IsTrue (list_all is_ascii_digit text)
  pub fits : number_of text < 2 ^ 64

-- the same as a test
abbrev pub is_whole : List ℕ → Bool
is_whole text = nat_le 1 (length text) && nat_le (length text) 20 && list_all is_ascii_digit text && nat_lt (number_of text) (2 ^ 64)
