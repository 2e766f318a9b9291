-- A decimal: digits with at most one dot, and the number that it writes.
use Rattle.std.specs.Prelude.{◌≡◌, ℕ, ◌*◌, ◌/◌, ◌^◌, ◌<◌, ◌≤◌, pos, ◌+ℤ◌, ◌-ℤ◌, Bool, true, false, not, ◌&&◌, ◌||◌, ◌==◌, nat_le, if◌then◌else◌, List, length, take, filter, count_by, slice_index, Result, Ok, Err}
use Rattle.std.specs.List.{after_first, list_all, list_any, suffix_len}
use Rattle.std.specs.Char.{is_ascii_digit}
use Rattle.wdf_text.specs.DecimalNumber.{DecimalNumber}
use Rattle.wdf_text.specs.declared.decimal_error.DecimalError.{DecimalError}
use Rattle.wdf_text.specs.declared.decimal_error.DecimalError.TheVariants.{TooLong, BadByte, Empty, TooManyDigits}
use Rattle.wdf_text.specs.Numbers.{digits_of_bytes, number_of}
use Rattle.wdf_text.specs.Significance.{is_zero, significant_count}

abbrev pub is_dot : ℕ → Bool
is_dot byte = byte == 46

-- the bytes of its digits, without the dot
abbrev pub digit_bytes : List ℕ → List ℕ
digit_bytes text = filter is_ascii_digit text

-- how many digits stand behind the dot
abbrev pub places : List ℕ → ℕ
places text = length (after_first is_dot text)

-- the byte at this offset is neither a digit nor the first dot
abbrev pub is_stray : List ℕ → ℕ → Bool
is_stray text at = not (is_ascii_digit (slice_index text at)) && (not (is_dot (slice_index text at)) || list_any is_dot (take at text))

pub record IsFirstStray (text : List ℕ) (at : ℕ) : Type 0 where
  pub within : at < length text
  pub stray : is_stray text at ≡ true
  pub first : (k : ℕ) → k < at → is_stray text k ≡ false

abbrev pub HasNoStray : List ℕ → Type 0
HasNoStray text = (k : ℕ) → k < length text → is_stray text k ≡ false

abbrev pub has_digit : List ℕ → Bool
has_digit text = list_any is_ascii_digit text

-- how many digits stand from the first to the last that is not 0
abbrev pub significant_digits : List ℕ → ℕ
significant_digits text = significant_count (digits_of_bytes (digit_bytes text))

-- a digit or a dot
abbrev pub is_decimal_byte : ℕ → Bool
is_decimal_byte byte = is_ascii_digit byte || is_dot byte

-- digits and at most one dot, at most 40 bytes, some digit, and at most 9 significant ones
abbrev pub is_decimal : List ℕ → Bool
is_decimal text =
    nat_le (length text) 40 && (list_all is_decimal_byte text && (nat_le (count_by is_dot text) 1 && (has_digit text && nat_le (significant_digits text) 9)))

-- how many zeros stand at the end of the digits
abbrev pub zeros_behind : List ℕ → ℕ
zeros_behind text = suffix_len is_zero (digits_of_bytes (digit_bytes text))

-- the number that such a text writes: all its digits without the zeros behind them, and the power of ten of the
-- last one that is left
abbrev pub number_in : List ℕ → DecimalNumber
number_in text =
    let n = number_of (digit_bytes text) in
    record { digits = n / 10 ^ zeros_behind text; exp = if n == 0 then pos 0 else (pos (zeros_behind text) -ℤ pos (places text)) }

-- ---- where each refusal comes: its cause is there, and none before it

abbrev pub IsTooLong : List ℕ → Type 0
IsTooLong text = 40 < length text

abbrev pub HasBadByte : List ℕ → ℕ → Type 0
HasBadByte text at = (length text ≤ 40) × IsFirstStray text at

abbrev pub HasNoDigit : List ℕ → Type 0
HasNoDigit text = (length text ≤ 40) × HasNoStray text × (has_digit text ≡ false)

abbrev pub HasTooManyDigits : List ℕ → Type 0
HasTooManyDigits text = (length text ≤ 40) × HasNoStray text × (has_digit text ≡ true) × (9 < significant_digits text)

abbrev pub RefusesDecimal : List ℕ → DecimalError → Type 0
RefusesDecimal text TooLong = IsTooLong text
RefusesDecimal text (BadByte at) = HasBadByte text at
RefusesDecimal text Empty = HasNoDigit text
RefusesDecimal text TooManyDigits = HasTooManyDigits text

-- ---- what is read

-- 1 to 40 bytes, digits and at most one dot, at least one digit and at most 9 significant ones
abbrev pub IsDecimal : List ℕ → Type 0
IsDecimal text = (length text ≤ 40) × HasNoStray text × (has_digit text ≡ true) × (significant_digits text ≤ 9)

-- q is the number that the text writes: with p digits behind the dot, exp + p is a whole number that is
-- not negative, and digits · 10^(exp + p) is the number of all the digits
pub record IsValueOf (text : List ℕ) (q : DecimalNumber) : Type 0 where
  pub scale : ℕ
  pub place : pos scale ≡ q.exp +ℤ pos (places text)
  pub value : number_of (digit_bytes text) ≡ q.digits * 10 ^ scale

-- the answer to a text
abbrev pub Answers : List ℕ → Result DecimalNumber DecimalError → Type 0
Answers text (Ok q) = IsDecimal text × IsValueOf text q
Answers text (Err e) = RefusesDecimal text e
