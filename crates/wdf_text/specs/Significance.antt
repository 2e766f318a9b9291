-- The significant digits of a list of digits: those from the first to the last that is not 0.
use Rattle.std.specs.Prelude.{◌≡◌, ℕ, ◌+◌, ◌-◌, ◌*◌, ◌%◌, ◌^◌, ◌<◌, ◌≤◌, Bool, ◌==◌, List, length}
use Rattle.std.specs.List.{prefix_len, suffix_len}
use Rattle.std.specs.Int.Digits.{number_from_digits}

abbrev pub is_zero : ℕ → Bool
is_zero d = d == 0

-- all digits but the zeros in front and the zeros behind; 0 where all are zeros
abbrev pub significant_count : List ℕ → ℕ
significant_count ds = length ds - prefix_len is_zero ds - suffix_len is_zero ds

-- these are the significant digits of a list of digits: their number, how many they are, and how many
-- zeros stand behind them; all three are 0 where all digits are zeros. They are at most 9
pub record IsSignificant (ds : List ℕ) (digits count zeros : ℕ) : Type 0 where
  pub few : count ≤ 9
  pub small : digits < 10 ^ count
  pub value : number_from_digits 10 ds ≡ digits * 10 ^ zeros
  pub all : length ds ≡ prefix_len is_zero ds + count + zeros
  pub none : digits ≡ 0 → count + zeros ≡ 0
  pub last : 0 < digits → 0 < digits % 10
  pub some : 0 < digits → 0 < count
  pub behind : 0 < digits → suffix_len is_zero ds ≡ zeros
