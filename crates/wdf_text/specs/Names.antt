-- Names of elements and nodes: 1 to 16 ASCII letters, digits and `_`, and the one name `@`.
use Rattle.std.specs.Prelude.{ℕ, ◌≤◌, Bool, ◌&&◌, ◌||◌, ◌==◌, nat_le, List, [], ◌∷◌, length, IsTrue}
use Rattle.std.specs.Char.{is_ascii_alphanumeric}
use Rattle.std.specs.List.{list_all}
use Rattle.std.specs.Str.{bytes_eq}

-- an ASCII letter, a digit or `_`
abbrev pub is_name_byte : ℕ → Bool
is_name_byte byte = is_ascii_alphanumeric byte || byte == 95

-- 1 to 16 such bytes
pub record IsName (bytes : List ℕ) : Type 0 where
  pub some : 1 ≤ length bytes
  pub few : length bytes ≤ 16
  pub letters : IsTrue (list_all is_name_byte bytes)

-- the same as a test
abbrev pub is_name : List ℕ → Bool
is_name bytes = nat_le 1 (length bytes) && nat_le (length bytes) 16 && list_all is_name_byte bytes

-- the name `@`
abbrev pub at_sign : List ℕ
at_sign = 64 ∷ []

-- what every name is
abbrev pub is_name_or_at_sign : List ℕ → Bool
is_name_or_at_sign bytes = is_name bytes || bytes_eq bytes at_sign
