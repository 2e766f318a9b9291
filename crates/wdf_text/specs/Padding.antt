-- How bytes lie at the front of a room of fixed size: with zeros behind them.
use Rattle.std.specs.Prelude.{◌≡◌, ℕ, ◌-◌, ◌≤◌, List, ◌++◌, length, take, replicate, IsTrue}
use Rattle.wdf_text.specs.Names.{is_name_or_at_sign}

abbrev pub padded_to : ℕ → List ℕ → List ℕ
padded_to room bytes = bytes ++ replicate (room - length bytes) 0

-- the first `len` of the bytes, which fill the room, with zeros behind them
pub record IsPadded (room : ℕ) (bytes : List ℕ) (len : ℕ) : Type 0 where
  pub fits : len ≤ room
  pub rest : padded_to room (take len bytes) ≡ bytes
  pub long : length bytes ≡ room

-- a name in its 16 bytes
abbrev pub padded : List ℕ → List ℕ
padded bytes = padded_to 16 bytes

pub record IsPaddedName (bytes : List ℕ) (len : ℕ) : Type 0 where
  pub some : 1 ≤ len
  pub padded : IsPadded 16 bytes len
  pub letters : IsTrue (is_name_or_at_sign (take len bytes))
