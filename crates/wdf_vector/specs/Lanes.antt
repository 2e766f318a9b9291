-- Four numbers at once, each in a lane of its own.
use Rattle.std.specs.Prelude.{ℕ, ℤ, pos, List, slice_index_or}

-- the number in the lane c
abbrev pub lane : List ℤ → ℕ → ℤ
lane xs c = slice_index_or xs c (pos 0)
