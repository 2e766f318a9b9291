-- The junctions solved: the values that leave them, in units of 1/q, by the waves that their parts reflect and the
-- wave d that they are sent. The multipliers are m of the first part and n of the second, with m + n = q.
use Rattle.std.specs.Prelude.{ℕ, ℤ, pos, ◌+ℤ◌, ◌-ℤ◌, ◌*ℤ◌}

-- a series junction, to its own port: q·(u1 + u2)
abbrev pub series_value : (q : ℕ) (u1 u2 : ℤ) → ℤ
series_value q u1 u2 = pos q *ℤ (u1 +ℤ u2)

-- and to the part whose wave is u and whose multiplier is m: q·u + m·(d - (u1 + u2))
abbrev pub series_part : (q m : ℕ) (u1 u2 d u : ℤ) → ℤ
series_part q m u1 u2 d u = pos q *ℤ u +ℤ pos m *ℤ (d -ℤ (u1 +ℤ u2))

-- a parallel junction, to its own port: m·u1 + n·u2
abbrev pub parallel_value : (m n : ℕ) (u1 u2 : ℤ) → ℤ
parallel_value m n u1 u2 = pos m *ℤ u1 +ℤ pos n *ℤ u2

-- and to the part whose wave is u: q·d + (m·u1 + n·u2) - q·u
abbrev pub parallel_part : (q m n : ℕ) (u1 u2 d u : ℤ) → ℤ
parallel_part q m n u1 u2 d u = pos q *ℤ d +ℤ parallel_value m n u1 u2 -ℤ pos q *ℤ u

-- the root, to the port whose wave is u: 2·(m·u1 + n·u2) - q·u
abbrev pub root_value : (q m n : ℕ) (u1 u2 u : ℤ) → ℤ
root_value q m n u1 u2 u = pos 2 *ℤ (pos m *ℤ u1 +ℤ pos n *ℤ u2) -ℤ pos q *ℤ u
