-- Kirchhoff's laws at a junction before truncation. u1, u2 are the waves that its parts reflect, d is the
-- wave that it is sent, and b1, b2, b are the outgoing values to the parts and to its own port, counted in
-- units of 1/q. At a part's port the voltage is q·u + b and the current g·(b - q·u); at the junction's own
-- port they are q·d + b and g·(q·d - b), in units of 1/q and of half a wave.
use Rattle.std.specs.Prelude.{◌≡◌, ℕ, ℤ, pos, ◌+ℤ◌, ◌-ℤ◌, ◌*ℤ◌}
use Rattle.wdf_algebra.specs.Truncation.{trunc}

-- one voltage, and the currents into the parts add to the current in
pub record IsParallel (q g1 g2 g : ℕ) (u1 u2 d b1 b2 b : ℤ) : Type 0 where
  pub first : pos q *ℤ u1 +ℤ b1 ≡ pos q *ℤ d +ℤ b
  pub second : pos q *ℤ u2 +ℤ b2 ≡ pos q *ℤ d +ℤ b
  pub currents : pos g1 *ℤ (b1 -ℤ pos q *ℤ u1) +ℤ pos g2 *ℤ (b2 -ℤ pos q *ℤ u2) ≡ pos g *ℤ (pos q *ℤ d -ℤ b)

-- one current, and the voltages of the parts add to the voltage
pub record IsSeries (q g1 g2 g : ℕ) (u1 u2 d b1 b2 b : ℤ) : Type 0 where
  pub first : pos g1 *ℤ (b1 -ℤ pos q *ℤ u1) ≡ pos g *ℤ (pos q *ℤ d -ℤ b)
  pub second : pos g2 *ℤ (b2 -ℤ pos q *ℤ u2) ≡ pos g *ℤ (pos q *ℤ d -ℤ b)
  pub voltages : pos q *ℤ d +ℤ b ≡ (pos q *ℤ u1 +ℤ b1) +ℤ (pos q *ℤ u2 +ℤ b2)

-- the root joins two trees: one voltage, and the currents into them add to zero
pub record IsRoot (q g1 g2 : ℕ) (u1 u2 b1 b2 : ℤ) : Type 0 where
  pub voltages : pos q *ℤ u1 +ℤ b1 ≡ pos q *ℤ u2 +ℤ b2
  pub currents : pos g1 *ℤ (b1 -ℤ pos q *ℤ u1) +ℤ pos g2 *ℤ (b2 -ℤ pos q *ℤ u2) ≡ pos 0

-- each wave that leaves is the outgoing value in whole units, truncated towards zero: the down waves d1
-- and d2 of the parts and the junction's up wave u
pub record Truncates (q : ℕ) (u d1 d2 b1 b2 b : ℤ) : Type 0 where
  pub first : d1 ≡ trunc b1 q
  pub second : d2 ≡ trunc b2 q
  pub up : u ≡ trunc b q
