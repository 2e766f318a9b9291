-- The multiplier of an adaptor, in units of 1/q, by the port ratios r1 and r2 of its parts.
use Rattle.std.specs.Prelude.{ℕ, ◌+◌, ◌-◌, ◌*◌, min, max, Bool, if◌then◌else◌}
use Rattle.wdf_frac.specs.Units.{nearest}

-- the nearest whole number, half up, to q·x/(r1 + r2), limited to 1..=q-1; x is r1 for a series adaptor, and r2 for a
-- parallel one and for the root
abbrev pub multiplier : ℕ → Bool → ℕ → ℕ → ℕ
multiplier q series r1 r2 = max 1 (min (q - 1) (nearest (q * (if series then r1 else r2)) (r1 + r2)))
