-- Ohm's law and the trapezoidal rule at an element whose port has the wave u that it reflects and the wave
-- d that it is sent: its voltage is V = d + u and its current J = d - u, in units of half a wave and of g.
-- Of the frame before, whose voltage and current are v and j, only v + j = 2·x counts: x is the element's
-- state, the down wave of the frame before, and 0 at rest.
use Rattle.std.specs.Prelude.{◌≡◌, ℤ, pos, ◌+ℤ◌, ◌-ℤ◌, ◌*ℤ◌, neg_ℤ, Bool, true, false}
use Rattle.wdf_law.specs.declared.kind.Kind.{Kind}
use Rattle.wdf_law.specs.declared.kind.Kind.TheVariants.{Res, Cap, Ind, Src}

-- a value, negated where the leaf is flipped
abbrev pub signed : Bool → ℤ → ℤ
signed true z = neg_ℤ z
signed false z = z

-- V = J
pub record IsResistor (u d : ℤ) : Type 0 where
  pub ohm : d +ℤ u ≡ d -ℤ u

-- V - J = 2·e, with the source's polarity
pub record IsSource (e u d : ℤ) : Type 0 where
  pub drives : (d +ℤ u) -ℤ (d -ℤ u) ≡ pos 2 *ℤ e

-- V - v = J + j
pub record IsCapacitor (x u d : ℤ) : Type 0 where
  pub trapezoid : (v j : ℤ) → v +ℤ j ≡ pos 2 *ℤ x → (d +ℤ u) -ℤ v ≡ (d -ℤ u) +ℤ j

-- J - j = V + v
pub record IsInductor (x u d : ℤ) : Type 0 where
  pub trapezoid : (v j : ℤ) → v +ℤ j ≡ pos 2 *ℤ x → (d -ℤ u) -ℤ j ≡ (d +ℤ u) +ℤ v

-- the law of an element of this kind, with the state x and the source's value e
abbrev pub ObeysElementLaw : Kind → Bool → ℤ → ℤ → ℤ → ℤ → Type 0
ObeysElementLaw Res flip x e u d = IsResistor u d
ObeysElementLaw Src flip x e u d = IsSource (signed flip e) u d
ObeysElementLaw Cap flip x e u d = IsCapacitor x u d
ObeysElementLaw Ind flip x e u d = IsInductor x u d
