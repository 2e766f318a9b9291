-- The port resistance of an element under the trapezoidal rule at a rate of F frames per second:
--   R of a resistor or a source,  2·L·F of an inductor,  1/(2·C·F) of a capacitor, in ohms.
-- It is counted by its ratio to the resistance of source 0, in units of 2^-40, rounded once: the nearest whole number,
-- half up. A ratio may be in 1..=2^62.
use Rattle.std.specs.Prelude.{◌≡◌, ℕ, ◌*◌, ◌<◌, ◌^◌, ℤ, pos, neg_ℤ, ◌-ℤ◌, Bool, true, false, ◌==◌, nat_le, if◌then◌else◌, Option, None, Some, List, [], Result, Ok, Err, slice_index_or}
use Rattle.wdf_text.specs.DecimalNumber.{DecimalNumber}
use Rattle.wdf_frac.specs.Units.{units_of}
use Rattle.wdf_frac.specs.declared.scaled.Scaled.{Scaled}
use Rattle.wdf_frac.specs.declared.scaled.Scaled.TheVariants.{Low, High, At}
use Rattle.wdf_law.specs.declared.kind.Kind.{Kind}
use Rattle.wdf_law.specs.declared.kind.Kind.TheVariants.{Res, Cap, Ind, Src}
use Rattle.wdf_law.specs.PortOutline.{IsRatio}
use Rattle.wdf_netlist.specs.declared.element.Element.{Element}
use Rattle.wdf_netlist.specs.Circuits.{first_source}
use Rattle.wdf_ports.specs.declared.port_fault.PortFault.{PortFault}
use Rattle.wdf_ports.specs.declared.port_fault.PortFault.TheVariants.{Range, NoMemory}

-- num/den · 10^tens ohms
pub record Ohms : Type 0 where
  pub num : ℕ
  pub den : ℕ
  pub tens : ℤ

-- the port resistance of an element of this kind and value, which is in ohms, henries or farads
abbrev pub port_resistance : ℕ → Kind → DecimalNumber → Ohms
port_resistance rate Res value = record { num = value.digits; den = 1; tens = value.exp }
port_resistance rate Src value = record { num = value.digits; den = 1; tens = value.exp }
port_resistance rate Ind value = record { num = 2 * rate * value.digits; den = 1; tens = value.exp }
port_resistance rate Cap value = record { num = 1; den = 2 * rate * value.digits; tens = neg_ℤ value.exp }

-- its ratio to the resistance of a source, in units of 2^-40
abbrev pub ratio_over : Ohms → DecimalNumber → ℕ
ratio_over r source = units_of r.num (r.den * source.digits) (r.tens -ℤ source.exp)

-- an element by its number
abbrev pub element_at : List Element → ℕ → Element
element_at elements i = slice_index_or elements i (record { name = []; kind = Res; from = 0; to = 0; value = record { digits = 0; exp = pos 0 } })

-- the ratio of the port of an element of a circuit
abbrev pub element_ratio : ℕ → List Element → ℕ → ℕ
element_ratio rate elements i =
    ratio_over (port_resistance rate (element_at elements i).kind (element_at elements i).value) (element_at elements (first_source elements)).value

-- ---- ratios out of range

-- how a ratio is out of range: the port's element, and whether it is too low
abbrev pub out_of_range : ℕ → ℕ → Option (ℕ × Bool)
out_of_range elem ratio = if ratio == 0 then Some (elem, true) else if nat_le ratio (2 ^ 62) then None else Some (elem, false)

-- the whole number u, or that it is too low or too high for a ratio
abbrev pub GivesUnits : ℕ → Scaled → Type 0
GivesUnits u Low = u ≡ 0
GivesUnits u High = 2 ^ 62 < u
GivesUnits u (At y) = (y ≡ u) × IsRatio u

-- the ratio where it is in range, or how it is out of it
abbrev pub GivesRatio : ℕ → ℕ → Result ℕ PortFault → Type 0
GivesRatio elem ratio (Ok r) = (r ≡ ratio) × IsRatio ratio × (out_of_range elem ratio ≡ None)
GivesRatio elem ratio (Err (Range element low)) = out_of_range elem ratio ≡ Some (element, low)
GivesRatio elem ratio (Err NoMemory) = ⊥
