-- A value: a decimal, which is the longest front of digits and dots, and a unit behind it.
use Rattle.std.specs.Prelude.{◌≡◌, ℕ, ℤ, pos, negsuc, ◌+ℤ◌, int_le, Bool, ◌&&◌, ◌==◌, if◌then◌else◌, List, [], ◌∷◌, take, drop, Option, Some, None, unwrap_or, Result, Ok, Err}
use Rattle.std.specs.List.{prefix_len}
use Rattle.wdf_text.specs.DecimalNumber.{DecimalNumber}
use Rattle.wdf_text.specs.Decimals.{is_decimal, is_decimal_byte, number_in}
use Rattle.wdf_netlist.specs.declared.net_kind.NetKind.{NetKind}
use Rattle.wdf_netlist.specs.declared.net_kind.NetKind.TheVariants.{BadValue, UnknownUnit, ZeroValue}

abbrev pub decimal_of : List ℕ → List ℕ
decimal_of text = take (prefix_len is_decimal_byte text) text

abbrev pub unit_of : List ℕ → List ℕ
unit_of text = drop (prefix_len is_decimal_byte text) text

-- the power of ten of a unit's letter: p, n, u, m, k, M
abbrev pub power_of_letter : ℕ → Option ℤ
power_of_letter b =
    if b == 112 then Some (negsuc 11)
    else (if b == 110 then Some (negsuc 8)
    else (if b == 117 then Some (negsuc 5)
    else (if b == 109 then Some (negsuc 2)
    else (if b == 107 then Some (pos 3)
    else (if b == 77 then Some (pos 6)
    else None)))))

-- the power of ten of a unit; no unit is 10^0
abbrev pub power_of_unit : List ℕ → Option ℤ
power_of_unit [] = Some (pos 0)
power_of_unit (b ∷ []) = power_of_letter b
power_of_unit (_ ∷ _ ∷ _) = None

-- the exponent of a value is in -18..=9
abbrev pub is_exponent : ℤ → Bool
is_exponent exp = int_le (negsuc 17) exp && int_le exp (pos 9)

-- the fault of a number with a unit of this power
abbrev pub scaled_fault : DecimalNumber → Option ℤ → Option NetKind
scaled_fault n None = Some UnknownUnit
scaled_fault n (Some power) = if n.digits == 0 then Some ZeroValue else (if is_exponent (n.exp +ℤ power) then None else Some BadValue)

-- the fault of a word as a value
abbrev pub value_fault : List ℕ → Option NetKind
value_fault text = if is_decimal (decimal_of text) then scaled_fault (number_in (decimal_of text)) (power_of_unit (unit_of text)) else Some BadValue

-- the value of a word that has no such fault
abbrev pub value_of : List ℕ → DecimalNumber
value_of text = let n = number_in (decimal_of text) in record { digits = n.digits; exp = n.exp +ℤ unwrap_or (power_of_unit (unit_of text)) (pos 0) }

-- the value of a word, or its fault
abbrev pub HasValue : List ℕ → Result DecimalNumber NetKind → Type 0
HasValue text (Ok q) = (value_fault text ≡ None) × (q ≡ value_of text)
HasValue text (Err kind) = value_fault text ≡ Some kind

-- a number times a power of ten as a value, or its fault
abbrev pub HasScaled : DecimalNumber → ℤ → Result DecimalNumber NetKind → Type 0
HasScaled n power (Ok q) = (scaled_fault n (Some power) ≡ None) × (q ≡ record { digits = n.digits; exp = n.exp +ℤ power })
HasScaled n power (Err kind) = scaled_fault n (Some power) ≡ Some kind
