-- The value of a word from its parts.
use Rattle.std.proofs.Common.{◌≡◌, ℕ, ℤ, ◌+ℤ◌, true, List, Some, Result, Ok, Err, refl, sym, ◌∙◌}
use Rattle.wdf_text.specs.DecimalNumber.{DecimalNumber}
use Rattle.wdf_text.specs.Decimals.{is_decimal, number_in}
use Rattle.wdf_netlist.specs.declared.net_kind.NetKind.{NetKind}
use Rattle.wdf_netlist.specs.Values.{HasScaled, HasValue, decimal_of, power_of_unit, scaled_fault, unit_of, value_fault, value_of}

pub scaled_value : (text : List ℕ) (number : DecimalNumber) (power : ℤ) (r : Result DecimalNumber NetKind) → is_decimal (decimal_of text) ≡ true → number ≡ number_in (decimal_of text)
    → power_of_unit (unit_of text) ≡ Some power → HasScaled number power r → HasValue text r
scaled_value text number power (Ok q) test same unit (h, e) =
    let n = number_in (decimal_of text) in
    let fault : value_fault text ≡ scaled_fault number (Some power) = rw (test, unit, same) refl in
    let value : value_of text ≡ record { digits = number.digits; exp = number.exp +ℤ power } = rw (unit, same) refl in
    (fault ∙ h, e ∙ sym value)
scaled_value text number power (Err kind) test same unit h =
    let fault : value_fault text ≡ scaled_fault number (Some power) = rw (test, unit, same) refl in
    fault ∙ h
