-- One part of a total, by the whole multiples of the port's number and the rest.
use Rattle.std.proofs.Common.{◌≡◌, ℕ, ◌+◌, ◌*◌, ◌/◌, ◌%◌, ◌^◌, ◌<◌, ap, sym, ◌∙◌, arith}
use Rattle.std.proofs.Math.Nat.{mul-add-div, div-add-mod}
use Rattle.wdf_energy.specs.Totals.{part}

pub part_split : (s p : ℕ) → 0 < p → s / p * 2 ^ 40 + s % p * 2 ^ 40 / p ≡ part s p
part_split s p some =
    let whole : p * (s / p) + s % p ≡ s = div-add-mod s p in
    let e : p * (s / p * 2 ^ 40) + s % p * 2 ^ 40 ≡ s * 2 ^ 40 = omega arith in
    sym (mul-add-div some (s / p * 2 ^ 40) (s % p * 2 ^ 40)) ∙ ap (λ (x : ℕ). x / p) e
