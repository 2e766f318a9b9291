-- A power of two, less one.
use Rattle.std.proofs.Common.{◌≡◌, ℕ, ◌-◌, ◌*◌, ◌%◌, ◌^◌, ◌<◌, ap, ◌∙◌, subst, sym, arith, to_z, of_z, w64, ℤ, ◌-ℤ◌}
use Rattle.std.specs.Prelude.{pos, FitsSigned}
use Rattle.std.proofs.lemmas.Int.{to_z_pos, ints}
use Rattle.std.proofs.lemmas.Nat.{one_shl, pow_below, pow_pos}
use Rattle.wdf_vector.proofs.vector.bits_below.Goals as goal

unit_is : (k : ℕ) → k < 63 → to_z w64 (1 * 2 ^ k % 18446744073709551616) ≡ pos (2 ^ k)
unit_is k h = ap (to_z w64) (one_shl k 64 (omega arith)) ∙ to_z_pos w64 (2 ^ k) (pow_below k 63 h)

less_one : (k : ℕ) → k < 63 → to_z w64 (1 * 2 ^ k % 18446744073709551616) -ℤ pos 1 ≡ pos (2 ^ k - 1)
less_one k h =
    let e = unit_is k h in
    let some = pow_pos k in
    omega (arith, ints)

pub overflow_sub-result : goal.overflow_sub-result
overflow_sub-result g c =
    let few = pow_below g.row.K 63 (omega arith) in
    subst (λ (z : ℤ). FitsSigned w64 z) (sym (less_one g.row.K (omega arith))) (record { sfits = omega arith })

pub returns : goal.returns
returns g c =
    let few = pow_below g.row.K 63 (omega arith) in
    ap (λ (z : ℤ). to_z w64 (of_z w64 z)) (less_one g.row.K (omega arith)) ∙ to_z_pos w64 (2 ^ g.row.K - 1) (omega arith)
