use Rattle.std.proofs.Common.{w64, ◌≡◌, ℕ, ap, ◌∙◌}
use Rattle.std.specs.Prelude.{ℤ, pos, ◌-◌, ◌^◌, ◌-ℤ◌}
use Rattle.std.proofs.lemmas.Int.{to_z-of_z}
use mir.Val.{SFits}
use Rattle.std.proofs.lemmas.Nat.{pow_pos}
use Rattle.std.specs.Int.Bits.{bit_and}
use lib.Signed.{shr_z}
use mir.Val.{of_z, to_z}
use Rattle.wdf_algebra.proofs.RoundingLemmas.{one-less}
use Rattle.wdf_algebra.proofs.MaskLemmas.{signs-masked}
use Rattle.wdf_algebra.proofs.mask.sign_mask.Goals as goal

pub returns : goal.returns
returns g c =
    let q : ℕ = 2 ^ g.row.K in
    let x : ℤ = c.args.x in
    let f1 : SFits w64 c.args.x = c.ranges.x in
    let f2 : SFits w64 c.power.result = record { sfits = c.power.type_inv } in
    let less : c.power.result -ℤ pos 1 ≡ pos (q - 1) = ap (λ (a : ℤ). a -ℤ pos 1) c.power.ensures.value ∙ one-less q (pow_pos g.row.K) in
    simp to_z-of_z (ap (λ (a : ℤ). to_z w64 (bit_and (of_z w64 (shr_z x (2 ^ 63))) (of_z w64 a))) less ∙ signs-masked g.row.K x c.requires.few c.requires.size)
