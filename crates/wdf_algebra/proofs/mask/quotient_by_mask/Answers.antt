use Rattle.std.proofs.Common.{rules, w64, ℕ, ap, ◌∙◌}
use Rattle.std.specs.Prelude.{ℤ, ◌^◌, ◌+ℤ◌}
use Rattle.std.proofs.lemmas.Int.{to_z-of_z}
use mir.Val.{SFits}
use Rattle.std.proofs.lemmas.Nat.{pow_pos}
use lib.Signed.{shr_z}
use Rattle.wdf_algebra.proofs.MaskLemmas.{masked-truncates}
use Rattle.wdf_algebra.proofs.mask.quotient_by_mask.Goals as goal

pub returns : goal.returns
returns g c =
    let q : ℕ = 2 ^ g.row.K in
    let x : ℤ = c.args.x in
    let f1 : SFits w64 c.args.x = c.ranges.x in
    let f2 : SFits w64 c.sign_mask.result = record { sfits = c.sign_mask.type_inv } in
    let f3 : SFits w64 (c.args.x +ℤ c.sign_mask.result) = search rules in
    let f4 : SFits w64 (shr_z (c.args.x +ℤ c.sign_mask.result) (2 ^ g.row.K)) = search rules in
    let e = simp to_z-of_z at c.sign_mask.ensures in
    simp to_z-of_z (ap (λ (m : ℤ). shr_z (x +ℤ m) q) e ∙ masked-truncates q x (pow_pos g.row.K))
