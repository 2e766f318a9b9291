-- q divides what is truncated.
use Rattle.std.proofs.Common.{refl, sym, ◌∙◌, w64}
use Rattle.std.specs.Prelude.{pos, ◌+ℤ◌, ◌*ℤ◌}
use Rattle.std.proofs.lemmas.Int.{to_z-of_z}
use mir.Val.{SFits}
use Rattle.wdf_algebra.proofs.Truncations.{exact-trunc}
use Rattle.wdf_tree.proofs.Sizes.{unit_some}
use Rattle.wdf_tree.proofs.junction.series_up.Goals as goal

pub returns : goal.returns
returns c =
    let f1 : SFits w64 c.args.u1 = c.ranges.u1 in
    let f2 : SFits w64 c.args.u2 = c.ranges.u2 in
    let f3 : SFits w64 c.plus.result = record { sfits = c.plus.type_inv } in
    let some = unit_some c.args.w.q c.args.w.k c.args.w.unit in
    let sum = simp to_z-of_z at c.plus.ensures.value in
    simp to_z-of_z (sum ∙ sym (exact-trunc (pos c.args.w.q *ℤ (c.args.u1 +ℤ c.args.u2)) (c.args.u1 +ℤ c.args.u2) c.args.w.q some refl))
