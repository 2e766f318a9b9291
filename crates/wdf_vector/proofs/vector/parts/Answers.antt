-- Each lane by the lemma on it.
use Rattle.std.proofs.Common.{rules, arith, ◌≡◌, ◌∙◌, ◌<◌, ℤ, length, of_z, subst, sym, w64}
use Rattle.std.proofs.lemmas.Simd.{shifts_fit_splat}
use Rattle.wdf_vector.specs.Lanes.{lane}
use Rattle.wdf_vector.proofs.PartLemmas.{part_lane, part_lane-is}
use Rattle.wdf_vector.proofs.VectorLemmas.{parts_of-lane}
use Rattle.wdf_vector.proofs.vector.parts.Goals as goal

pub overflow_shr-floors : goal.overflow_shr-floors
overflow_shr-floors g c = shifts_fit_splat 64 _ g.row.N (of_z w64 c.from.result) (subst (λ (z : ℤ). of_z w64 z < 64) (sym c.from.ensures) (omega arith))

pub overflow_shr-result : goal.overflow_shr-result
overflow_shr-result g c = shifts_fit_splat 64 _ g.row.N 63 (omega arith)

pub returns : goal.returns
returns g c i less =
    let n : length c.args.x ≡ g.row.N = search rules in
    let m : length c.args.wholes ≡ g.row.N = search rules in
    parts_of-lane g.row.N (of_z w64 c.bits_below.result) (of_z w64 c.from.result) c.args.wholes c.args.x i m n less
    ∙ ((λ k. part_lane (of_z w64 (c.bits_below.ensures k)) (of_z w64 (c.from.ensures k)) (lane c.args.wholes i) (lane c.args.x i))
    ∙ part_lane-is g.row.K (lane c.args.wholes i) (lane c.args.x i) c.requires.few (c.requires.wholes i less) (c.requires.small i less))
