use Rattle.std.proofs.Common.{rules, w64, ap, ◌∙◌}
use Rattle.std.specs.Prelude.{ℤ, pos, ◌+ℤ◌}
use Rattle.std.proofs.lemmas.Int.{to_z-of_z}
use mir.Val.{SFits}
use Rattle.std.specs.Prelude.{◌*ℤ◌}
use Rattle.wdf_algebra.specs.Truncation.{trunc}
use Rattle.wdf_algebra.proofs.RoundingLemmas.{series-same}
use Rattle.wdf_algebra.proofs.parts.series_second.Goals as goal

pub returns : goal.returns
returns c q m n e f =
    let f1 : SFits w64 c.args.u = c.ranges.u in
    let f2 : SFits w64 c.args.whole = c.ranges.whole in
    let f3 : SFits w64 (c.args.u +ℤ c.args.whole) = search rules in
    let f9 : SFits w64 c.truncated.result = record { sfits = c.truncated.type_inv } in
    let turned = c.negated.ensures.rounds q (pos m *ℤ c.args.whole) f in
    let more = simp to_z-of_z at (c.above.ensures q _ turned) in
    let whole = c.truncated.ensures q _ more in
    simp to_z-of_z (whole ∙ ap (λ (a : ℤ). trunc a q) (series-same q m n c.args.whole c.args.u e))
