use Rattle.std.proofs.Common.{w64}
use Rattle.std.proofs.lemmas.Int.{to_z-of_z}
use mir.Val.{SFits}
use Rattle.wdf_algebra.proofs.parts.series_first.Goals as goal

pub returns : goal.returns
returns c q z f =
    let f1 : SFits w64 c.args.u = c.ranges.u in
    let f9 : SFits w64 c.truncated.result = record { sfits = c.truncated.type_inv } in
    let more = simp to_z-of_z at (c.above.ensures q z f) in
    let whole = c.truncated.ensures q _ more in
    simp to_z-of_z (whole)
