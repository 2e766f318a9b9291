use Rattle.std.proofs.Common.{rules, w64}
use Rattle.std.specs.Prelude.{◌+ℤ◌}
use Rattle.std.proofs.lemmas.Int.{to_z-of_z}
use mir.Val.{SFits}
use Rattle.wdf_algebra.proofs.RoundingLemmas.{rounds-more}
use Rattle.wdf_loop.proofs.sums.raised.Goals as goal

pub returns : goal.returns
returns c q z f =
    let f1 : SFits w64 c.args.whole = c.ranges.whole in
    let f2 : SFits w64 c.args.number.floor = search rules in
    let f3 : SFits w64 c.args.number.ceiling = search rules in
    let f4 : SFits w64 (c.args.whole +ℤ c.args.number.floor) = search rules in
    let f5 : SFits w64 (c.args.whole +ℤ c.args.number.ceiling) = search rules in
    let f6 : SFits w64 c.truncated.result = record { sfits = c.truncated.type_inv } in
    simp to_z-of_z (c.truncated.ensures q _ (simp to_z-of_z (rounds-more q c.args.whole z c.args.number.floor c.args.number.ceiling f)))
