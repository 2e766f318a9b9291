use Rattle.std.proofs.Common.{rules, w64}
use Rattle.std.specs.Prelude.{◌+ℤ◌}
use Rattle.std.proofs.lemmas.Int.{to_z-of_z}
use mir.Val.{SFits}
use Rattle.wdf_algebra.proofs.RoundingLemmas.{rounds-more}
use Rattle.wdf_algebra.proofs.rounding.Rounded.above.Goals as goal

pub returns : goal.returns
returns c q z f =
    let f1 : SFits w64 c.args.whole = c.ranges.whole in
    let f2 : SFits w64 c.args.self.floor = search rules in
    let f3 : SFits w64 c.args.self.ceiling = search rules in
    let f4 : SFits w64 (c.args.whole +ℤ c.args.self.floor) = search rules in
    let f5 : SFits w64 (c.args.whole +ℤ c.args.self.ceiling) = search rules in
    simp to_z-of_z (rounds-more q c.args.whole z c.args.self.floor c.args.self.ceiling f)
