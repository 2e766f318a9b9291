use Rattle.std.proofs.Common.{rules, w64}
use Rattle.std.specs.Prelude.{pos, ◌-ℤ◌}
use Rattle.std.proofs.lemmas.Int.{to_z-of_z}
use mir.Val.{SFits}
use Rattle.wdf_algebra.proofs.RoundingLemmas.{rounds-negated}
use Rattle.wdf_algebra.proofs.rounding.Rounded.negated.Goals as goal

pub returns-clause-rounds : goal.returns-clause-rounds
returns-clause-rounds c q z f =
    let f1 : SFits w64 c.args.self.floor = search rules in
    let f2 : SFits w64 c.args.self.ceiling = search rules in
    let f3 : SFits w64 (pos 0 -ℤ c.args.self.floor) = search rules in
    let f4 : SFits w64 (pos 0 -ℤ c.args.self.ceiling) = search rules in
    simp to_z-of_z (rounds-negated q z c.args.self.floor c.args.self.ceiling f)
