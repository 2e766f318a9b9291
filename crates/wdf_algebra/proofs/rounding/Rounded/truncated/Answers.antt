use Rattle.std.proofs.Common.{rules, w64}
use Rattle.std.proofs.lemmas.Int.{to_z-of_z}
use mir.Val.{SFits}
use Rattle.wdf_algebra.proofs.RoundingLemmas.{truncates-down, truncates-up}
use Rattle.wdf_algebra.proofs.rounding.Rounded.truncated.Goals as goal

pub returns-then-self-lt0 : goal.returns-then-self-lt0
returns-then-self-lt0 c q z f =
    let f1 : SFits w64 c.args.self.floor = search rules in
    let f2 : SFits w64 c.args.self.ceiling = search rules in
    let t = simp to_z-of_z at c.if-self-lt0.true in
    simp to_z-of_z (truncates-up q z c.args.self.floor c.args.self.ceiling t f)

pub returns-else-self-lt0 : goal.returns-else-self-lt0
returns-else-self-lt0 c q z f =
    let f1 : SFits w64 c.args.self.floor = search rules in
    let t = simp to_z-of_z at c.if-self-lt0.false in
    simp to_z-of_z (truncates-down q z c.args.self.floor c.args.self.ceiling t f)
