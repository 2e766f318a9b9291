-- Three words stay small in units of 1/q.
use Rattle.std.proofs.Common.{◌+◌, ◌≤◌, arith, w64}
use Rattle.std.specs.Prelude.{unsigned_abs}
use Rattle.std.proofs.lemmas.Int.{to_z-of_z}
use mir.Val.{SFits}
use Rattle.wdf_tree.proofs.Sizes.{three_words}
use Rattle.wdf_tree.proofs.junction.series_rest.Goals as goal

pub returns-clause-size : goal.returns-clause-size
returns-clause-size c =
    let f1 : SFits w64 c.args.u1 = c.ranges.u1 in
    let f2 : SFits w64 c.args.u2 = c.ranges.u2 in
    let f3 : SFits w64 c.args.d = c.ranges.d in
    let f4 : SFits w64 c.plus.result = record { sfits = c.plus.type_inv } in
    let f5 : SFits w64 c.minus.result = record { sfits = c.minus.type_inv } in
    let size : unsigned_abs c.plus.result ≤ unsigned_abs c.args.u1 + unsigned_abs c.args.u2 = simp to_z-of_z at c.plus.ensures.size in
    let whole : unsigned_abs c.minus.result ≤ unsigned_abs c.args.d + unsigned_abs c.plus.result = simp to_z-of_z at c.minus.ensures.size in
    simp to_z-of_z (three_words c.args.w.q (unsigned_abs c.args.d) (unsigned_abs c.args.u1) (unsigned_abs c.args.u2) (unsigned_abs c.minus.result) (omega arith) c.requires.sent.1 c.requires.first.1 c.requires.second.1)
