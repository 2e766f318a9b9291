-- One row more.
use Rattle.std.proofs.Common.{◌≡◌, rules, arith}
use Rattle.wdf_algebra.specs.Squares.{square}
use Rattle.wdf_energy.specs.PortLists.{every_row}
use Rattle.wdf_energy.proofs.ColumnLemmas.{over-below}
use Rattle.wdf_energy.proofs.account.column_squares.Goals as goal

pub overflow_add-total : goal.overflow_add-total
overflow_add-total g c =
    let column = every_row c.args.width c.args.rows.now c.args.column c.args.from in
    let here : c.square-total.result ≡ square (every_row c.args.width c.args.rows.now c.args.column c.args.from c.loop-f.f) = search rules in
    let below = over-below column c.loop-f.f c.args.count c.loop-f-test.true in
    let before = c.loop-f.invariant in
    let room = c.requires.room in
    record { fits = omega arith }
