use Rattle.std.proofs.Common.{◌<◌, ◌≤◌, ◌*◌, length, sym, subst, arith}
use Rattle.wdf_residue.specs.declared.elimination.Elimination.TheVariants.{Kernel}
use Rattle.wdf_residue.specs.Matrix.{Entries}
use Rattle.wdf_residue.specs.Elimination.{Eliminates}
use Rattle.wdf_cert.proofs.Sizes.{columns-le, rows-le}
use Rattle.wdf_cert.proofs.making.make.Goals as goal

pub eliminate-requires : goal.eliminate-requires
eliminate-requires c =
    let same = c.in_ok-matrix.ensures in
    let most : length c.in_ok-matrix.matrix.rows ≤ 128 * 128 = subst (λ (m : Entries). length m.rows ≤ 128 * 128) (sym same) (rows-le c.args.net.now c.rules.ensures) in
    omega arith

pub overflow_cast-result : goal.overflow_cast-result
overflow_cast-result c =
    let same = c.in_ok-matrix.ensures in
    let few : c.in_ok-matrix.matrix.columns ≤ 128 = subst (λ (m : Entries). m.columns ≤ 128) (sym same) (columns-le c.args.net.now c.rules.ensures) in
    let found = c.in_ok-rows.ensures in
    let is : Eliminates c.in_ok-matrix.matrix (Kernel c.in-Kernel.column c.in-Kernel.vector) = subst (Eliminates c.in_ok-matrix.matrix) c.in-Kernel.is found in
    let place : c.in-Kernel.column < c.in_ok-matrix.matrix.columns = is.dependence.place in
    omega arith
