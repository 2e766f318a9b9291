use Rattle.std.proofs.Common.{◌++◌}
use Rattle.std.specs.Prelude.{codes, decimal}
use Rattle.wdf_law.specs.Trees.{adaptor_tree}
use Rattle.wdf_reporting.specs.ReportText.{junction_lines}
use Rattle.wdf_reporting.proofs.LineLemmas.{junction_told}
use Rattle.wdf_reporting.proofs.junctions.+push_junctions.Goals as goal

pub returns-in_ok-push_junctions-in-Series-2 : goal.returns-in_ok-push_junctions-in-Series-2
returns-in_ok-push_junctions-in-Series-2 t c =
    let it = c.in-Series in
    let line = rw c.from.ensures at c.in_ok-push_number_line-in-Series.ensures in
    let first = rw c.deref.ensures at c.in_ok-push_junctions-in-Series.ensures in
    let second = rw c.deref-in-Series.ensures at c.in_ok-push_junctions-in-Series-2.ensures in
    rw it.is (junction_told (codes "junction series " ++ decimal it.m) (junction_lines (adaptor_tree it.l.value)) (junction_lines (adaptor_tree it.r.value)) _ _ _ _ line first second)

pub returns-in_ok-push_junctions-in-Parallel-2 : goal.returns-in_ok-push_junctions-in-Parallel-2
returns-in_ok-push_junctions-in-Parallel-2 t c =
    let it = c.in-Parallel in
    let line = rw c.from-in-Parallel.ensures at c.in_ok-push_number_line-in-Parallel.ensures in
    let first = rw c.deref-in-Parallel.ensures at c.in_ok-push_junctions-in-Parallel.ensures in
    let second = rw c.deref-in-Parallel-2.ensures at c.in_ok-push_junctions-in-Parallel-2.ensures in
    rw it.is (junction_told (codes "junction parallel " ++ decimal it.m) (junction_lines (adaptor_tree it.l.value)) (junction_lines (adaptor_tree it.r.value)) _ _ _ _ line first second)
