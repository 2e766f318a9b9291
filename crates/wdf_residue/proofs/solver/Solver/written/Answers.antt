use Rattle.std.proofs.Common.{◌≡◌, ◌++◌, List, ℕ, sym, ap, ◌∙◌}
use Rattle.wdf_residue.specs.Matrix.{column_entries}
use Rattle.wdf_residue.specs.Solving.{Reduction}
use Rattle.wdf_residue.proofs.Ends.{written-more}
use Rattle.wdf_residue.proofs.solver.Solver.written.Goals as goal

pub loop-i-preserved : goal.loop-i-preserved
loop-i-preserved c =
    let more = written-more c.args.self.now.solved c.loop-i.i in
    let pushed = c.in_ok-extend_from_slice.ensures.items in
    let made = c.in_ok-column.ensures.value in
    let solved : c.self.inside.solved.rows ≡ c.args.self.now.solved = ap (λ (e : Reduction). e.solved) c.self.view_is in
    let column : c.deref.result.now ≡ column_entries c.args.self.now.solved c.loop-i.i =
    c.deref.ensures.value ∙ (made ∙ ap (λ (rows : List (List ℕ)). column_entries rows c.loop-i.i) solved) in
    pushed ∙ ((λ j. c.loop-i.invariant j ++ column j) ∙ sym more)
