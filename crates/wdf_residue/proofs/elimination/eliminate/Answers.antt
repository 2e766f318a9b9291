use Rattle.std.proofs.Common.{◌≡◌, ◌∙◌, ◌<◌, sym, subst, ap, length, List, ℕ, arith}
use Rattle.wdf_residue.specs.Elimination.{IsInverse}
use Rattle.wdf_residue.specs.Solving.{Advances, identity_columns}
use Rattle.wdf_residue.proofs.Reduced.{IsReduced}
use Rattle.wdf_residue.proofs.Taking.{advances}
use Rattle.wdf_residue.proofs.Ends.{begins, ends_whole, ends_dependent}
use Rattle.wdf_residue.proofs.elimination.eliminate.Goals as goal

pub loop-i-init : goal.loop-i-init
loop-i-init c =
    let made = c.in_ok-solver.ensures in
    record {
      reduced = begins c.args.matrix.now c.in_ok-solver.solver (made.columns ∙ c.cols.ensures) (made.unseen ∙ ap identity_columns c.cols.ensures) made.solved made.taken;
      rules = c.rules-2.ensures;
    }

pub loop-i-preserved : goal.loop-i-preserved
loop-i-preserved c =
    let step = c.in_ok-solver-2.ensures in
    let within : c.loop-i.i < length c.args.matrix.now.rows = omega (arith, c.rows-i-end.ensures) in
    record {
      reduced = advances c.args.matrix.now c.loop-i.i c.loop-i.solver c.in_ok-solver-2.solver c.loop-i.invariant.reduced c.loop-i.invariant.rules c.rules-in-loop-i.ensures c.rules.ensures within
          (subst (λ (row : List ℕ). Advances row c.loop-i.i c.loop-i.solver c.in_ok-solver-2.solver) c.row.ensures.value step);
      rules = c.rules-in-loop-i.ensures;
    }

pub returns-in_ok-unseen_column-in-Some : goal.returns-in_ok-unseen_column-in-Some
returns-in_ok-unseen_column-in-Some c =
    let all : c.loop-i.i ≡ length c.args.matrix.now.rows = omega (arith, c.rows-i-end.ensures) in
    let same = c.in_ok-unseen_column-in-Some.ensures in
    let open_column = c.in-Some.ensures in
    ends_dependent c.args.matrix.now c.loop-i.solver (subst (λ (r : ℕ). IsReduced c.args.matrix.now r c.loop-i.solver) all c.loop-i.invariant.reduced) c.loop-i.invariant.rules c.rules.ensures
    c.in-Some.column open_column c.in_ok-unseen_column-in-Some.field-0.items same

pub returns-in_ok-inverse-in-None : goal.returns-in_ok-inverse-in-None
returns-in_ok-inverse-in-None c =
    let all : c.loop-i.i ≡ length c.args.matrix.now.rows = omega (arith, c.rows-i-end.ensures) in
    let same = c.in_ok-inverse-in-None.ensures in
    let solved = c.in-None.ensures in
    subst (λ (rows : List ℕ). IsInverse c.args.matrix.now rows c.in_ok-inverse-in-None.inverse.items) (sym c.into_taken.ensures)
    (ends_whole c.args.matrix.now c.loop-i.solver (subst (λ (r : ℕ). IsReduced c.args.matrix.now r c.loop-i.solver) all c.loop-i.invariant.reduced) c.loop-i.invariant.rules c.rules.ensures solved
    c.in_ok-inverse-in-None.inverse.items same)
