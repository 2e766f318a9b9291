use Rattle.std.proofs.Common.{◌∙◌, sym, subst, ap, length}
use Rattle.std.proofs.lemmas.List.Elements.{All-nil}
use Rattle.std.proofs.lemmas.List.FromFn.{length-map-range_with_len}
use Rattle.wdf_residue.specs.Matrix.{IsRow, AreRows}
use Rattle.wdf_residue.specs.Solving.{identity_column}
use Rattle.wdf_residue.proofs.solver.Solver.new.Goals as goal

pub invariant_of-result : goal.invariant_of-result
invariant_of-result c =
    let width = c.in_ok-unseen.ensures.columns in
    let rows = c.in_ok-unseen.ensures.rows in (
      c.new.ensures.columns ∙ sym width,
      record {
        unseen = c.rules.ensures;
        solved = subst (AreRows c.in_ok-unseen.unseen.columns) (sym c.new.ensures.rows) (All-nil (IsRow c.in_ok-unseen.unseen.columns));
        count = ap length rows ∙ (length-map-range_with_len (identity_column c.args.n) 0 c.args.n ∙ sym width);
        sizes = ap length c.new.ensures.rows ∙ sym (ap length c.new-2.ensures.items);
      },
    )
