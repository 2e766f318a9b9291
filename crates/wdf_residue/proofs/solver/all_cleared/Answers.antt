use Rattle.std.proofs.Common.{sym, subst, ℕ}
use Rattle.wdf_residue.specs.Matrix.{IsRow}
use Rattle.wdf_residue.proofs.VectorLemmas.{cleared-row}
use Rattle.wdf_residue.proofs.solver.all_cleared.Goals as goal

pub push-requires : goal.push-requires
push-requires c =
    let made = c.in_ok-cleared.ensures in
    subst (λ (n : ℕ). IsRow n c.in_ok-cleared.field-0.items) (sym c.loop-c.invariant.width)
    (subst (IsRow c.args.columns.now.columns) (sym made)
    (cleared-row c.args.columns.now.columns c.args.row.now c.args.g.now c.row.result.now c.requires.pivot c.row.ensures.row))
