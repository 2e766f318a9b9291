use Rattle.std.proofs.Common.{sym, subst, arith, ℕ}
use Rattle.std.proofs.lemmas.List.FromFn.{map-range_with_len_more}
use Rattle.wdf_residue.specs.Matrix.{IsRow}
use Rattle.wdf_residue.specs.Solving.{identity_column}
use Rattle.wdf_residue.proofs.Ends.{identity-row}
use Rattle.wdf_residue.proofs.solver.identity.Goals as goal

pub push-requires : goal.push-requires
push-requires c =
    let made = c.in_ok-identity_column.ensures in
    subst (λ (n : ℕ). IsRow n c.in_ok-identity_column.field-0.items) (sym c.loop-c.invariant.width)
    (subst (IsRow c.args.n) (sym made) (identity-row c.args.n c.loop-c.c))

pub loop-c-preserved : goal.loop-c-preserved
loop-c-preserved c =
    let more = map-range_with_len_more (identity_column c.args.n) 0 c.loop-c.c c.loop-c.c (omega arith) in
    let made = c.in_ok-identity_column.ensures in
    let pushed = c.in_ok-push.ensures.ok in
    let width = c.in_ok-push.ensures.columns in
    record {
      width = cc;
      whole = cc;
    }
