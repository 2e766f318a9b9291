use Rattle.std.proofs.Common.{◌≡◌, ◌∙◌, ◌+◌, sym, subst, ap, length, ℕ}
use Rattle.std.proofs.lemmas.List.{length-map, length_push}
use Rattle.wdf_residue.specs.Matrix.{IsRow, AreRows}
use Rattle.wdf_residue.specs.Solving.{cleared}
use Rattle.wdf_residue.proofs.VectorLemmas.{scaled-row}
use Rattle.wdf_residue.proofs.solver.Solver.taking.Goals as goal

pub all_cleared-requires-clause-pivot : goal.all_cleared-requires-clause-pivot
all_cleared-requires-clause-pivot c =
    let made = c.in_ok-g.ensures in
    subst (IsRow c.self.inside.unseen.columns) (sym (c.deref.ensures.value ∙ made))
    (scaled-row c.self.inside.unseen.columns c.inverse.result c.row-column.result.now c.row-column.ensures.row)

pub all_cleared-requires-2-clause-pivot : goal.all_cleared-requires-2-clause-pivot
all_cleared-requires-2-clause-pivot c =
    let made = c.in_ok-g.ensures in
    let same : c.self.inside.solved.columns ≡ c.self.inside.unseen.columns = c.self.invariant.0 in
    subst (λ (n : ℕ). IsRow n c.deref-2.result.now) (sym same)
    (subst (IsRow c.self.inside.unseen.columns) (sym (c.deref-2.ensures.value ∙ made))
    (scaled-row c.self.inside.unseen.columns c.inverse.result c.row-column.result.now c.row-column.ensures.row))

pub push-requires : goal.push-requires
push-requires c =
    let made = c.in_ok-g.ensures in
    let same : c.self.inside.solved.columns ≡ c.self.inside.unseen.columns = c.self.invariant.0 in
    let width = c.in_ok-solved.ensures.columns in
    subst (λ (n : ℕ). IsRow n c.in_ok-g.g.items) (sym (width ∙ same))
    (subst (IsRow c.self.inside.unseen.columns) (sym made)
    (scaled-row c.self.inside.unseen.columns c.inverse.result c.row-column.result.now c.row-column.ensures.row))

pub invariant_of-result : goal.invariant_of-result
invariant_of-result c =
    let kept = c.self.invariant in
    let width : c.push.new.self.columns ≡ c.in_ok-unseen.unseen.columns =
    c.in_ok-push.ensures.columns ∙ (c.in_ok-solved.ensures.columns ∙ (kept.0 ∙ sym c.in_ok-unseen.ensures.columns)) in
    let rows : length c.in_ok-unseen.unseen.rows ≡ length c.self.inside.unseen.rows =
    ap length c.in_ok-unseen.ensures.rows ∙ length-map c.self.inside.unseen.rows (cleared c.args.row.now c.deref.result.now) in
    let solved : length c.in_ok-solved.solved.rows ≡ length c.self.inside.solved.rows =
    ap length c.in_ok-solved.ensures.rows ∙ length-map c.self.inside.solved.rows (cleared c.args.row.now c.deref-2.result.now) in
    let more = ap length c.in_ok-push.ensures.ok ∙ length_push c.in_ok-solved.solved.rows c.in_ok-g.g.items in
    let taken = ap length c.in_ok-push-2.ensures.items ∙ length_push c.self.inside.taken.items c.args.number in (
      width,
      record {
        unseen = c.rules.ensures;
        solved = subst (λ (n : ℕ). AreRows n c.push.new.self.rows) width c.rules-2.ensures;
        count = rows ∙ (kept.1.count ∙ sym c.in_ok-unseen.ensures.columns);
        sizes = more ∙ (ap (λ (n : ℕ). n + 1) (solved ∙ kept.1.sizes) ∙ sym taken);
      },
    )
