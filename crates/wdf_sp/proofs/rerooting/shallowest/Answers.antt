use Rattle.std.proofs.Common.{◌≡◌, ◌+◌, ℕ, ap, sym, ◌∙◌, subst, arith}
use Rattle.wdf_law.specs.Outline.{outline}
use Rattle.wdf_sp.specs.Rerooting.{rooted_depth}
use Rattle.wdf_sp.proofs.RootLemmas.{IsLeastOf, least_keeps, least_takes, least_found}
use Rattle.wdf_sp.proofs.rerooting.shallowest.Goals as goal
use Rattle.wdf_sp.proofs.rerooting.shallowest.Goals.{then-depth-least, else-depth-least}

pub loop-i-preserved : goal.loop-i-preserved
loop-i-preserved c =
    let at_best = c.loop-i.invariant.depth in
    let at_i = c.rooted_depth-depth.ensures in
    elim c.if-depth-least.branch [
      | then-depth-least w ↦ record {
        best = subst (IsLeastOf (rooted_depth (outline c.args.shape.now) c.args.source) c.args.source (c.loop-i.i + 1)) (sym w.best-is)
            (least_takes (rooted_depth (outline c.args.shape.now) c.args.source) c.args.source c.loop-i.i c.loop-i.best c.loop-i.invariant.best (omega (arith, w.if-depth-least.true)));
        depth = w.least-is ∙ c.rooted_depth-depth.ensures ∙ ap (rooted_depth (outline c.args.shape.now) c.args.source) (sym w.best-is);
      }
      | else-depth-least w ↦ record {
        best = subst (IsLeastOf (rooted_depth (outline c.args.shape.now) c.args.source) c.args.source (c.loop-i.i + 1)) (sym w.best-is)
            (least_keeps (rooted_depth (outline c.args.shape.now) c.args.source) c.args.source c.loop-i.i c.loop-i.best c.loop-i.invariant.best (omega (arith, w.if-depth-least.false)));
        depth = w.least-is ∙ c.loop-i.invariant.depth ∙ ap (rooted_depth (outline c.args.shape.now) c.args.source) (sym w.best-is);
      }
    ]

pub returns-clause-value : goal.returns-clause-value
returns-clause-value c =
    let all : c.loop-i.i ≡ c.args.count = omega arith in
    sym (least_found (rooted_depth (outline c.args.shape.now) c.args.source) c.args.source c.args.count c.loop-i.best
    (subst (λ (i : ℕ). IsLeastOf (rooted_depth (outline c.args.shape.now) c.args.source) c.args.source i c.loop-i.best) all c.loop-i.invariant.best))
