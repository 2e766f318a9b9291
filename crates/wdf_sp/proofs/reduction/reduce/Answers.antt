use Rattle.std.proofs.Common.{ap, sym, ◌∙◌, List}
use Rattle.std.specs.Prelude.{Some, None, ◌≡◌}
use Rattle.wdf_sp.specs.declared.edge.Edge.{Edge}
use Rattle.wdf_sp.specs.Edges.{arcs}
use Rattle.wdf_sp.specs.Reduction.{fully_reduced, next_merge}
use Rattle.wdf_sp.proofs.ReductionLemmas.{fully_reduced-some, fully_reduced-none}
use Rattle.wdf_sp.proofs.reduction.reduce.Goals as goal

pub loop-merge-preserved : goal.loop-merge-preserved
loop-merge-preserved c =
    let found : next_merge c.args.p c.args.q (arcs c.loop-merge.edges.items) ≡ Some c.in-Some.merge =
    ap (λ (es : List Edge). next_merge c.args.p c.args.q (arcs es)) (sym c.deref.ensures.value) ∙ sym c.in-Some.ensures.merge in
    ap (fully_reduced c.args.p c.args.q) c.in_ok-merge_pair.ensures.list
    ∙ sym (fully_reduced-some c.args.p c.args.q (arcs c.loop-merge.edges.items) c.in-Some.merge found)
    ∙ c.loop-merge.invariant

pub returns : goal.returns
returns c =
    let stops : next_merge c.args.p c.args.q (arcs c.loop-merge.edges.items) ≡ None =
    ap (λ (es : List Edge). next_merge c.args.p c.args.q (arcs es)) (sym c.deref.ensures.value) ∙ sym c.in_default.ensures.merge in
    sym (fully_reduced-none c.args.p c.args.q (arcs c.loop-merge.edges.items) stops) ∙ c.loop-merge.invariant
