use Rattle.std.proofs.Common.{ap, sym, ◌∙◌, arith}
use Rattle.std.specs.Prelude.{Option, unwrap_or, ◌≡◌, true, false}
use Rattle.std.proofs.lemmas.List.{length-map}
use Rattle.wdf_law.specs.Outline.{outline_first}
use Rattle.wdf_sp.specs.Edges.{arc, arcs}
use Rattle.wdf_sp.specs.Reduction.{Arc, arc_at, hangs}
use Rattle.wdf_sp.proofs.EdgeLemmas.{arc_is}
use Rattle.wdf_sp.proofs.WalkLemmas.{find_here, find_later}
use Rattle.wdf_sp.proofs.reduction.naming_element.Goals as goal

pub returns-then-hangs : goal.returns-then-hangs
returns-then-hangs c =
    let es = arcs c.args.edges.now in
    let i = c.loop-edge.edge-index in
    let is = arc_is c.args.edges.now c.loop-edge.edge-index c.edge-item.result (omega arith) c.edge-item.is in
    let passes : hangs c.args.p c.args.q (arcs c.args.edges.now) (arc_at (arcs c.args.edges.now) c.loop-edge.edge-index) ≡ true =
    ap (hangs c.args.p c.args.q (arcs c.args.edges.now)) (sym is) ∙ sym c.hangs.ensures ∙ c.if-hangs.true in
    let found = sym c.loop-edge.invariant ∙ find_here (hangs c.args.p c.args.q es) es i (omega (arith, length-map c.args.edges.now arc)) passes in
    c.first_leaf.ensures
    ∙ ap (λ (a : Arc). outline_first a.shape) is
    ∙ sym (ap (λ (o : Option Arc). outline_first (unwrap_or o (arc_at (arcs c.args.edges.now) 0)).shape) found)

pub loop-edge-preserved : goal.loop-edge-preserved
loop-edge-preserved c =
    let es = arcs c.args.edges.now in
    let i = c.loop-edge.edge-index in
    let is = arc_is c.args.edges.now c.loop-edge.edge-index c.edge-item.result (omega arith) c.edge-item.is in
    let fails : hangs c.args.p c.args.q (arcs c.args.edges.now) (arc_at (arcs c.args.edges.now) c.loop-edge.edge-index) ≡ false =
    ap (hangs c.args.p c.args.q (arcs c.args.edges.now)) (sym is) ∙ sym c.hangs.ensures ∙ c.if-hangs.false in
    sym (find_later (hangs c.args.p c.args.q es) es i (omega (arith, length-map c.args.edges.now arc)) fails) ∙ c.loop-edge.invariant
