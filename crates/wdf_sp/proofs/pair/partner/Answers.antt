use Rattle.std.proofs.Common.{sym, ◌∙◌, arith}
use Rattle.std.proofs.lemmas.List.{length-map}
use Rattle.wdf_sp.specs.Edges.{arc, arcs}
use Rattle.wdf_sp.specs.Reduction.{arc_at, fit}
use Rattle.wdf_sp.proofs.EdgeLemmas.{fit_at}
use Rattle.wdf_sp.proofs.WalkLemmas.{place_here, place_later}
use Rattle.wdf_sp.proofs.pair.partner.Goals as goal

pub returns-then-fit : goal.returns-then-fit
returns-then-fit c =
    let same = fit_at c.args.p c.args.q c.args.edges.now c.args.connection c.args.first c.loop-second.second c.index-edges-first.result c.index-edges-second.result c.fit.result (omega arith) (omega arith)
    c.index-edges-first.is c.index-edges-second.is c.fit.ensures in
    sym (place_here (fit c.args.p c.args.q (arcs c.args.edges.now) c.args.connection (arc_at (arcs c.args.edges.now) c.args.first)) (arcs c.args.edges.now) c.loop-second.second (omega (arith, length-map c.args.edges.now arc)) (same ∙ c.if-fit.true))
    ∙ c.loop-second.invariant

pub loop-second-preserved : goal.loop-second-preserved
loop-second-preserved c =
    let same = fit_at c.args.p c.args.q c.args.edges.now c.args.connection c.args.first c.loop-second.second c.index-edges-first.result c.index-edges-second.result c.fit.result (omega arith) (omega arith)
    c.index-edges-first.is c.index-edges-second.is c.fit.ensures in
    sym (place_later (fit c.args.p c.args.q (arcs c.args.edges.now) c.args.connection (arc_at (arcs c.args.edges.now) c.args.first)) (arcs c.args.edges.now) c.loop-second.second (omega (arith, length-map c.args.edges.now arc)) (same ∙ c.if-fit.false))
    ∙ c.loop-second.invariant
