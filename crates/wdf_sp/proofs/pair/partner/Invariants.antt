use Rattle.std.proofs.Common.{◌≡◌, ◌+◌, drop}
use Rattle.wdf_sp.specs.Edges.{arcs}
use Rattle.wdf_sp.specs.Reduction.{arc_at, first_place, fit}
use Rattle.wdf_sp.proofs.pair.partner.Given as goal

-- no edge so far fits
abbrev pub invariant-loop-second : goal.invariant-loop-second
invariant-loop-second l =
    first_place (fit l.p l.q (arcs l.edges) l.connection (arc_at (arcs l.edges) l.first)) l.second (drop l.second (arcs l.edges))
    ≡ first_place (fit l.p l.q (arcs l.edges) l.connection (arc_at (arcs l.edges) l.first)) (l.first + 1) (drop (l.first + 1) (arcs l.edges))
