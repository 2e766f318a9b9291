use Rattle.std.proofs.Common.{◌≡◌, drop}
use Rattle.wdf_sp.specs.Edges.{arcs}
use Rattle.wdf_sp.specs.Reduction.{first_pair, fit}
use Rattle.wdf_sp.proofs.pair.first_pair.Given as goal

-- no edge so far has a partner
abbrev pub invariant-loop-first : goal.invariant-loop-first
invariant-loop-first l =
    first_pair l.connection (fit l.p l.q (arcs l.edges) l.connection) l.first (drop l.first (arcs l.edges))
    ≡ first_pair l.connection (fit l.p l.q (arcs l.edges) l.connection) 0 (arcs l.edges)
