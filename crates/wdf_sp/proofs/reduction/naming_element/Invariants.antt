use Rattle.std.proofs.Common.{◌≡◌, drop}
use Rattle.std.specs.List.{find}
use Rattle.wdf_sp.specs.Edges.{arcs}
use Rattle.wdf_sp.specs.Reduction.{hangs}
use Rattle.wdf_sp.proofs.reduction.naming_element.Given as goal

-- no edge so far hangs
abbrev pub invariant-loop-edge : goal.invariant-loop-edge
invariant-loop-edge l = find (hangs l.p l.q (arcs l.edges)) (drop l.edge-index (arcs l.edges)) ≡ find (hangs l.p l.q (arcs l.edges)) (arcs l.edges)
