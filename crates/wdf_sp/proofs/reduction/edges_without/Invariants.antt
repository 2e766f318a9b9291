use Rattle.std.proofs.Common.{◌≡◌, ◌++◌, drop}
use Rattle.wdf_sp.specs.Edges.{arcs, branches}
use Rattle.wdf_sp.specs.Reduction.{edges_from}
use Rattle.wdf_sp.proofs.reduction.edges_without.Given as goal

-- the edges of the elements so far, and then those of the rest
abbrev pub invariant-loop-i : goal.invariant-loop-i
invariant-loop-i l = arcs l.edges.items ++ edges_from l.source l.i (drop l.i (branches l.elements)) ≡ edges_from l.source 0 (branches l.elements)
