use Rattle.std.proofs.Common.{◌≡◌, vec_len}
use Rattle.wdf_sp.specs.Edges.{arcs}
use Rattle.wdf_sp.specs.Reduction.{fully_reduced}
use Rattle.wdf_sp.proofs.reduction.reduce.Given as goal

-- the list is on the way to the same end, and gets shorter
abbrev pub invariant-loop-merge : goal.invariant-loop-merge
invariant-loop-merge l = fully_reduced l.p l.q (arcs l.edges.items) ≡ fully_reduced l.p l.q (arcs l.initial.edges.items)

abbrev pub decreases-loop-merge : goal.decreases-loop-merge
decreases-loop-merge l = vec_len l.edges
