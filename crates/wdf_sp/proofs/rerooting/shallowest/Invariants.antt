use Rattle.std.proofs.Common.{◌≡◌}
use Rattle.wdf_law.specs.Outline.{outline}
use Rattle.wdf_sp.specs.Rerooting.{rooted_depth}
use Rattle.wdf_sp.proofs.RootLemmas.{IsLeastOf}
use Rattle.wdf_sp.proofs.rerooting.shallowest.Given as goal

-- the best of the source and the numbers so far, with its depth
abbrev pub invariant-loop-i : goal.invariant-loop-i
invariant-loop-i l = record {
  best : IsLeastOf (rooted_depth (outline l.shape) l.source) l.source l.i l.best;
  depth : l.least ≡ rooted_depth (outline l.shape) l.source l.best;
}
