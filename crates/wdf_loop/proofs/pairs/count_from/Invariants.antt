use Rattle.wdf_loop.specs.Pairs.{HasPairs}
use Rattle.wdf_loop.proofs.pairs.count_from.Given as goal

abbrev pub invariant-loop-i : goal.invariant-loop-i
invariant-loop-i l = HasPairs l.shares l.sign l.start l.i
