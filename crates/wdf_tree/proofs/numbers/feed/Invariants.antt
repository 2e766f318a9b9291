use Rattle.std.proofs.Common.{◌≡◌, take}
use Rattle.wdf_tree.specs.Numbers.{fed}
use Rattle.wdf_tree.proofs.numbers.feed.Given as goal

abbrev pub invariant-loop-j : goal.invariant-loop-j
invariant-loop-j l = l.inputs ≡ fed l.guard (take l.j l.sources) (take l.j l.samples) l.initial.inputs
