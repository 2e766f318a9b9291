use Rattle.std.proofs.Common.{◌≡◌, take}
use Rattle.wdf_law.specs.Network.{source_numbers}
use Rattle.wdf_tree.proofs.numbers.source_list.Given as goal

abbrev pub invariant-loop-j : goal.invariant-loop-j
invariant-loop-j l = l.numbers.items ≡ take l.j (source_numbers l.net)
