use Rattle.std.proofs.Common.{◌≡◌, ◌<◌, length, take}
use Rattle.wdf_law.specs.Network.{elements, multipliers}
use Rattle.wdf_check.proofs.checking.multipliers.Given as goal

abbrev pub invariant-loop-i : goal.invariant-loop-i
invariant-loop-i l = record {
  some : l.i < length (elements l.net);
  whole : l.all.items ≡ take l.i (multipliers l.net);
}
