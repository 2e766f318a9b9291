use Rattle.std.proofs.Common.{◌≡◌, take, map, length}
use Rattle.wdf_tree.specs.Places.{at_place}
use Rattle.wdf_tree.proofs.numbers.gather.Given as goal

abbrev pub invariant-loop-j : goal.invariant-loop-j
invariant-loop-j l = record {
  long : length l.state ≡ 128;
  so_far : take l.j l.state ≡ map (at_place l.downs) (take l.j l.numbers);
}
