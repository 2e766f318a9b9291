use Rattle.std.proofs.Common.{◌≡◌, ◌-◌, ◌*◌, ◌≤◌, length, take}
use Rattle.wdf_lattice.specs.declared.engines.Engines.TheVariants.{Two}
use Rattle.wdf_lattice.specs.RunSides.{GoOn}
use Rattle.wdf_lattice.proofs.branches.block_of_branches.Given as goal

abbrev pub invariant-loop-made : goal.invariant-loop-made
invariant-loop-made l = record {
  within : l.made ≤ l.count;
  room : length l.room ≡ length l.initial.room;
  places : length l.output ≡ length l.initial.output;
  gone : GoOn l.made l.input (take (l.made * l.runs) l.output) (Two l.initial.first l.initial.second) (Two l.first l.second);
}

abbrev pub decreases-loop-made : goal.decreases-loop-made
decreases-loop-made l = l.count - l.made
