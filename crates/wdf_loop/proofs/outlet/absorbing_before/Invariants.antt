use Rattle.std.proofs.Common.{◌≡◌, ◌≤◌, length}
use Rattle.std.specs.Prelude.{filter}
use Rattle.std.specs.List.{range_with_len}
use Rattle.wdf_law.specs.Network.{elements, has_absorbing}
use Rattle.wdf_loop.proofs.outlet.absorbing_before.Given as goal

abbrev pub invariant-loop-i : goal.invariant-loop-i
invariant-loop-i l = record {
  few : l.count ≤ l.i;
  so_far : l.count ≡ length (filter (has_absorbing (elements l.net)) (range_with_len 0 l.i));
}
