use Rattle.std.proofs.Common.{◌≡◌, length, map}
use Rattle.std.specs.Prelude.{filter}
use Rattle.std.specs.List.{range_with_len}
use Rattle.wdf_law.specs.Network.{elements, has_reactance}
use Rattle.wdf_check.specs.Stepping.{trajectory}
use Rattle.wdf_check.proofs.observing.unit_states.Given as goal

abbrev pub invariant-loop-i : goal.invariant-loop-i
invariant-loop-i l = record {
  width : l.states.columns ≡ length (elements l.net);
  whole : l.states.rows ≡ map (trajectory l.net 0) (filter (has_reactance (elements l.net)) (range_with_len 0 l.i));
}
