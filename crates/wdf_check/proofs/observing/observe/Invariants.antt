use Rattle.std.proofs.Common.{◌≡◌, length, map}
use Rattle.wdf_law.specs.Network.{elements, reactances}
use Rattle.wdf_check.specs.Observability.{observed_for}
use Rattle.wdf_check.specs.Stepping.{trajectory}
use Rattle.wdf_check.proofs.observing.observe.Given as goal

abbrev pub invariant-loop-t : goal.invariant-loop-t
invariant-loop-t l = record {
  count : l.states.columns ≡ length (elements l.net);
  states : l.states.rows ≡ map (trajectory l.net l.t) (reactances l.net);
  width : l.matrix.columns ≡ length (reactances l.net);
  whole : l.matrix.rows ≡ observed_for l.net l.t;
}
