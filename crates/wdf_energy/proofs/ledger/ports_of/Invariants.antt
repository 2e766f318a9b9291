use Rattle.std.proofs.Common.{◌≡◌}
use Rattle.std.specs.Prelude.{filter}
use Rattle.std.specs.List.{range_with_len}
use Rattle.wdf_law.specs.Network.{elements}
use Rattle.wdf_energy.specs.PortLists.{has_of, ports_at}
use Rattle.wdf_energy.proofs.ledger.ports_of.Given as goal

abbrev pub invariant-loop-elem : goal.invariant-loop-elem
invariant-loop-elem l = l.ports.items ≡ ports_at l.net (filter (has_of l.group (elements l.net)) (range_with_len 0 l.elem))
