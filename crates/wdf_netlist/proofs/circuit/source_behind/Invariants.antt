use Rattle.std.proofs.Common.{◌≡◌, drop}
use Rattle.std.specs.Prelude.{slice_get}
use Rattle.wdf_law.specs.Network.{is_source}
use Rattle.wdf_netlist.proofs.SourceLemmas.{numbers_from}
use Rattle.wdf_netlist.proofs.circuit.source_behind.Given as goal

abbrev pub invariant-loop-number : goal.invariant-loop-number
invariant-loop-number l =
    slice_get (numbers_from is_source l.number (drop l.number l.elements)) l.left ≡ slice_get (numbers_from is_source 0 l.elements) l.skip
