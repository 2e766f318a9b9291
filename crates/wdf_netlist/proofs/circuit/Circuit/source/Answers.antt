use Rattle.wdf_netlist.proofs.circuit.Circuit.source.Goals as goal

pub returns-clause-source : goal.returns-clause-source
returns-clause-source c = rw c.unwrap.ensures at c.source_at.ensures.source
