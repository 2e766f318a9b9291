use Rattle.wdf_netlist.proofs.CircuitLemmas.{branch_circuit}
use Rattle.wdf_netlist.proofs.forms.branch.Goals as goal

pub circuit_of-requires-clause-circuit : goal.circuit_of-requires-clause-circuit
circuit_of-requires-clause-circuit c =
    let own = c.args.own.now in
    let whole = c.requires.whole.1 in
    branch_circuit c.requires.whole.0 own.parts.items own.root c.in_ok-root.root whole.circuit.parts whole.form whole.some c.requires.two c.in_ok-root.ensures
