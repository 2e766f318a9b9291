use Rattle.std.proofs.Common.{sym, ◌∙◌}
use Rattle.wdf_netlist.proofs.CircuitLemmas.{ladder_circuit, ladder_form}
use Rattle.wdf_netlist.proofs.forms.ladder.Goals as goal

pub circuit_of-requires-clause-circuit : goal.circuit_of-requires-clause-circuit
circuit_of-requires-clause-circuit c =
    let own = c.args.own.now in
    ladder_circuit own.parts.items c.in-Some-load.load c.in_ok-number.number own.root c.in_ok-root.root c.requires.own.parts (sym c.has_source.ensures ∙ c.if-not-has_source.false) c.in_ok-number.ensures c.in_ok-root.ensures

pub new-requires-clause-form : goal.new-requires-clause-form
new-requires-clause-form c = rw c.in_ok-circuit.ensures (ladder_form c.args.own.now.parts.items c.in_ok-number.number c.in_ok-root.root c.requires.form)
