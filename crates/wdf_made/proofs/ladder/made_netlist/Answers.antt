use Rattle.std.proofs.Common.{◌≡◌, ◌+◌, sym, subst}
use Rattle.wdf_law.specs.declared.outlet.Outlet.TheVariants.{Load}
use Rattle.wdf_netlist.specs.declared.root_choice.RootChoice.TheVariants.{Source as At_source}
use Rattle.wdf_netlist.specs.Circuits.{CircuitValue, IsCircuit}
use Rattle.wdf_made.specs.Ladder.{circuit_with, made_value}
use Rattle.wdf_made.proofs.LadderLemmas.{is_circuit}
use Rattle.wdf_made.proofs.ValueLemmas.{made_values}
use Rattle.wdf_made.proofs.ladder.made_netlist.Goals as goal

pub new-circuit-requires : goal.new-circuit-requires
new-circuit-requires c =
    let made : CircuitValue = circuit_with (made_value c.args.seed) c.args.order in
    let found : CircuitValue = record { elements = c.in_ok-elements.elements.items; nodes = c.in_ok-nodes.nodes.items; outlet = Load (c.from.result + 1); root = At_source } in
    let same : found ≡ made = λ i. record { elements = c.in_ok-elements.ensures i; nodes = c.in_ok-nodes.ensures i; outlet = Load (c.from.ensures i + 1); root = At_source } in
    subst IsCircuit (sym same) (is_circuit (made_value c.args.seed) c.args.order c.requires.some c.requires.few (made_values c.args.seed))
