use Rattle.std.proofs.Common.{◌∙◌, sym}
use Rattle.wdf_reporting.proofs.FindingLemmas.{ladder_appends, lattice_appends}
use Rattle.wdf_reporting.proofs.RatioLemmas.{ladder_ratios, lattice_ratios}
use Rattle.wdf_reporting.proofs.reporting.push_circuits.Goals as goal

pub push_circuit-requires-clause-ratios : goal.push_circuit-requires-clause-ratios
push_circuit-requires-clause-ratios c =
    let it = c.in-Ladder-Ladder-Ladder in
    ladder_ratios c.args.netlist.now c.args.networks.now c.args.plan.now.k c.rate-rate.result it.c it.net c.requires.designed c.requires.realised (sym c.form.ensures ∙ it.is-0) it.is-1 c.rate-rate.ensures.value
    c.numbers.ensures

pub push_circuit-requires-in-Lattice-Lattice-Lattice-clause-ratios : goal.push_circuit-requires-in-Lattice-Lattice-Lattice-clause-ratios
push_circuit-requires-in-Lattice-Lattice-Lattice-clause-ratios c =
    let it = c.in-Lattice-Lattice-Lattice in
    (lattice_ratios c.args.netlist.now c.args.networks.now c.args.plan.now.k c.rate-rate.result it.a it.b it.m it.n c.requires.designed c.requires.realised (sym c.form.ensures ∙ it.is-0) it.is-1
    c.rate-rate.ensures.value c.numbers-in-Lattice-Lattice-Lattice.ensures c.numbers-in-Lattice-Lattice-Lattice-2.ensures).first

pub push_circuit-requires-in-Lattice-Lattice-Lattice-2-clause-ratios : goal.push_circuit-requires-in-Lattice-Lattice-Lattice-2-clause-ratios
push_circuit-requires-in-Lattice-Lattice-Lattice-2-clause-ratios c =
    let it = c.in-Lattice-Lattice-Lattice in
    (lattice_ratios c.args.netlist.now c.args.networks.now c.args.plan.now.k c.rate-rate.result it.a it.b it.m it.n c.requires.designed c.requires.realised (sym c.form.ensures ∙ it.is-0) it.is-1
    c.rate-rate.ensures.value c.numbers-in-Lattice-Lattice-Lattice.ensures c.numbers-in-Lattice-Lattice-Lattice-2.ensures).second

pub returns-in_ok-push_circuit-in-Ladder-Ladder-Ladder : goal.returns-in_ok-push_circuit-in-Ladder-Ladder-Ladder
returns-in_ok-push_circuit-in-Ladder-Ladder-Ladder c =
    let it = c.in-Ladder-Ladder-Ladder in
    ladder_appends c.args.netlist.now c.args.networks.now c.rate-rate.result it.c it.net c.args.plan.now _ _ (sym c.form.ensures ∙ it.is-0) it.is-1 c.rate-rate.ensures.value
    c.in_ok-push_circuit-in-Ladder-Ladder-Ladder.ensures

pub returns-in_ok-push_circuit-in-Lattice-Lattice-Lattice-2 : goal.returns-in_ok-push_circuit-in-Lattice-Lattice-Lattice-2
returns-in_ok-push_circuit-in-Lattice-Lattice-Lattice-2 c =
    let it = c.in-Lattice-Lattice-Lattice in
    lattice_appends c.args.netlist.now c.args.networks.now c.rate-rate.result it.a it.b it.m it.n c.args.plan.now _ _ _ (sym c.form.ensures ∙ it.is-0) it.is-1 c.rate-rate.ensures.value
    c.in_ok-push_circuit-in-Lattice-Lattice-Lattice.ensures c.in_ok-push_circuit-in-Lattice-Lattice-Lattice-2.ensures
