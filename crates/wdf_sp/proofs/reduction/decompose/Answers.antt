use Rattle.wdf_sp.proofs.CircuitLemmas.{decomposed_first}
use Rattle.wdf_sp.proofs.reduction.decompose.Goals as goal

pub returns-clause-spans : goal.returns-clause-spans
returns-clause-spans c =
    (decomposed_first c.args.circuit.now c.elements.result.now c.source.result c.decompose_elements.result c.rules.ensures c.source.ensures.source c.source.ensures.first c.elements.ensures.elements c.decompose_elements.ensures).spans

pub returns-clause-leaves : goal.returns-clause-leaves
returns-clause-leaves c =
    (decomposed_first c.args.circuit.now c.elements.result.now c.source.result c.decompose_elements.result c.rules.ensures c.source.ensures.source c.source.ensures.first c.elements.ensures.elements c.decompose_elements.ensures).leaves

pub returns-clause-depth : goal.returns-clause-depth
returns-clause-depth c =
    (decomposed_first c.args.circuit.now c.elements.result.now c.source.result c.decompose_elements.result c.rules.ensures c.source.ensures.source c.source.ensures.first c.elements.ensures.elements c.decompose_elements.ensures).depth

pub returns-clause-named : goal.returns-clause-named
returns-clause-named c =
    (decomposed_first c.args.circuit.now c.elements.result.now c.source.result c.decompose_elements.result c.rules.ensures c.source.ensures.source c.source.ensures.first c.elements.ensures.elements c.decompose_elements.ensures).named
