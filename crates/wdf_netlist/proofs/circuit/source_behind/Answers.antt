use Rattle.std.proofs.Common.{ap, sym, ◌∙◌, arith}
use Rattle.std.specs.Prelude.{slice_get}
use Rattle.wdf_law.specs.Network.{is_source}
use Rattle.wdf_netlist.specs.declared.element.Element.{Element}
use Rattle.wdf_netlist.proofs.SourceLemmas.{next_other, next_source, no_source, numbers_are, this_source}
use Rattle.wdf_netlist.proofs.circuit.source_behind.Goals as goal
use Rattle.wdf_netlist.proofs.circuit.source_behind.Goals.{then-is_source+else-left-eq0, else-is_source}

pub loop-number-preserved : goal.loop-number-preserved
loop-number-preserved c =
    let item = c.index-elements-number.result in
    let kind = sym (ap (λ (e : Element). is_source e.kind) c.index-elements-number.is) ∙ sym c.is_source.ensures in
    elim c.if-is_source.branch [
      | then-is_source+else-left-eq0 w ↦
          rw w.left-is (sym (next_source c.args.elements.now c.loop-number.number c.loop-number.left item c.loop-number-test.true (kind ∙ w.if-is_source.true) (omega arith)) ∙ c.loop-number.invariant)
      | else-is_source w ↦
          rw w.left-is (sym (next_other c.args.elements.now c.loop-number.number c.loop-number.left item c.loop-number-test.true (kind ∙ w.if-is_source.false)) ∙ c.loop-number.invariant)
    ]

pub returns-then-left-eq0 : goal.returns-then-left-eq0
returns-then-left-eq0 c =
    let elements = c.args.elements.now in
    let number = c.loop-number.number in
    let item = c.index-elements-number.result in
    let kind = sym (ap (λ (e : Element). is_source e.kind) c.index-elements-number.is) ∙ sym c.is_source.ensures ∙ c.if-is_source.true in
    let here = this_source elements number item c.loop-number-test.true kind in
    let same = rw c.if-left-eq0.true at c.loop-number.invariant in
    sym here ∙ same ∙ sym (ap (λ l. slice_get l c.args.skip) (numbers_are is_source elements))

pub returns : goal.returns
returns c =
    let elements = c.args.elements.now in
    sym (no_source elements c.loop-number.number c.loop-number.left (omega arith)) ∙ c.loop-number.invariant ∙ sym (ap (λ l. slice_get l c.args.skip) (numbers_are is_source elements))
