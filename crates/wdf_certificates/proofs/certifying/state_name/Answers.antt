use Rattle.std.proofs.Common.{ap, sym, ◌∙◌, arith}
use Rattle.wdf_law.specs.Network.{is_reactance}
use Rattle.wdf_netlist.specs.declared.element.Element.{Element}
use Rattle.wdf_certificates.proofs.StateLemmas.{next_other, next_reactance, no_state, state_here}
use Rattle.wdf_certificates.proofs.certifying.state_name.Goals as goal
use Rattle.wdf_certificates.proofs.certifying.state_name.Goals.{then-is_reactance+else-left-eq0, else-is_reactance}

pub loop-element-preserved : goal.loop-element-preserved
loop-element-preserved c =
    let item = c.element-item.result in
    let kind = sym (ap (λ (e : Element). is_reactance e.kind) c.element-item.is) ∙ sym c.is_reactance.ensures in
    elim c.if-is_reactance.branch [
      | then-is_reactance+else-left-eq0 w ↦
          rw w.left-is (sym (next_reactance c.args.elements.now c.loop-element.element-index c.loop-element.left item c.loop-element-test.true (kind ∙ w.if-is_reactance.true) (omega arith)) ∙ c.loop-element.invariant)
      | else-is_reactance w ↦
          rw w.left-is (sym (next_other c.args.elements.now c.loop-element.element-index c.loop-element.left item c.loop-element-test.true (kind ∙ w.if-is_reactance.false)) ∙ c.loop-element.invariant)
    ]

pub returns-then-left-eq0 : goal.returns-then-left-eq0
returns-then-left-eq0 c =
    state_here c.args.elements.now c.loop-element.element-index c.args.state c.element-item.result c.loop-element-test.true c.element-item.is
    (sym c.is_reactance.ensures ∙ c.if-is_reactance.true) (rw c.if-left-eq0.true at c.loop-element.invariant)

pub unreachable-requires : goal.unreachable-requires
unreachable-requires c =
    no_state c.args.elements.now c.loop-element.element-index c.loop-element.left c.args.state c.loop-element-test.false c.requires c.loop-element.invariant
