-- One element more.
use Rattle.std.proofs.Common.{◌≡◌, ap, sym, ◌∙◌, subst, length, arith}
use Rattle.std.specs.Prelude.{filter}
use Rattle.std.specs.List.{range_with_len}
use Rattle.wdf_law.specs.Network.{elements}
use Rattle.wdf_energy.specs.PortLists.{AreWalked, has_of, ports_at}
use Rattle.wdf_energy.proofs.PortLemmas.{ports_more, ports_same, some_same, walked}
use Rattle.wdf_energy.proofs.ledger.ports_of.Goals as goal
use Rattle.wdf_energy.proofs.ledger.ports_of.Goals.{then-has+in_ok-push, else-has}

pub loop-elem-preserved : goal.loop-elem-preserved
loop-elem-preserved c =
    let net = c.args.net.now in
    let has = has_of c.args.group (elements net) in
    let elem = c.loop-elem.elem in
    let count = c.element_count-elem-end.ensures.count in
    elim c.if-has.branch [
      | then-has+in_ok-push w ↦
          ports_more net has elem w.of_leaf-ratio.result c.loop-elem.ports.items c.if-has.ports.items c.loop-elem.invariant (sym c.has.ensures ∙ w.if-has.true)
          (some_same _ _ _ w.of_leaf-ratio.ensures (c.requires elem (omega arith))) ((λ i. (w.ports-is i).items) ∙ w.in_ok-push.ensures.items)
      | else-has w ↦
          (λ i. (w.ports-is i).items) ∙ ports_same net has elem c.loop-elem.ports.items c.loop-elem.invariant (sym c.has.ensures ∙ w.if-has.false)
    ]

pub returns-clause-walked : goal.returns-clause-walked
returns-clause-walked c =
    let net = c.args.net.now in
    let has = has_of c.args.group in
    let count = c.element_count-elem-end.ensures.count in
    let few = c.element_count-elem-end.ensures.few in
    let whole : c.loop-elem.elem ≡ length (elements c.args.net.now) = omega arith in
    let list = c.loop-elem.invariant ∙ ap (λ n. ports_at net (filter (has (elements net)) (range_with_len 0 n))) whole in
    subst (AreWalked (length (elements net))) (sym list) (walked net has (omega arith) c.ports.ensures.some_source c.sources_covered.ensures)
