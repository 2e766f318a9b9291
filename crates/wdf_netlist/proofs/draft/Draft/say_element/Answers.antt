use Rattle.std.proofs.Common.{refl, ◌∙◌}
use Rattle.wdf_netlist.specs.Statements.{element, last_circuit, load_said, rate_said, termination_said}
use Rattle.wdf_netlist.proofs.DraftLemmas.{keeps_element, more, own_part, rates_lost}
use Rattle.wdf_netlist.proofs.StatementLemmas.{said_same}
use Rattle.wdf_netlist.proofs.draft.Draft.say_element.Goals as goal

pub returns : goal.returns
returns c = λ before r.
    let s = element c.args.part in
    more c.args.self.now _ before s r refl
    (said_same rate_said before s refl ∙ r.rate)
    (said_same load_said before s refl ∙ r.load)
    (said_same termination_said before s refl ∙ r.termination)
    (rates_lost before s refl)
    refl
    (own_part c.args.self.now.own c.push.new.self (last_circuit before) c.args.part r.own c.in_ok-push.ensures)
    refl
    (keeps_element c.args.self.now _ c.args.part r.keeps c.in_ok-push.ensures c.requires.new c.requires.named c.requires.place refl refl refl refl refl)
