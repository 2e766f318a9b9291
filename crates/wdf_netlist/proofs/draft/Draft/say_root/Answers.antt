use Rattle.std.proofs.Common.{refl, ◌∙◌}
use Rattle.wdf_netlist.specs.Statements.{last_circuit, load_said, rate_said, root, termination_said}
use Rattle.wdf_netlist.proofs.DraftLemmas.{keeps_same, more, not_rates, own_root, rates_lost}
use Rattle.wdf_netlist.proofs.StatementLemmas.{said_same}
use Rattle.wdf_netlist.proofs.draft.Draft.say_root.Goals as goal

pub returns : goal.returns
returns c = λ before r none.
    let s = root c.args.line in
    more c.args.self.now _ before s r refl
    (said_same rate_said before s refl ∙ r.rate)
    (said_same load_said before s refl ∙ r.load)
    (said_same termination_said before s refl ∙ r.termination)
    (rates_lost before s refl)
    refl
    (own_root c.args.self.now.own _ (last_circuit before) c.args.line r.own none refl refl refl)
    refl
    (keeps_same c.args.self.now _ r.keeps refl refl refl refl refl not_rates r.keeps.rate c.requires)
