use Rattle.std.proofs.Common.{refl, ◌∙◌}
use Rattle.wdf_netlist.specs.Statements.{last_circuit, load, load_said, rate_said, termination_said}
use Rattle.wdf_netlist.proofs.DraftLemmas.{keeps_same, more, not_rates, own_same, rates_lost}
use Rattle.wdf_netlist.proofs.StatementLemmas.{said_new, said_same}
use Rattle.wdf_netlist.proofs.draft.Draft.say_load.Goals as goal

pub returns : goal.returns
returns c = λ before r none.
    let s = load c.args.name in
    more c.args.self.now _ before s r refl
    (said_same rate_said before s refl ∙ r.rate)
    (said_new load_said before s c.args.name none refl)
    (said_same termination_said before s refl ∙ r.termination)
    (rates_lost before s refl)
    refl
    (own_same c.args.self.now.own (last_circuit before) s r.own refl refl)
    refl
    (keeps_same c.args.self.now _ r.keeps refl refl refl refl refl not_rates r.keeps.rate r.keeps.own.root)
