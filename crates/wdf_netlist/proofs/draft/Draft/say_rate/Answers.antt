use Rattle.std.proofs.Common.{refl, ◌∙◌}
use Rattle.wdf_netlist.specs.Statements.{last_circuit, load_said, rate, rate_said, termination_said}
use Rattle.wdf_netlist.proofs.DraftLemmas.{keeps_same, more, own_same, rates_kept}
use Rattle.wdf_netlist.proofs.StatementLemmas.{said_new, said_same}
use Rattle.wdf_netlist.proofs.draft.Draft.say_rate.Goals as goal

pub returns : goal.returns
returns c = λ before r none.
    let s = rate c.args.frames in
    more c.args.self.now _ before s r refl
    (said_new rate_said before s c.args.frames none refl)
    (said_same load_said before s refl ∙ r.load)
    (said_same termination_said before s refl ∙ r.termination)
    (rates_kept before s refl ∙ r.only_rates)
    refl
    (own_same c.args.self.now.own (last_circuit before) s r.own refl refl)
    refl
    (keeps_same c.args.self.now _ r.keeps refl refl refl refl refl (λ only. only) c.requires.range r.keeps.own.root)
