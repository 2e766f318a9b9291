use Rattle.std.proofs.Common.{refl, ◌∙◌}
use Rattle.wdf_netlist.specs.Statements.{last_circuit, load_said, lattice, rate_said, termination_said}
use Rattle.wdf_netlist.proofs.DraftLemmas.{keeps_lattice, more, no_first, own_same, rates_lost}
use Rattle.wdf_netlist.proofs.StatementLemmas.{said_new, said_same}
use Rattle.wdf_netlist.proofs.draft.Draft.say_lattice.Goals as goal

pub returns : goal.returns
returns c = λ before r none.
    let s = lattice c.args.value in
    more c.args.self.now _ before s r refl
    (said_same rate_said before s refl ∙ r.rate)
    (said_same load_said before s refl ∙ r.load)
    (said_new termination_said before s c.args.value none refl)
    (rates_lost before s refl)
    refl
    (own_same c.args.self.now.own (last_circuit before) s r.own refl refl)
    refl
    (keeps_lattice c.args.self.now _ c.args.value r.keeps c.requires.rates (no_first c.args.self.now before r c.requires.rates) c.requires.value refl refl refl refl refl refl)
