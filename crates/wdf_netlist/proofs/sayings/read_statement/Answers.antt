use Rattle.std.proofs.Common.{refl, sym, ◌∙◌}
use Rattle.wdf_netlist.proofs.sayings.read_statement.Goals as goal

pub returns-in-None : goal.returns-in-None
returns-in-None c = λ before r.
    let none = sym c.keyword_of.ensures ∙ c.in-None.is in
    rw (c.first_fault.ensures c.args.text.now, none) refl
