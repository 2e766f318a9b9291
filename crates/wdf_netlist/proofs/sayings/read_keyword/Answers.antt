use Rattle.std.proofs.Common.{refl, sym, ◌∙◌}
use Rattle.wdf_netlist.proofs.sayings.read_keyword.Goals as goal

pub returns-in-Some : goal.returns-in-Some
returns-in-Some c = λ text before r.
    let fault = sym (c.keyword_fault.ensures.fault before r) ∙ c.in-Some.is in
    rw (c.first_fault.ensures text, fault) refl
