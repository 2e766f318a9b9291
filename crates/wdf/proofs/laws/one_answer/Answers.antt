use Rattle.wdf.proofs.OneAnswer.{one_answer}
use Rattle.wdf.proofs.laws.one_answer.Goals as goal

pub returns : goal.returns
returns c =
    one_answer c.one_netlist.ensures c.one_design.ensures c.one_certifying.ensures c.one_loading.ensures c.one_checking.ensures c.one_opening.ensures
    c.one_answer.ensures.head c.one_bound.ensures c.one_end.ensures
