use Rattle.wdf_words.specs.Orders.{order_of}
use Rattle.wdf.proofs.OneAnswer.{complete}
use Rattle.wdf.proofs.laws.completeness.Goals as goal

pub returns : goal.returns
returns c w s all refused =
    complete c.one_netlist.ensures c.one_design.ensures c.one_certifying.ensures c.one_loading.ensures c.one_checking.ensures c.one_opening.ensures
    c.one_answer.ensures.head c.one_bound.ensures c.one_end.ensures (order_of w.words) w s all refused
