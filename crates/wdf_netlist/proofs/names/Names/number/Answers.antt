use Rattle.std.proofs.Common.{◌∙◌}
use Rattle.wdf_netlist.proofs.NameLemmas.{position_name}
use Rattle.wdf_netlist.proofs.names.Names.number.Goals as goal

pub returns : goal.returns
returns c = rw (← c.self.view_is) (c.get_index_of.ensures.index ∙ position_name c.args.name.now c.self.inside.set.keys)
