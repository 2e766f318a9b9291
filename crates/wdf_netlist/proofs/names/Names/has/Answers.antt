use Rattle.std.proofs.Common.{◌∙◌}
use Rattle.wdf_netlist.proofs.NameLemmas.{any_name}
use Rattle.wdf_netlist.proofs.names.Names.has.Goals as goal

pub returns : goal.returns
returns c = rw (← c.self.view_is) (c.contains.ensures ∙ any_name c.args.name.now c.self.inside.set.keys)
