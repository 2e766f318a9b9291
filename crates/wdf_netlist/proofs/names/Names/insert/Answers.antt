use Rattle.std.proofs.Common.{◌∙◌}
use Rattle.wdf_netlist.proofs.NameLemmas.{inserted_name}
use Rattle.wdf_netlist.proofs.names.Names.insert.Goals as goal

pub returns : goal.returns
returns c = rw (← c.self.view_is) (c.in_ok-insert.ensures.keys ∙ inserted_name c.args.name c.self.inside.set.keys)
