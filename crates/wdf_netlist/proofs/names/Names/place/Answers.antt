use Rattle.std.proofs.Common.{◌∙◌, ap, length}
use Rattle.wdf_netlist.proofs.NameLemmas.{no_place}
use Rattle.wdf_netlist.proofs.names.Names.place.Goals as goal

pub returns-in-None-clause-place : goal.returns-in-None-clause-place
returns-in-None-clause-place c = c.len.ensures.len ∙ ap length c.self.view_is ∙ no_place c.args.name.now c.args.self.now c.in-None.ensures
