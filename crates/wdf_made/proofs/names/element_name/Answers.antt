use Rattle.wdf_made.proofs.LadderLemmas.{element_named}
use Rattle.wdf_made.proofs.names.element_name.Goals as goal

pub numbered-requires-clause-name : goal.numbered-requires-clause-name
numbered-requires-clause-name c = element_named c.args.number c.requires
