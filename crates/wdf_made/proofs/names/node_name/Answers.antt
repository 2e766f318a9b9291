use Rattle.wdf_made.proofs.LadderLemmas.{node_named}
use Rattle.wdf_made.proofs.names.node_name.Goals as goal

pub numbered-requires-clause-name : goal.numbered-requires-clause-name
numbered-requires-clause-name c = node_named c.args.number c.requires
