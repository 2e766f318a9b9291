use Rattle.std.proofs.Common.{refl, arith}
use Rattle.wdf_netlist.proofs.DraftLemmas.{begun, first_none, keeps_branch}
use Rattle.wdf_netlist.proofs.draft.Draft.begin_first.Goals as goal

pub returns : goal.returns
returns c = λ before p r lattice alone.
    begun c.args.self.now _ before p r refl refl refl refl refl alone.parts alone.names alone.root (first_none c.args.self.now before p r c.requires)
    (keeps_branch c.args.self.now _ p r.keeps alone lattice refl r.keeps.first refl refl (omega arith))
