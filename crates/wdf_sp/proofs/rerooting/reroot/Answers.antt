use Rattle.std.proofs.Common.{sym, subst}
use Rattle.wdf_law.specs.Outline.{outline}
use Rattle.wdf_sp.specs.Structure.{HasElements, Meets}
use Rattle.wdf_sp.specs.Rerooting.{rerooted}
use Rattle.wdf_sp.proofs.ElementLemmas.{has_elements}
use Rattle.wdf_sp.proofs.RerootingLemmas.{rerooted_meets}
use Rattle.wdf_sp.proofs.RootLemmas.{AreTreesOf, are_trees, AreUnflipped, rerooted_unflipped}
use Rattle.wdf_sp.proofs.rerooting.reroot.Goals as goal

pub returns-clause-meet : goal.returns-clause-meet
returns-clause-meet c = λ bs p q h. subst (Meets bs) (sym c.rooted.ensures) (rerooted_meets bs c.args.source c.args.at (outline c.args.shape) p q h)

pub returns-clause-elements : goal.returns-clause-elements
returns-clause-elements c = λ bs p q h. subst (HasElements bs) (sym c.rooted.ensures) (has_elements bs (rerooted (outline c.args.shape) c.args.source c.args.at) (rerooted_meets bs c.args.source c.args.at (outline c.args.shape) p q h))

pub returns-clause-source : goal.returns-clause-source
returns-clause-source c = λ h. subst (AreUnflipped c.args.source) (sym c.rooted.ensures) (rerooted_unflipped (outline c.args.shape) c.args.source c.args.at h)

pub returns-clause-leaves : goal.returns-clause-leaves
returns-clause-leaves c = (subst (AreTreesOf (outline c.args.shape)) (sym c.rooted.ensures) (are_trees (outline c.args.shape) c.args.source c.args.at)).leaves

pub returns-clause-depth : goal.returns-clause-depth
returns-clause-depth c = let w = subst (AreTreesOf (outline c.args.shape)) (sym c.rooted.ensures) (are_trees (outline c.args.shape) c.args.source c.args.at) in (w.left, w.right)
