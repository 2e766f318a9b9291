use Rattle.wdf_loop.specs.Chains.{AreChainsBefore}
use Rattle.wdf_loop.proofs.chains.chains_of.Given as goal

abbrev pub invariant-loop-stage : goal.invariant-loop-stage
invariant-loop-stage l = AreChainsBefore l.net l.marks l.stage l.chains.items
