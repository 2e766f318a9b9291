use Rattle.std.proofs.Common.{◌+◌, ◌<◌, ◌≤◌, List, length, ap, sym, ◌∙◌, subst, arith}
use Rattle.wdf_law.specs.Network.{elements}
use Rattle.wdf_loop.specs.declared.chain.Chain.{Chain}
use Rattle.wdf_loop.specs.Chains.{AreChainsBefore}
use Rattle.wdf_loop.specs.Layouts.{mark_at}
use Rattle.wdf_loop.proofs.ChainLemmas.{push_chain, skip_stage}
use Rattle.wdf_loop.proofs.chains.chains_of.Goals as goal
use Rattle.wdf_loop.proofs.chains.chains_of.Goals.{then-marks-stage+in_ok-push, else-marks-stage}

pub loop-stage-preserved : goal.loop-stage-preserved
loop-stage-preserved c =
    let n = c.args.net.now in
    let marks = c.args.marks.now in
    let s = c.loop-stage.stage in
    let count = c.count_of-count.ensures.value in
    elim c.if-marks-stage.branch [
      | then-marks-stage+in_ok-push w ↦
          let begins : (mark_at marks s).below < length (elements n) = omega (arith, w.if-marks-stage.true, count) in
          subst (λ (cs : List Chain). AreChainsBefore n marks (s + 1) cs) (sym (ap (λ v. v.items) w.chains-is ∙ w.in_ok-push.ensures.items))
          (push_chain n marks s c.loop-stage.chains.items w.chain_from.result c.loop-stage.invariant c.loop-stage-test.true begins
          w.chain_from.ensures.first w.chain_from.ensures.chain)
      | else-marks-stage w ↦
          let none : length (elements n) ≤ (mark_at marks s).below = omega (arith, w.if-marks-stage.false, count) in
          subst (λ (cs : List Chain). AreChainsBefore n marks (s + 1) cs) (sym (ap (λ v. v.items) w.chains-is))
          (skip_stage n marks s c.loop-stage.chains.items c.loop-stage.invariant c.requires.first none)
    ]
