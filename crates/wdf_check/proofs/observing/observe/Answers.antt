use Rattle.std.proofs.Common.{◌≡◌, ◌++◌, ◌+◌, List, ℕ, map, sym, ap, ◌∙◌}
use Rattle.wdf_law.specs.Network.{reactances, absorbing_numbers}
use Rattle.wdf_residue.specs.Matrix.{column_entries}
use Rattle.wdf_check.specs.Observability.{observed_for}
use Rattle.wdf_check.specs.Stepping.{stepped, trajectory}
use Rattle.wdf_check.proofs.ObservingLemmas.{trajectories-next, observed-step, observed-more}
use Rattle.wdf_check.proofs.observing.observe.Goals as goal

pub loop-t-preserved : goal.loop-t-preserved
loop-t-preserved c =
    let step = c.in_ok-states-2.ensures in
    let rows = c.in_ok-push_observed.ensures in
    let states : c.in_ok-states-2.states.rows ≡ map (trajectory c.args.net.now (c.loop-t.t + 1)) (reactances c.args.net.now) =
    step.rows ∙ (ap (map (stepped c.args.net.now)) c.loop-t.invariant.states ∙ trajectories-next c.args.net.now c.numbers.ensures c.loop-t.t (reactances c.args.net.now)) in
    record {
      count = step.columns ∙ c.loop-t.invariant.count;
      states = states;
      width = rows.columns ∙ c.loop-t.invariant.width;
      whole = rows.rows
          ∙ ((λ j. c.loop-t.invariant.whole j ++ map (column_entries (states j)) (absorbing_numbers c.args.net.now))
          ∙ (ap (λ (more : List (List ℕ)). observed_for c.args.net.now c.loop-t.t ++ more) (observed-step c.args.net.now c.loop-t.t) ∙ sym (observed-more c.args.net.now c.loop-t.t)));
    }
