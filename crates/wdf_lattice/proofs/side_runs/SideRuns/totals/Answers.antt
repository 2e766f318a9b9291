-- The totals of an account that holds an engine's frames are numbers of 128 bits.
use Rattle.std.proofs.Common.{sym, ap, ◌∙◌, subst}
use Rattle.wdf_law.specs.Network.{Network}
use Rattle.wdf_bounds.specs.Plans.{PlanOf}
use Rattle.wdf_energy.specs.Accounts.{FitTotals, account_at, totals_of}
use Rattle.wdf_energy.specs.LedgerLaws.{FollowsFrames}
use Rattle.wdf_sched.specs.Schedules.{ScheduleValue}
use Rattle.wdf_loop.specs.Engines.{sent_at}
use Rattle.wdf_lattice.proofs.side_runs.SideRuns.totals.Goals as goal

pub totals-requires-clause-fits : goal.totals-requires-clause-fits
totals-requires-clause-fits c =
    let a = c.args.self.now.engine in
    let l = c.args.self.now.ledger in
    let run = c.args.run in
    let held = c.requires.held in
    let follows : FollowsFrames c.args.self.now.engine.schedule.net c.args.self.now.engine.plan
    = subst (λ (p : PlanOf). FollowsFrames c.args.self.now.engine.schedule.net p) c.requires.plan
    (subst (λ (n : Network). FollowsFrames n c.args.plan.now) (c.net.ensures ∙ ap (λ (s : ScheduleValue). s.net) c.schedule.ensures) c.frames_followed.ensures) in
    subst (λ (n : Network). FitTotals (totals_of n (account_at l run))) (sym held.net)
    (follows.fits a.done (sent_at a run) (account_at l run) c.rules.ensures.frames (held.frames run c.requires.run))
