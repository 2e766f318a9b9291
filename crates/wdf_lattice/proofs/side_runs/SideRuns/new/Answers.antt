-- The accounts begin with the engine.
use Rattle.wdf_lattice.specs.declared.side_runs.SideRuns.{SideRuns}
use Rattle.wdf_lattice.proofs.BeginLemmas.{side_new}
use Rattle.std.proofs.Common.{◌≡◌, ◌∙◌}
use Rattle.wdf_lattice.proofs.side_runs.SideRuns.new.Goals as goal

pub returns : goal.returns
returns c =
    let x : SideRuns = record { engine = c.in_ok-engine.engine; ledger = c.in_ok-ledger.ledger } in
    let network : c.in_ok-schedule.schedule.net ≡ c.args.net.now = c.in_ok-schedule.ensures.network ∙ c.in_ok-copy.ensures in
    side_new c.args.net.now c.args.plan c.args.runs c.in_ok-schedule.schedule x c.frames_followed.ensures network c.in_ok-engine.ensures c.in_ok-ledger.ensures.net c.in_ok-ledger.ensures.accounts
