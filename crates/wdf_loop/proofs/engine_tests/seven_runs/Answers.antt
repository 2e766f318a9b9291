use Rattle.std.proofs.Common.{◌≡◌, replicate, ap, sym, ◌∙◌, subst}
use Rattle.wdf_loop.proofs.BeginLemmas.{fresh_held}
use Rattle.wdf_loop.proofs.engine_tests.seven_runs.Goals as goal

pub returns-clause-ledger : goal.returns-clause-ledger
returns-clause-ledger c =
    fresh_held c.in_ok-net.net c.in-Some.plan 7 c.in_ok-compile.field-0 c.in_ok-engine.engine c.in_ok-ledger.ledger c.frames_followed.ensures c.in_ok-compile.ensures.network c.in_ok-engine.ensures c.in_ok-ledger.ensures.net
    c.in_ok-ledger.ensures.accounts
