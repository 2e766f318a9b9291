-- A new ledger holds the frames of a new engine.
use Rattle.std.proofs.Common.{◌≡◌, ℕ, ◌<◌, length, replicate, get_or, sym, ap, ◌∙◌, subst}
use Rattle.std.specs.Prelude.{pos}
use Rattle.std.proofs.lemmas.List.{get_or-replicate, length-replicate}
use Rattle.wdf_law.specs.Network.{Network}
use Rattle.wdf_bounds.specs.Plans.{PlanOf}
use Rattle.wdf_energy.specs.Accounts.{LedgerOf, account_at, opened}
use Rattle.wdf_energy.specs.LedgerLaws.{FollowsFrames, HoldsFrames}
use Rattle.wdf_sched.specs.Schedules.{ScheduleValue}
use Rattle.wdf_loop.specs.Engines.{EngineValue, HoldsLedger, IsFresh, runs_of, sent_at}

pub fresh_held : (n : Network) (plan : PlanOf) (runs : ℕ) (s : ScheduleValue) (a : EngineValue) (l : LedgerOf) → FollowsFrames n plan → s.net ≡ n → IsFresh a s plan runs → l.net ≡ n → l.accounts ≡ replicate runs (opened n) → HoldsLedger a l
fresh_held n plan runs s a l follows network fresh net accounts =
    record { net = net ∙ sym own; count = ap length accounts ∙ (length-replicate runs (opened n) ∙ sym fresh.count); frames = frames }
  where
    own : a.schedule.net ≡ n
    own = ap (λ (t : ScheduleValue). t.net) fresh.schedules ∙ network

    opens : (run : ℕ) → run < runs → account_at l run ≡ opened n
    opens run few = (λ i. get_or (accounts i) run (opened (net i))) ∙ get_or-replicate runs run (opened n) (opened n) few

    frames : (run : ℕ) → run < runs_of a → HoldsFrames a.schedule.net a.plan a.done (sent_at a run) (account_at l run)
    frames run inside =
        let few : run < runs = subst (λ (k : ℕ). run < k) fresh.count inside in
        let none : HoldsFrames n plan 0 (sent_at a run) (opened n) = follows.held_alike 0 (λ (j : ℕ). pos 0) (sent_at a run) (opened n) (λ j below. sym (fresh.slots run _ few)) follows.begins in
        subst (λ (m : Network). HoldsFrames m a.plan a.done (sent_at a run) (account_at l run)) (sym own)
        (subst (λ (p : PlanOf). HoldsFrames n p a.done (sent_at a run) (account_at l run)) (sym fresh.plans)
        (subst (λ (k : ℕ). HoldsFrames n plan k (sent_at a run) (account_at l run)) (sym fresh.done)
        (subst (HoldsFrames n plan 0 (sent_at a run)) (sym (opens run few)) none)))
