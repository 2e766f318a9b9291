-- Runs begin at rest, with accounts of no frame.
use Rattle.std.proofs.Common.{◌≡◌, ℕ, ◌<◌, length, replicate, get_or, refl, sym, ap, ◌∙◌, subst}
use Rattle.std.specs.Prelude.{pos}
use Rattle.std.proofs.lemmas.List.{get_or-replicate, length-replicate}
use Rattle.wdf_law.specs.declared.side.Side.{Side}
use Rattle.wdf_law.specs.declared.side.Side.TheVariants.{Whole, A, B}
use Rattle.wdf_law.specs.Network.{Network}
use Rattle.wdf_law.specs.Run.{at_rest}
use Rattle.wdf_bounds.specs.Plans.{PlanOf}
use Rattle.wdf_energy.specs.Accounts.{account_at, opened}
use Rattle.wdf_energy.specs.LedgerLaws.{FollowsFrames, HoldsFrames}
use Rattle.wdf_sched.specs.Schedules.{ScheduleValue}
use Rattle.wdf_loop.specs.Engines.{IsFresh, runs_of, sent_at}
use Rattle.wdf_lattice.specs.declared.engines.Engines.{Engines}
use Rattle.wdf_lattice.specs.declared.engines.Engines.TheVariants.{One, Two}
use Rattle.wdf_lattice.specs.declared.networks.Networks.{Networks}
use Rattle.wdf_lattice.specs.declared.networks.Networks.TheVariants.{Ladder, Lattice}
use Rattle.wdf_lattice.specs.declared.side_runs.SideRuns.{SideRuns}
use Rattle.wdf_lattice.specs.Runners.{AreAtRest, AreOpened, accounts_by, slots_by, states_by}
use Rattle.wdf_lattice.specs.RunSides.{AreAlike, AreNewSides, IsNewSide, done_by, networks_by, plan_by, runs_by}

-- ---- of one network

-- a new ledger holds the frames of a new engine
pub side_new : (n : Network) (plan : PlanOf) (runs : ℕ) (s : ScheduleValue) (x : SideRuns) → FollowsFrames n plan → s.net ≡ n → IsFresh x.engine s plan runs → x.ledger.net ≡ n
    → x.ledger.accounts ≡ replicate runs (opened n) → IsNewSide n plan runs x
side_new n plan runs s x follows network fresh net accounts = record {
  net = own;
  plans = fresh.plans;
  runs_are = fresh.count;
  none_done = fresh.done;
  held = record { net = net ∙ sym own; count = ap length accounts ∙ (length-replicate runs (opened n) ∙ sym fresh.count); frames = frames };
  rest = λ run few. fresh.state run few ∙ ap at_rest network;
  opens = opens;
  silent = λ run slot few. fresh.slots run slot few;
}
  where
    own : x.engine.schedule.net ≡ n
    own = ap (λ (t : ScheduleValue). t.net) fresh.schedules ∙ network

    opens : (run : ℕ) → run < runs → account_at x.ledger run ≡ opened n
    opens run few = (λ i. get_or (accounts i) run (opened (net i))) ∙ get_or-replicate runs run (opened n) (opened n) few

    frames : (run : ℕ) → run < runs_of x.engine → HoldsFrames x.engine.schedule.net x.engine.plan x.engine.done (sent_at x.engine run) (account_at x.ledger run)
    frames run inside =
        let few : run < runs = subst (λ (k : ℕ). run < k) fresh.count inside in
        let none : HoldsFrames n plan 0 (sent_at x.engine run) (opened n)
        = follows.held_alike 0 (λ (j : ℕ). pos 0) (sent_at x.engine run) (opened n) (λ j below. sym (fresh.slots run _ few)) follows.begins in
        subst (λ (m : Network). HoldsFrames m x.engine.plan x.engine.done (sent_at x.engine run) (account_at x.ledger run)) (sym own)
        (subst (λ (p : PlanOf). HoldsFrames n p x.engine.done (sent_at x.engine run) (account_at x.ledger run)) (sym fresh.plans)
        (subst (λ (k : ℕ). HoldsFrames n plan k (sent_at x.engine run) (account_at x.ledger run)) (sym fresh.done)
        (subst (HoldsFrames n plan 0 (sent_at x.engine run)) (sym (opens run few)) none)))

-- ---- of all networks

-- what a runner says of its beginning, and what it keeps from there on
pub record Begins (ns : Networks) (plan : PlanOf) (runs : ℕ) (es : Engines) : Type 0 where
  pub rest : AreAtRest ns runs (states_by es)
  pub opens : AreOpened ns runs (accounts_by es)
  pub silent : (side : Side) (run slot : ℕ) → run < runs → slots_by es side run slot ≡ pos 0
  pub none_done : done_by es ≡ 0
  pub alike : AreAlike es
  pub networks_are : networks_by es ≡ ns
  pub plan_is : plan_by es ≡ plan
  pub runs_are : runs_by es ≡ runs

one_begins : (n : Network) (plan : PlanOf) (runs : ℕ) (x : SideRuns) → IsNewSide n plan runs x → Begins (Ladder n) plan runs (One x)
one_begins n plan runs x new = record {
  rest = rest;
  opens = opens;
  silent = silent;
  none_done = new.none_done;
  alike = new.held;
  networks_are = ap Ladder new.net;
  plan_is = new.plans;
  runs_are = new.runs_are;
}
  where
    rest : AreAtRest (Ladder n) runs (states_by (One x))
    rest Whole run few = new.rest run few
    rest A run few = refl
    rest B run few = refl

    opens : AreOpened (Ladder n) runs (accounts_by (One x))
    opens Whole run few = new.opens run few
    opens A run few = refl
    opens B run few = refl

    silent : (side : Side) (run slot : ℕ) → run < runs → slots_by (One x) side run slot ≡ pos 0
    silent Whole run slot few = new.silent run slot few
    silent A run slot few = refl
    silent B run slot few = refl

two_begin : (a b : Network) (plan : PlanOf) (runs : ℕ) (x y : SideRuns) → IsNewSide a plan runs x → IsNewSide b plan runs y → Begins (Lattice a b) plan runs (Two x y)
two_begin a b plan runs x y first second = record {
  rest = rest;
  opens = opens;
  silent = silent;
  none_done = first.none_done;
  alike = (first.held, second.held, second.plans ∙ sym first.plans, second.runs_are ∙ sym first.runs_are, second.none_done ∙ sym first.none_done);
  networks_are = λ i. Lattice (first.net i) (second.net i);
  plan_is = first.plans;
  runs_are = first.runs_are;
}
  where
    rest : AreAtRest (Lattice a b) runs (states_by (Two x y))
    rest Whole run few = refl
    rest A run few = first.rest run few
    rest B run few = second.rest run few

    opens : AreOpened (Lattice a b) runs (accounts_by (Two x y))
    opens Whole run few = refl
    opens A run few = first.opens run few
    opens B run few = second.opens run few

    silent : (side : Side) (run slot : ℕ) → run < runs → slots_by (Two x y) side run slot ≡ pos 0
    silent Whole run slot few = refl
    silent A run slot few = first.silent run slot few
    silent B run slot few = second.silent run slot few

pub all_begin : (ns : Networks) (plan : PlanOf) (runs : ℕ) (es : Engines) → AreNewSides ns plan runs es → Begins ns plan runs es
all_begin (Ladder n) plan runs (One x) new = one_begins n plan runs x new
all_begin (Ladder n) plan runs (Two x y) new = absurd new
all_begin (Lattice a b) plan runs (One x) new = absurd new
all_begin (Lattice a b) plan runs (Two x y) new = two_begin a b plan runs x y new.0 new.1
