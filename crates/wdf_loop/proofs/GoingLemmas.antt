-- Several runs that go on, with their accounts in a ledger.
use Rattle.std.proofs.Common.{◌≡◌, ℕ, ◌+◌, ◌-◌, ◌*◌, ◌<◌, ◌≤◌, ◌^◌, List, length, map, ap, sym, ◌∙◌, subst, arith}
use Rattle.std.specs.Prelude.{ℤ, pos, slice_index_or, unsigned_abs}
use Rattle.std.proofs.Math.Nat.{pow-le-pow_right}
use Rattle.wdf_law.specs.Elements.{signed}
use Rattle.wdf_law.specs.Network.{Network, absorbing_numbers, source_numbers}
use Rattle.wdf_law.specs.OutputRule.{scaled_up}
use Rattle.wdf_law.specs.TreeRules.{HasNumbers}
use Rattle.wdf_bounds.specs.Plans.{PlanOf}
use Rattle.wdf_energy.specs.Accounts.{LedgerOf, account_at}
use Rattle.wdf_energy.specs.Blocks.{AreLast, FollowsBlocks, HasRoomFor, HaveSent, NotesOver, frame_column}
use Rattle.wdf_energy.specs.LedgerLaws.{FollowsFrames}
use Rattle.wdf_sched.specs.Carrying.{HasValues}
use Rattle.wdf_sched.specs.Schedules.{IsSchedule, ScheduleValue}
use Rattle.wdf_loop.specs.declared.cell.Cell.{Cell}
use Rattle.wdf_loop.specs.declared.chain.Chain.{Chain}
use Rattle.wdf_loop.specs.declared.feed.Feed.{Feed}
use Rattle.wdf_loop.specs.declared.mark.Mark.{Mark}
use Rattle.wdf_loop.specs.declared.outlet.Outlet.{Outlet}
use Rattle.wdf_loop.specs.declared.part.Part.{Part}
use Rattle.wdf_loop.specs.declared.share.Share.{Share}
use Rattle.wdf_loop.specs.Advances.{AllAreAt, AllGoOn, root_of}
use Rattle.wdf_loop.specs.Blocks.{frame_values}
use Rattle.wdf_loop.specs.Inputs.{AreAllowed}
use Rattle.wdf_loop.specs.Layouts.{IsLayout}
use Rattle.wdf_loop.specs.Parts.{AreWithin, HasParts, IsOutlet, load_in, sent_last, watched_in}
use Rattle.wdf_loop.specs.RunAccounts.{AreNoted, HaveRoom, HoldRuns, KeepsAccounts}
use Rattle.wdf_loop.specs.RunFrames.{RunsOn, samples_of}
use Rattle.wdf_loop.specs.SlotValues.{sent_by, state_by, value_in}
use Rattle.wdf_loop.proofs.InputLemmas.{are_inputs}
use Rattle.wdf_loop.proofs.RunsOnLemmas.{IsGoing, at_end, held_on, last_sent, load_small, room_for, runs_on, sent_over}

-- the parts are those of stages
pub parts_within : (s : ScheduleValue) (shares : List Share) (marks : List Mark) (chains : List Chain) (feeds : List Feed) (every absorbing : List Part) (stages : ℕ) → IsLayout s shares marks chains feeds
    → HasParts s (root_of shares) marks every absorbing → stages ≡ length shares → AreWithin stages every
parts_within s shares marks chains feeds every absorbing stages lay parts long i small =
    let own = parts.all.each i (omega (arith, small, parts.all.count_is)) in omega (arith, own.inside, long, lay.shares_count)

module _ (runs first : ℕ) (s : ScheduleValue) (plan : PlanOf) (done count : ℕ) (shares : List Share) (marks : List Mark) (chains : List Chain) (feeds : List Feed) (cells behind : List (List Cell)) (rows waves : List (List ℤ)) where
  pub all_going : IsLayout s shares marks chains feeds → IsSchedule s → HasNumbers s.net → HasValues s → length cells ≡ length shares → length behind ≡ length shares → length rows ≡ count * length feeds
      → 1 ≤ count → done + count ≤ plan.frames → AreAllowed runs plan rows → AllAreAt runs s plan done shares marks chains feeds cells → AllGoOn runs s plan done count shares marks chains feeds cells rows behind waves
      → (c : ℕ) → c < runs → IsGoing s plan done count shares marks chains feeds cells behind rows waves c
  all_going lay rules numbers values long long_behind rows_long some frames allowed at goes c small = record {
    layout = lay;
    rules = rules;
    numbers = numbers;
    values = values;
    long = long;
    long_behind = long_behind;
    rows_long = rows_long ∙ ap (λ (n : ℕ). count * n) lay.feeds_count;
    some = some;
    frames = frames;
    inputs = λ f h. are_inputs runs s plan count feeds rows allowed c f small h;
    at = at c small;
    goes = goes c small (at c small);
  }

  module _ (going : (c : ℕ) → c < runs → IsGoing s plan done count shares marks chains feeds cells behind rows waves c) where
    pub all_at : AllAreAt runs s plan (done + count) shares marks chains feeds behind
    all_at c small = let g = going c small in at_end s plan done count shares marks chains feeds g.at.slots rows behind waves c g.goes

    -- the load waves are words
    pub loads_small : (every absorbing : List Part) (o : Outlet) (width : ℕ) → HasParts s (root_of shares) marks every absorbing → IsOutlet s.net o → width ≡ length (absorbing_numbers s.net)
        → (f c : ℕ) → f < count → c < runs → unsigned_abs (watched_in width waves o.place f c) ≤ 2 ^ 60
    loads_small every absorbing o width parts outlet is f c h small =
        let least : 60 - plan.k ≤ 60 = omega arith in
        let most : 2 ^ (60 - plan.k) ≤ 2 ^ 60 = pow-le-pow_right (omega arith) least in
        let own = load_small s plan done count shares marks chains feeds cells behind rows waves c (going c small) every absorbing o parts outlet f h in
        subst (λ (n : ℕ). unsigned_abs (watched_in n waves o.place f c) ≤ 2 ^ 60) (sym is) (omega (arith, most, own))

    -- there is room for the frames in accounts that hold those before
    pub rooms : (l : LedgerOf) → FollowsBlocks s.net plan → HoldRuns runs first s plan done shares marks cells l → HaveRoom runs first count rows waves l
    rooms l blocks hold c small =
        subst (λ (n : Network). HasRoomFor n count (frame_column (length (source_numbers n)) rows c) waves c (account_at l (first + c))) (sym hold.net)
        (room_for s plan done count shares marks chains feeds cells behind rows waves c (going c small) blocks (account_at l (first + c)) (hold.holds c small))

    module _ (every absorbing : List Part) (l m : LedgerOf) (parts : HasParts s (root_of shares) marks every absorbing) (hold : HoldRuns runs first s plan done shares marks cells l)
        (noted : AreNoted runs first count every behind rows waves l m) where
      notes_over : (c : ℕ) (small : c < runs) → NotesOver s.net count (frame_column (length (source_numbers s.net)) rows c) (sent_over s (going c small).goes.slots) (account_at l (first + c)) (account_at m (first + c))
      notes_over c small =
          let sent = subst (λ (n : Network). HaveSent n count (sent_over s (going c small).goes.slots) waves c) (sym hold.net) (going c small).goes.sent in
          let last = subst (λ (n : Network). AreLast n count (sent_over s (going c small).goes.slots) (sent_last every behind c)) (sym hold.net)
          (last_sent s plan done count shares marks chains feeds cells behind rows waves c (going c small) every absorbing parts) in
          subst (λ (n : Network). NotesOver n count (frame_column (length (source_numbers n)) rows c) (sent_over s (going c small).goes.slots) (account_at l (first + c)) (account_at m (first + c))) hold.net
          (noted c small (sent_over s (going c small).goes.slots) sent last)

      -- and they hold these too when they are noted
      pub hold_on : FollowsBlocks s.net plan → KeepsAccounts runs first l m → HoldRuns runs first s plan (done + count) shares marks behind m
      hold_on blocks keeps = record {
        net = keeps.net ∙ hold.net;
        inside = omega (arith, keeps.count, hold.inside);
        holds = λ c small.
            held_on s plan done count shares marks chains feeds cells behind rows waves c (going c small) blocks (account_at l (first + c)) (account_at m (first + c)) (hold.holds c small) (notes_over c small);
      }

      -- the runs go on, those from `first` on of `all`
      pub all_on : (o : Outlet) (all width : ℕ) (input output : List ℤ) → IsOutlet s.net o → FollowsFrames s.net plan → width ≡ length (absorbing_numbers s.net)
          → ((f c : ℕ) → f < count → c < runs → frame_values (length feeds) rows f c ≡ map (scaled_up plan.guard) (samples_of all (length (source_numbers s.net)) (first + c) f input))
          → ((f c : ℕ) → f < count → c < runs → slice_index_or output (f * all + (first + c)) (pos 0) ≡ load_in width o waves f c)
          → (c : ℕ) → c < runs → RunsOn s.net plan all count input output (first + c) (state_by s shares marks cells c) (state_by s shares marks behind c) (value_in shares marks behind c) (sent_by s shares marks behind c)
          (account_at l (first + c)) (account_at m (first + c))
      all_on o all width input output outlet frames is taken given c small =
          runs_on s plan done count shares marks chains feeds cells behind rows waves c (going c small) all (first + c) every absorbing o input output (account_at l (first + c)) (account_at m (first + c)) parts outlet frames
          (λ f h. taken f c h small)
          (λ f h. given f c h small ∙ ap (λ (n : ℕ). signed o.flip (watched_in n waves o.place f c)) is)
          (notes_over c small)
