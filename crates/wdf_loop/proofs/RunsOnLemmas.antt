-- A run that goes on by its slots goes on by what its elements are sent, and so does its account.
use Rattle.std.proofs.Common.{◌≡◌, ℕ, ◌+◌, ◌*◌, ◌<◌, ◌≤◌, Bool, true, false, List, length, map, refl, ap, sym, ◌∙◌, subst, arith}
use Rattle.std.specs.Prelude.{ℤ, pos, replicate, slice_index_or, unsigned_abs}
use Rattle.std.specs.List.{range_with_len}
use Rattle.std.proofs.lemmas.List.{length-replicate}
use borrow.Author.Differences.{ints}
use Rattle.wdf_law.specs.Elements.{signed}
use Rattle.wdf_law.specs.Network.{absorbing_numbers, elements, has_reactance, source_numbers}
use Rattle.wdf_law.specs.OutputRule.{drive, load_wave, outlet_element, scaled_up}
use Rattle.wdf_law.specs.Run.{at_rest, source_values, states}
use Rattle.wdf_law.specs.Step.{IsStep, sent_in}
use Rattle.wdf_law.specs.TreeRules.{HasNumbers}
use Rattle.wdf_bounds.specs.HeldWords.{IsInput, IsReached}
use Rattle.wdf_bounds.specs.Plans.{PlanOf}
use Rattle.wdf_bounds.specs.WordBound.{word_limit}
use Rattle.wdf_energy.specs.Accounts.{AccountOf, noted}
use Rattle.wdf_energy.specs.Blocks.{AreLast, FollowsBlocks, HasRoomFor, NotesOver, StepsOver, frame_column}
use Rattle.wdf_energy.specs.LedgerLaws.{FollowsFrames, HoldsFrames}
use Rattle.wdf_sched.specs.Carrying.{HasValues}
use Rattle.wdf_sched.specs.Meaning.{Starts, slot_at}
use Rattle.wdf_sched.specs.Operations.{Slots}
use Rattle.wdf_sched.specs.Schedules.{IsSchedule, ScheduleValue}
use Rattle.wdf_sched.proofs.ListLemmas.{grows}
use Rattle.wdf_loop.specs.declared.cell.Cell.{Cell}
use Rattle.wdf_loop.specs.declared.chain.Chain.{Chain}
use Rattle.wdf_loop.specs.declared.feed.Feed.{Feed}
use Rattle.wdf_loop.specs.declared.mark.Mark.{Mark}
use Rattle.wdf_loop.specs.declared.outlet.Outlet.{Outlet}
use Rattle.wdf_loop.specs.declared.part.Part.{Part}
use Rattle.wdf_loop.specs.declared.share.Share.{Share}
use Rattle.wdf_loop.specs.Advances.{GoesOn, IsAt, root_of}
use Rattle.wdf_loop.specs.Blocks.{frame_values}
use Rattle.wdf_loop.specs.Layouts.{IsLayout}
use Rattle.wdf_loop.specs.NextFrames.{state_in}
use Rattle.wdf_loop.specs.Parts.{HasParts, IsOutlet, absorbing_at, part_at, sent_last, watched_in}
use Rattle.wdf_loop.specs.RunCells.{silent}
use Rattle.wdf_loop.specs.RunFrames.{RunsOn, samples_of}
use Rattle.wdf_loop.specs.Shows.{AllShow}
use Rattle.wdf_loop.specs.SlotValues.{sent_by, state_by, value_in}
use Rattle.wdf_loop.proofs.AdvanceLemmas.{last_root}
use Rattle.wdf_loop.proofs.BlockLemmas.{part-sent}
use Rattle.wdf_loop.proofs.DriveLemmas.{driven, frame_long}
use Rattle.wdf_loop.proofs.HistoryLemmas.{part_small}
use Rattle.wdf_loop.proofs.NextLemmas.{map-filter, reactance_below, silence}
use Rattle.wdf_loop.proofs.PartLemmas.{absorbing_below}
use Rattle.wdf_loop.proofs.RestLemmas.{silent_shows}
use Rattle.wdf_loop.proofs.ValueLemmas.{value_is}

-- an element was sent the value of its down slot
pub sent_is : (s : ScheduleValue) (shares : List Share) (marks : List Mark) (chains : List Chain) (feeds : List Feed) (g : Slots) (cells : List (List Cell)) (c i : ℕ) → IsLayout s shares marks chains feeds → IsSchedule s
    → length cells ≡ length shares → AllShow (root_of shares) shares marks g cells c → i < length (elements s.net) → sent_by s shares marks cells c i ≡ g (slot_at s.down_slots i)
sent_is s shares marks chains feeds g cells c i lay rules long shows small =
    value_is s shares marks chains feeds g cells c (slot_at s.down_slots i) lay long
    (subst (λ (k : ℕ). AllShow k shares marks g cells c) (sym (last_root s shares marks chains feeds lay)) shows) (rules.in_range i small)

-- so these are the state
pub state_at : (s : ScheduleValue) (shares : List Share) (marks : List Mark) (chains : List Chain) (feeds : List Feed) (g : Slots) (cells : List (List Cell)) (c : ℕ) → IsLayout s shares marks chains feeds → IsSchedule s → HasNumbers s.net
    → length cells ≡ length shares → AllShow (root_of shares) shares marks g cells c → state_in s g ≡ state_by s shares marks cells c
state_at s shares marks chains feeds g cells c lay rules numbers long shows =
    map-filter (has_reactance (elements s.net)) (λ (i : ℕ). g (slot_at s.down_slots i)) (sent_by s shares marks cells c) (range_with_len 0 (length (elements s.net)))
    (λ i h. sym (sent_is s shares marks chains feeds g cells c i lay rules long shows (reactance_below s.net i numbers h)))

-- what a run at rest was sent
pub rest_sent : (s : ScheduleValue) (shares : List Share) (marks : List Mark) (chains : List Chain) (feeds : List Feed) (runs c i : ℕ) → IsLayout s shares marks chains feeds → IsSchedule s → i < length (elements s.net)
    → sent_by s shares marks (replicate (length shares) (replicate runs silent)) c i ≡ pos 0
rest_sent s shares marks chains feeds runs c i lay rules small =
    sent_is s shares marks chains feeds silence (replicate (length shares) (replicate runs silent)) c i lay rules (length-replicate (length shares) (replicate runs silent))
    (silent_shows (root_of shares) runs (length shares) c shares marks) small

pub rest_state : (s : ScheduleValue) (shares : List Share) (marks : List Mark) (chains : List Chain) (feeds : List Feed) (runs c : ℕ) → IsLayout s shares marks chains feeds → IsSchedule s → HasNumbers s.net
    → state_by s shares marks (replicate (length shares) (replicate runs silent)) c ≡ at_rest s.net
rest_state s shares marks chains feeds runs c lay rules numbers =
    map-filter (has_reactance (elements s.net)) (sent_by s shares marks (replicate (length shares) (replicate runs silent)) c) (λ (i : ℕ). pos 0) (range_with_len 0 (length (elements s.net)))
    (λ i h. rest_sent s shares marks chains feeds runs c i lay rules (reactance_below s.net i numbers h))

-- the state of a run is one that its frames may have reached
pub reached_at : (s : ScheduleValue) (plan : PlanOf) (done : ℕ) (shares : List Share) (marks : List Mark) (chains : List Chain) (feeds : List Feed) (cells : List (List Cell)) (c : ℕ) → IsLayout s shares marks chains feeds → IsSchedule s
    → HasNumbers s.net → length cells ≡ length shares → IsAt s plan done shares marks chains feeds cells c → IsReached s.net plan done (state_by s shares marks cells c)
reached_at s plan done shares marks chains feeds cells c lay rules numbers long at =
    subst (IsReached s.net plan done) (state_at s shares marks chains feeds at.slots cells c lay rules numbers long at.shows) at.stands.reached

-- and it stands where its frames have led
pub at_end : (s : ScheduleValue) (plan : PlanOf) (done count : ℕ) (shares : List Share) (marks : List Mark) (chains : List Chain) (feeds : List Feed) (before : Slots) (rows : List (List ℤ)) (behind : List (List Cell))
    (waves : List (List ℤ)) (c : ℕ) → GoesOn s plan done count shares marks chains feeds before rows behind waves c → IsAt s plan (done + count) shares marks chains feeds behind c
at_end s plan done count shares marks chains feeds before rows behind waves c goes = record { slots = goes.slots count; values = goes.values; stands = goes.stands; shows = goes.shows; fed = goes.fed }

-- ---- a run that goes on

-- what is known of it
pub record IsGoing (s : ScheduleValue) (plan : PlanOf) (done count : ℕ) (shares : List Share) (marks : List Mark) (chains : List Chain) (feeds : List Feed) (cells behind : List (List Cell)) (rows waves : List (List ℤ)) (c : ℕ) : Type 0 where
  pub layout : IsLayout s shares marks chains feeds
  pub rules : IsSchedule s
  pub numbers : HasNumbers s.net
  pub values : HasValues s
  pub long : length cells ≡ length shares
  pub long_behind : length behind ≡ length shares
  pub rows_long : length rows ≡ count * length (source_numbers s.net)
  pub some : 1 ≤ count
  pub frames : done + count ≤ plan.frames
  pub inputs : (f : ℕ) → f < count → IsInput s.net plan (source_values s.net (frame_values (length feeds) rows f c))
  pub at : IsAt s plan done shares marks chains feeds cells c
  pub goes : GoesOn s plan done count shares marks chains feeds at.slots rows behind waves c

-- what its frames send the elements
abbrev pub sent_over : ScheduleValue → (ℕ → Slots) → ℕ → ℕ → ℤ
sent_over s slots f j = slots (f + 1) (slot_at s.down_slots j)

-- a sign leaves the size
pub signed_abs : (flip : Bool) (z : ℤ) → unsigned_abs (signed flip z) ≡ unsigned_abs z
signed_abs true z = omega (arith, ints)
signed_abs false z = refl

module _ (s : ScheduleValue) (plan : PlanOf) (done count : ℕ) (shares : List Share) (marks : List Mark) (chains : List Chain) (feeds : List Feed) (cells behind : List (List Cell)) (rows waves : List (List ℤ)) (c : ℕ)
    (g : IsGoing s plan done count shares marks chains feeds cells behind rows waves c) where
  value_at : (f : ℕ) → f < count → frame_values (length (source_numbers s.net)) rows f c ≡ map (source_values s.net (frame_values (length feeds) rows f c)) (source_numbers s.net)
  value_at f h =
      sym (driven s.net (frame_values (length (source_numbers s.net)) rows f c) (frame_long (length (source_numbers s.net)) count f c rows g.rows_long h))
      ∙ ap (λ (n : ℕ). map (source_values s.net (frame_values n rows f c)) (source_numbers s.net)) (sym g.layout.feeds_count)

  steps : StepsOver s.net plan (sent_by s shares marks cells c) count (frame_column (length (source_numbers s.net)) rows c) (sent_over s g.goes.slots)
  steps = record {
    inputs = λ f. source_values s.net (frame_values (length feeds) rows f c);
    state = λ f. state_in s (g.goes.slots f);
    begins = ap (state_in s) g.goes.begins ∙ state_at s shares marks chains feeds g.at.slots cells c g.layout g.rules g.numbers g.long g.at.shows;
    allowed = g.inputs;
    driven = value_at;
    steps = λ f h. record { frame = (g.goes.next f h).frame; step = (g.goes.next f h).step; waves = (g.goes.next f h).sent };
    next = λ f h. refl;
  }

  -- there is room for its frames in an account that holds those before
  pub room_for : FollowsBlocks s.net plan → (a : AccountOf) → HoldsFrames s.net plan done (sent_by s shares marks cells c) a
      → HasRoomFor s.net count (frame_column (length (source_numbers s.net)) rows c) waves c a
  room_for blocks a holds = record {
    sent = sent_over s g.goes.slots;
    waves = g.goes.sent;
    room = λ b notes.
        blocks.room done count (sent_by s shares marks cells c) (frame_column (length (source_numbers s.net)) rows c) (sent_over s g.goes.slots) a b (omega (arith, g.some)) g.frames steps holds notes;
  }

  -- the last frame's waves, as the parts have them
  pub last_sent : (every absorbing : List Part) → HasParts s (root_of shares) marks every absorbing → AreLast s.net count (sent_over s g.goes.slots) (sent_last every behind c)
  last_sent every absorbing parts f j last small =
      let own = parts.all.each j small in
      part-sent (root_of shares) shares marks (g.goes.slots count) behind c (part_at every j) g.goes.shows own.inside
      ∙ (ap (g.goes.slots count) own.slot ∙ ap (λ (k : ℕ). g.goes.slots k (slot_at s.down_slots j)) (sym last))

  -- and by the slots
  last_by : AreLast s.net count (sent_over s g.goes.slots) (sent_by s shares marks behind c)
  last_by f j last small =
      sent_is s shares marks chains feeds (g.goes.slots count) behind c j g.layout g.rules g.long_behind g.goes.shows small ∙ ap (λ (k : ℕ). g.goes.slots k (slot_at s.down_slots j)) (sym last)

  -- the account holds them when they are noted
  pub held_on : FollowsBlocks s.net plan → (a b : AccountOf) → HoldsFrames s.net plan done (sent_by s shares marks cells c) a
      → NotesOver s.net count (frame_column (length (source_numbers s.net)) rows c) (sent_over s g.goes.slots) a b → HoldsFrames s.net plan (done + count) (sent_by s shares marks behind c) b
  held_on blocks a b holds notes =
      blocks.goes_on done count (sent_by s shares marks cells c) (sent_by s shares marks behind c) (frame_column (length (source_numbers s.net)) rows c) (sent_over s g.goes.slots) a b (omega (arith, g.some)) steps last_by holds notes

  -- the last frame's up waves
  starts_last : (f : ℕ) → f < count → f + 1 ≡ count → Starts s.net (states s.net (state_in s (g.goes.slots f))) (source_values s.net (frame_values (length feeds) rows f c)) (value_in shares marks behind c)
  starts_last f h last =
      let most = grows s.ops (length (elements s.net)) s.slot_count g.rules.order in
      let own = (g.goes.next f h).follows.starts in
      let shown = subst (λ (k : ℕ). AllShow k shares marks (g.goes.slots count) behind c) (sym (last_root s shares marks chains feeds g.layout)) g.goes.shows in
      g.values.kept (states s.net (state_in s (g.goes.slots f))) (source_values s.net (frame_values (length feeds) rows f c)) (g.goes.slots (f + 1)) (value_in shares marks behind c)
      (λ i small. value_is s shares marks chains feeds (g.goes.slots count) behind c i g.layout g.long_behind shown (omega (arith, small, most)) ∙ ap (λ (k : ℕ). g.goes.slots k i) (sym last))
      own

  -- ---- its load waves

  -- the outlet's wave is a word
  pub load_small : (every absorbing : List Part) (o : Outlet) → HasParts s (root_of shares) marks every absorbing → IsOutlet s.net o
      → (f : ℕ) → f < count → unsigned_abs (watched_in (length (absorbing_numbers s.net)) waves o.place f c) ≤ word_limit plan
  load_small every absorbing o parts outlet f h =
      let own = parts.absorb.each o.place outlet.inside in
      let last = last_root s shares marks chains feeds g.layout in
      let small = part_small s shares marks chains feeds (word_limit plan) (g.goes.slots (f + 1)) g.layout (g.goes.next f h).stands.within (part_at absorbing o.place) (omega (arith, own.inside, last)) in
      subst (λ (z : ℤ). unsigned_abs z ≤ word_limit plan) (sym (g.goes.sent f o.place h outlet.inside ∙ ap (g.goes.slots (f + 1)) (sym own.slot))) small

  load_is : (o : Outlet) → IsOutlet s.net o → (f : ℕ) (h : f < count) → signed o.flip (watched_in (length (absorbing_numbers s.net)) waves o.place f c) ≡ load_wave s.net (g.goes.next f h).frame
  load_is o outlet f h =
      let sent : watched_in (length (absorbing_numbers s.net)) waves o.place f c ≡ sent_in s.net (g.goes.next f h).frame (outlet_element s.net) =
      g.goes.sent f o.place h outlet.inside
      ∙ ((g.goes.next f h).sent (absorbing_at s.net o.place) (absorbing_below s.net o.place outlet.inside) ∙ ap (sent_in s.net (g.goes.next f h).frame) outlet.element) in
      λ t. signed (outlet.flip t) (sent t)

  -- ---- all of it, for the run with this number of all runs

  pub runs_on : (runs run : ℕ) (every absorbing : List Part) (o : Outlet) (input output : List ℤ) (a b : AccountOf) → HasParts s (root_of shares) marks every absorbing → IsOutlet s.net o → FollowsFrames s.net plan
      → ((f : ℕ) → f < count → frame_values (length feeds) rows f c ≡ map (scaled_up plan.guard) (samples_of runs (length (source_numbers s.net)) run f input))
      → ((f : ℕ) → f < count → slice_index_or output (f * runs + run) (pos 0) ≡ signed o.flip (watched_in (length (absorbing_numbers s.net)) waves o.place f c))
      → NotesOver s.net count (frame_column (length (source_numbers s.net)) rows c) (sent_over s g.goes.slots) a b
      → RunsOn s.net plan runs count input output run (state_by s shares marks cells c) (state_by s shares marks behind c) (value_in shares marks behind c) (sent_by s shares marks behind c) a b
  runs_on runs run every absorbing o input output a b parts outlet frames taken given notes = record {
    state = λ f. state_in s (g.goes.slots f);
    begins = ap (state_in s) g.goes.begins ∙ state_at s shares marks chains feeds g.at.slots cells c g.layout g.rules g.numbers g.long g.at.shows;
    frames = λ f h. record {
      frame = (g.goes.next f h).frame;
      step = subst (λ (zs : List ℤ). IsStep s.net (states s.net (state_in s (g.goes.slots f))) (source_values s.net zs) (g.goes.next f h).frame) (taken f h) (g.goes.next f h).step;
      wave = given f h ∙ load_is o outlet f h;
      state = map-filter (has_reactance (elements s.net)) (λ (i : ℕ). g.goes.slots (f + 1) (slot_at s.down_slots i)) (sent_in s.net (g.goes.next f h).frame) (range_with_len 0 (length (elements s.net)))
          (λ i own. (g.goes.next f h).sent i (reactance_below s.net i g.numbers own));
    };
    ends = state_at s shares marks chains feeds (g.goes.slots count) behind c g.layout g.rules g.numbers g.long_behind g.goes.shows;
    words = λ f h.
        let small = load_small every absorbing o parts outlet f h in
        subst (λ (z : ℤ). unsigned_abs z ≤ word_limit plan) (sym (given f h))
        (subst (λ (m : ℕ). m ≤ word_limit plan) (sym (signed_abs o.flip (watched_in (length (absorbing_numbers s.net)) waves o.place f c))) small);
    starts = λ f h last.
        subst (λ (zs : List ℤ). Starts s.net (states s.net (state_in s (g.goes.slots f))) (source_values s.net zs) (value_in shares marks behind c)) (taken f h) (starts_last f h last);
    sent = λ f h last i small. last_by f i last small ∙ (g.goes.next f h).sent i small;
    account = notes.account;
    opened = notes.opens;
    notes = λ f h.
        notes.notes f h
        ∙ ((λ t. noted s.net (values f h t) (sent_over s g.goes.slots f) (notes.account f))
        ∙ frames.noted_alike (map (drive plan.guard s.net (samples_of runs (length (source_numbers s.net)) run f input)) (source_numbers s.net)) (sent_over s g.goes.slots f) (sent_in s.net (g.goes.next f h).frame)
        (notes.account f) (g.goes.next f h).sent);
    closed = notes.closes;
  }
    where
      values : (f : ℕ) → f < count → frame_column (length (source_numbers s.net)) rows c f ≡ map (drive plan.guard s.net (samples_of runs (length (source_numbers s.net)) run f input)) (source_numbers s.net)
      values f h = value_at f h ∙ ap (λ (zs : List ℤ). map (source_values s.net zs) (source_numbers s.net)) (taken f h)
