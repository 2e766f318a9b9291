-- The engine as clauses see it: what its slots hold, and what its type keeps.
use Rattle.std.proofs.Common.{◌≡◌, ℕ, zero, suc, true, ◌+◌, ◌<◌, ◌≤◌, List, [], ◌∷◌, length, map, get_or, refl, ap, sym, ◌∙◌, subst, arith}
use Rattle.std.specs.Prelude.{ℤ, pos, ◌-◌, ◌+ℤ◌, slice_index_or}
use Rattle.std.specs.List.{range_with_len}
use mathlib.Core.Logic.{◌⊎◌, inl, inr}
use Rattle.std.proofs.lemmas.Bool.{cases_lt}
use Rattle.std.proofs.lemmas.List.{get_or-map, length-map}
use Rattle.std.proofs.lemmas.List.FromFn.{get_or-range_with_len, length-range_with_len}
use Rattle.wdf_algebra.specs.JunctionValues.{series_part, parallel_value, root_value}
use Rattle.wdf_algebra.specs.Truncation.{trunc}
use Rattle.wdf_law.specs.Network.{elements, has_reactance, unit_of}
use Rattle.wdf_law.specs.Run.{at_rest, states}
use Rattle.wdf_law.specs.TreeRules.{HasNumbers}
use Rattle.wdf_bounds.specs.HeldWords.{IsReached}
use Rattle.wdf_bounds.specs.Plans.{PlanOf}
use Rattle.wdf_energy.specs.Accounts.{AccountOf, LedgerOf, account_at}
use Rattle.wdf_energy.specs.LedgerLaws.{FollowsFrames}
use Rattle.wdf_sched.specs.Carrying.{HasValues}
use Rattle.wdf_sched.specs.Meaning.{slot_at}
use Rattle.wdf_sched.specs.declared.op.Op.{Op}
use Rattle.wdf_sched.specs.declared.op.Op.TheVariants.{UpSeries, UpParallel, Root, DownSeries, DownParallel}
use Rattle.wdf_sched.specs.Operations.{HoldAll, Holds, InOrder, ReadsBelow, Slots, WritesFrom, parallel_rest, written_by}
use Rattle.wdf_sched.specs.Schedules.{IsSchedule, ScheduleValue}
use Rattle.wdf_loop.specs.declared.cell.Cell.{Cell}
use Rattle.wdf_loop.specs.declared.field.Field.{Field}
use Rattle.wdf_loop.specs.declared.field.Field.TheVariants.{Up, Down, Below, Onward, Raw}
use Rattle.wdf_loop.specs.declared.groups.Groups.{Groups}
use Rattle.wdf_loop.specs.declared.mark.Mark.{Mark}
use Rattle.wdf_loop.specs.declared.place.Place.{Place}
use Rattle.wdf_loop.specs.declared.run_group.RunGroup.{RunGroup}
use Rattle.wdf_loop.specs.declared.run_group.RunGroup.TheVariants.{None, One, Two, Four, Eight}
use Rattle.wdf_loop.specs.declared.setting.Setting.{Setting}
use Rattle.wdf_loop.specs.declared.share.Share.{Share}
use Rattle.wdf_loop.specs.Advances.{IsAt, root_of}
use Rattle.wdf_loop.specs.AllRuns.{AreAllSilent, AreAt, HaveAllGone, HavePlace, HoldAccounts, all_slots, run_count, shown_for, value_for}
use Rattle.wdf_loop.specs.Cells.{value_of}
use Rattle.wdf_loop.specs.Engines.{HoldsLedger, IsBlock, IsFresh, KeepsPlan, runs_of, sent_at, slot_of}
use Rattle.wdf_loop.specs.KeptEngines.{IsEngine, engine_of}
use Rattle.wdf_loop.specs.Layouts.{mark_at, share_at}
use Rattle.wdf_loop.specs.NextFrames.{Stands}
use Rattle.wdf_loop.specs.Places.{Holds as IsIn}
use Rattle.wdf_loop.specs.LaneCells.{lane_cells}
use Rattle.wdf_loop.specs.RunGroups.{Goes, IsGroup, cells_of, left_by, sent_of, shown_in, width}
use Rattle.wdf_loop.specs.Runs.{cell_at}
use Rattle.wdf_loop.specs.Settings.{IsSetting}
use Rattle.wdf_loop.specs.Shows.{AllShow, Shows}
use Rattle.wdf_loop.proofs.AllRunsLemmas.{each_run, for_first, for_second, for_third, shown_first, shown_second, shown_third}
use Rattle.wdf_loop.proofs.MarkLemmas.{room}
use Rattle.wdf_loop.proofs.NextLemmas.{map-filter, reactance_below}
use Rattle.wdf_loop.proofs.ValueLemmas.{value_is}

-- ---- the list of slots

listed_at : {X : Type 0} (f : ℕ → X) (n i : ℕ) (d : X) → i < n → get_or (map f (range_with_len 0 n)) i d ≡ f i
listed_at f n i d small =
    let long = length-range_with_len 0 n in
    let own = get_or-range_with_len 0 n i 0 small in
    let at : get_or (range_with_len 0 n) i 0 ≡ i = omega (arith, own) in
    get_or-map f (range_with_len 0 n) i 0 d (omega (arith, small, long)) ∙ ap f at

pub count_is : (t : Setting) (g : Groups) (done : ℕ) → runs_of (engine_of t g done) ≡ run_count g
count_is t g done = length-map (range_with_len 0 (run_count g)) (λ (run : ℕ). map (shown_for t g run) (range_with_len 0 t.schedule.slot_count)) ∙ length-range_with_len 0 (run_count g)

slots_at : (t : Setting) (g : Groups) (run : ℕ) → run < run_count g → slice_index_or (all_slots t g) run [] ≡ map (shown_for t g run) (range_with_len 0 t.schedule.slot_count)
slots_at t g run small = listed_at (λ (k : ℕ). map (shown_for t g k) (range_with_len 0 t.schedule.slot_count)) (run_count g) run [] small

pub slot_is : (t : Setting) (g : Groups) (done run i : ℕ) → run < run_count g → i < t.schedule.slot_count → slot_of (engine_of t g done) run i ≡ shown_for t g run i
slot_is t g done run i small few = ap (λ (zs : List ℤ). slice_index_or zs i (pos 0)) (slots_at t g run small) ∙ listed_at (shown_for t g run) t.schedule.slot_count i (pos 0) few

pub slots_long : (t : Setting) (g : Groups) (run : ℕ) → run < run_count g → length (slice_index_or (all_slots t g) run []) ≡ t.schedule.slot_count
slots_long t g run small =
    ap (λ (zs : List ℤ). length zs) (slots_at t g run small) ∙ (length-map (range_with_len 0 t.schedule.slot_count) (shown_for t g run) ∙ length-range_with_len 0 t.schedule.slot_count)

-- ---- values that agree on the slots

abbrev pub Agree : ScheduleValue → (v w : ℕ → ℤ) → Type 0
Agree s v w = (i : ℕ) → i < s.slot_count → w i ≡ v i

sent_alike : (s : ScheduleValue) (v w : ℕ → ℤ) → IsSchedule s → Agree s v w → (i : ℕ) → i < length (elements s.net) → sent_of s w i ≡ sent_of s v i
sent_alike s v w rules same i small = same (slot_at s.down_slots i) (rules.in_range i small)

pub left_alike : (s : ScheduleValue) (v w : ℕ → ℤ) → IsSchedule s → HasNumbers s.net → Agree s v w → left_by s w ≡ left_by s v
left_alike s v w rules numbers same =
    map-filter (has_reactance (elements s.net)) (sent_of s w) (sent_of s v) (range_with_len 0 (length (elements s.net))) (λ i h. sent_alike s v w rules same i (reactance_below s.net i numbers h))

elements_few : (s : ScheduleValue) → IsSchedule s → length (elements s.net) ≤ s.slot_count
elements_few s rules = let h = room s.ops (length (elements s.net)) s.slot_count rules.order in omega (arith, h)

pub goes_alike : (t : Setting) (all count run : ℕ) (samples output : List ℤ) (v w v' w' : ℕ → ℤ) (a b : AccountOf) → IsSchedule t.schedule → HasNumbers t.schedule.net → HasValues t.schedule
    → Agree t.schedule v v' → Agree t.schedule w w' → Goes t all count samples output run v w a b → Goes t all count samples output run v' w' a b
goes_alike t all count run samples output v w v' w' a b rules numbers values sv sw r =
    let s = t.schedule in record {
      state = r.state;
      begins = r.begins ∙ sym (left_alike s v v' rules numbers sv);
      frames = r.frames;
      ends = r.ends ∙ sym (left_alike s w w' rules numbers sw);
      words = r.words;
      starts = λ f h last. values.kept (states s.net (r.state f)) _ w w' (λ i small. let few = elements_few s rules in sw i (omega (arith, small, few))) (r.starts f h last);
      sent = λ f h last i small. sent_alike s w w' rules sw i small ∙ r.sent f h last i small;
      account = r.account;
      opened = r.opened;
      notes = r.notes;
      closed = r.closed;
    }

-- ---- a piece

pub is_block : (t : Setting) (done count : ℕ) (samples output : List ℤ) (g h : Groups) (l m : LedgerOf) → IsSchedule t.schedule → HasNumbers t.schedule.net → HasValues t.schedule → FollowsFrames t.schedule.net t.plan
    → run_count h ≡ run_count g → 1 ≤ count → HaveAllGone t done count samples output g h l m → IsBlock (engine_of t g done) (engine_of t h (done + count)) count samples output l m
is_block t done count samples output g h l m rules numbers values laws same some gone = record {
  on = λ run small.
      let few : run < run_count g = subst (λ (n : ℕ). run < n) (count_is t g done) small in
      let fewer : run < run_count h = subst (λ (n : ℕ). run < n) (sym same) few in
      subst (λ (n : ℕ). Goes t n count samples output run (slot_of (engine_of t g done) run) (slot_of (engine_of t h (done + count)) run) (account_at l run) (account_at m run)) (sym (count_is t g done))
      (goes_alike t (run_count g) count run samples output (shown_for t g run) (shown_for t h run) (slot_of (engine_of t g done) run) (slot_of (engine_of t h (done + count)) run) (account_at l run) (account_at m run)
      rules numbers values (λ i. slot_is t g done run i few) (λ i. slot_is t h (done + count) run i fewer) (gone.on run few));
  schedules = refl;
  plans = refl;
  runs = count_is t h (done + count) ∙ (same ∙ sym (count_is t g done));
  done = refl;
  ledger = record {
    net = gone.ledger.net;
    count = gone.ledger.count ∙ sym (count_is t h (done + count));
    frames = λ run small.
        let few : run < run_count h = subst (λ (n : ℕ). run < n) (count_is t h (done + count)) small in
        laws.held_alike (done + count) (sent_of t.schedule (shown_for t h run)) (sent_at (engine_of t h (done + count)) run) (account_at m run)
        (λ i less. sym (sent_alike t.schedule (shown_for t h run) (slot_of (engine_of t h (done + count)) run) rules (λ k. slot_is t h (done + count) run k few) i less)) (gone.ledger.holds run few);
  };
  still = λ none. absurd (omega (arith, none, some));
}

-- the ledger's accounts by the cells
pub accounts_held : (t : Setting) (done : ℕ) (g : Groups) (l : LedgerOf) → IsSchedule t.schedule → FollowsFrames t.schedule.net t.plan → HoldsLedger (engine_of t g done) l → HoldAccounts t done g l
accounts_held t done g l rules laws held = record {
  net = held.net;
  count = held.count ∙ count_is t g done;
  holds = λ run small.
      laws.held_alike done (sent_at (engine_of t g done) run) (sent_of t.schedule (shown_for t g run)) (account_at l run)
      (λ i less. sent_alike t.schedule (shown_for t g run) (slot_of (engine_of t g done) run) rules (λ k. slot_is t g done run k small) i less)
      (held.frames run (subst (λ (n : ℕ). run < n) (sym (count_is t g done)) small));
}

-- ---- what stands

-- the slots of a run are values that stand
record IsTold (t : Setting) (done : ℕ) (v : ℕ → ℤ) : Type 0 where
  values : Slots
  stands : Stands t.schedule t.plan done values
  same : (i : ℕ) → i < t.schedule.slot_count → v i ≡ values i

told_in : (t : Setting) (done : ℕ) (cells : List (List Cell)) (c : ℕ) → IsSetting t → length cells ≡ length t.layout.shares.items
    → IsAt t.schedule t.plan done t.layout.shares.items t.layout.marks.items t.layout.chains.items t.layout.feeds.items cells c → IsTold t done (shown_in t cells c)
told_in t done cells c set long at = record {
  values = at.slots;
  stands = at.stands;
  same = λ i small.
      value_is t.schedule t.layout.shares.items t.layout.marks.items t.layout.chains.items t.layout.feeds.items at.slots cells c i set.layout long
      (subst (λ (k : ℕ). AllShow k t.layout.shares.items t.layout.marks.items at.slots cells c) (sym (let count = set.layout.shares_count in omega arith)) at.shows) small;
}

told_group : (t : Setting) (done : ℕ) (g : RunGroup) → IsSetting t → IsGroup t done g → (c : ℕ) → c < width g → IsTold t done (shown_in t (cells_of g) c)
told_group t done None set at c small = absurd (omega (arith, small))
told_group t done (One cells values waves) set at c small = told_in t done cells.items c set at.stages (at.at c small)
told_group t done (Two cells values waves) set at c small = told_in t done cells.items c set at.stages (at.at c small)
told_group t done (Four cells values waves) set at c small = told_in t done (map lane_cells cells.items) c set at.stages (at.at c small)
told_group t done (Eight cells values waves) set at c small = told_in t done (map lane_cells cells.items) c set at.stages (at.at c small)

told : (t : Setting) (done : ℕ) (g : Groups) → IsSetting t → AreAt t done g → (run : ℕ) → run < run_count g → IsTold t done (shown_for t g run)
told t done g set at run small =
    each_run (λ (r : ℕ). IsTold t done (shown_for t g r)) (width g.first) (width g.second) (width g.third)
    (λ c h. subst (IsTold t done) (sym (shown_first t g c h)) (told_group t done g.first set at.first c h))
    (λ c h. subst (IsTold t done) (sym (shown_second t g c h)) (told_group t done g.second set at.second c h))
    (λ c h. subst (IsTold t done) (sym (shown_third t g c)) (told_group t done g.third set at.third c h))
    run small

-- operations read and write slots below their end alone
holds_one : (q next end : ℕ) (v w : Slots) (op : Op) → ReadsBelow next op → WritesFrom next op → next + written_by op ≤ end → ((i : ℕ) → i < end → w i ≡ v i) → Holds q v op → Holds q w op
holds_one q next end v w (UpSeries a b out) reads writes few same h =
    let o = same out (omega (arith, writes, few)) in
    let x = same a (omega (arith, reads.0, few)) in
    let y = same b (omega (arith, reads.1, few)) in
    o ∙ (h ∙ (λ t. sym x t +ℤ sym y t))
holds_one q next end v w (UpParallel a b m raw out) reads writes few same h =
    let r = same raw (omega (arith, writes.0, few)) in
    let o = same out (omega (arith, writes.1, few)) in
    let x = same a (omega (arith, reads.0, few)) in
    let y = same b (omega (arith, reads.1, few)) in
    (r ∙ (h.0 ∙ (λ t. parallel_value m (q - m) (sym x t) (sym y t))), o ∙ (h.1 ∙ (λ t. trunc (sym r t) q)))
holds_one q next end v w (Root a b m x y) reads writes few same h =
    let p = same x (omega (arith, writes.0, few)) in
    let o = same y (omega (arith, writes.1, few)) in
    let i = same a (omega (arith, reads.0, few)) in
    let j = same b (omega (arith, reads.1, few)) in
    (p ∙ (h.0 ∙ (λ t. trunc (root_value q m (q - m) (sym i t) (sym j t) (sym i t)) q)), o ∙ (h.1 ∙ (λ t. trunc (root_value q m (q - m) (sym i t) (sym j t) (sym j t)) q)))
holds_one q next end v w (DownSeries a b d m x y) reads writes few same h =
    let p = same x (omega (arith, writes.0, few)) in
    let o = same y (omega (arith, writes.1, few)) in
    let i = same a (omega (arith, reads.0, few)) in
    let j = same b (omega (arith, reads.1, few)) in
    let k = same d (omega (arith, reads.2, few)) in
    (p ∙ (h.0 ∙ (λ t. trunc (series_part q m (sym i t) (sym j t) (sym k t) (sym i t)) q)), o ∙ (h.1 ∙ (λ t. trunc (series_part q (q - m) (sym i t) (sym j t) (sym k t) (sym j t)) q)))
holds_one q next end v w (DownParallel a b d raw x y) reads writes few same h =
    let p = same x (omega (arith, writes.0, few)) in
    let o = same y (omega (arith, writes.1, few)) in
    let i = same a (omega (arith, reads.0, few)) in
    let j = same b (omega (arith, reads.1, few)) in
    let k = same d (omega (arith, reads.2, few)) in
    let r = same raw (omega (arith, reads.3, few)) in
    (p ∙ (h.0 ∙ (λ t. trunc (parallel_rest q (sym r t) (sym k t) (sym i t)) q)), o ∙ (h.1 ∙ (λ t. trunc (parallel_rest q (sym r t) (sym k t) (sym j t)) q)))

pub holds_alike : (q next end : ℕ) (v w : Slots) (ops : List Op) → InOrder next ops end → ((i : ℕ) → i < end → w i ≡ v i) → HoldAll q v ops → HoldAll q w ops
holds_alike q next end v w [] order same h = h
holds_alike q next end v w (op ∷ ops) order same h =
    let rest = room ops (next + written_by op) end order.2 in
    (holds_one q next end v w op order.0 order.1 (omega (arith, rest)) same h.0, holds_alike q (next + written_by op) end v w ops order.2 same h.1)

pub keeps_plan : (t : Setting) (g : Groups) (done : ℕ) → IsSchedule t.schedule → HasNumbers t.schedule.net → IsEngine t g done → KeepsPlan (engine_of t g done)
keeps_plan t g done rules numbers kept = record {
  fits = kept.setting.fits;
  frames = kept.frames;
  reached = λ run small.
      let few : run < run_count g = subst (λ (n : ℕ). run < n) (count_is t g done) small in
      let own = told t done g kept.setting kept.at run few in
      subst (IsReached t.schedule.net t.plan done) (sym (left_alike t.schedule own.values (slot_of (engine_of t g done) run) rules numbers (λ i less. slot_is t g done run i few less ∙ own.same i less))) own.stands.reached;
  holds = λ run small.
      let few : run < run_count g = subst (λ (n : ℕ). run < n) (count_is t g done) small in
      let own = told t done g kept.setting kept.at run few in
      holds_alike (unit_of t.schedule.net) (length (elements t.schedule.net)) t.schedule.slot_count own.values (slot_of (engine_of t g done) run) t.schedule.ops rules.order (λ i less. slot_is t g done run i few less ∙ own.same i less) own.stands.holds;
  each = λ run small. slots_long t g run (subst (λ (n : ℕ). run < n) (count_is t g done) small);
}

-- ---- a new engine

beyond : (xs : List ℤ) (k : ℕ) → length xs ≤ k → slice_index_or xs k (pos 0) ≡ pos 0
beyond [] k h = refl
beyond (x ∷ xs) zero h = absurd (omega (arith, h))
beyond (x ∷ xs) (suc k) h = beyond xs k (omega (arith, h))

pub is_fresh : (t : Setting) (g : Groups) (s : ScheduleValue) (plan : PlanOf) (runs : ℕ) → IsSchedule t.schedule → HasNumbers t.schedule.net → t.schedule ≡ s → t.plan ≡ plan → run_count g ≡ runs → AreAllSilent t g → IsFresh (engine_of t g 0) s plan runs
is_fresh t g s plan runs rules numbers own same count silent = record {
  schedules = own;
  plans = same;
  count = count_is t g 0 ∙ count;
  done = refl;
  state = λ run small.
      left_alike t.schedule (λ (i : ℕ). pos 0) (slot_of (engine_of t g 0) run) rules numbers (λ i less. zero_at run i (subst (λ (n : ℕ). run < n) (sym count) small))
      ∙ ap (λ (x : ScheduleValue). at_rest x.net) own;
  slots = λ run i small. zero_at run i (subst (λ (n : ℕ). run < n) (sym count) small);
}
  where
    zero_at : (run i : ℕ) → run < run_count g → slot_of (engine_of t g 0) run i ≡ pos 0
    zero_at run i small = by (cases_lt i t.schedule.slot_count)
      where
        by : (i < t.schedule.slot_count) ⊎ (t.schedule.slot_count ≤ i) → slot_of (engine_of t g 0) run i ≡ pos 0
        by (inl less) = slot_is t g 0 run i small less ∙ silent run i small less
        by (inr more) = let long = slots_long t g run small in beyond (slice_index_or (all_slots t g) run []) i (omega (arith, long, more))

-- ---- a slot

-- the number of a cell that is the value of a slot
field_value : (s : Share) (k : Mark) (v : Slots) (d : Cell) (slot : ℕ) (f : Field) → Shows k v d → (s.parallel ≡ true → d.raw ≡ v k.raw) → IsIn f s k slot → value_of f d ≡ v slot
field_value s k v d slot Up shows raw h = shows.up ∙ ap v h
field_value s k v d slot Down shows raw h = shows.down ∙ ap v h
field_value s k v d slot Below shows raw h = shows.below ∙ ap v h
field_value s k v d slot Onward shows raw h = shows.onward ∙ ap v h
field_value s k v d slot Raw shows raw h = raw h.0 ∙ ap v h.1

value_in_cells : (t : Setting) (done : ℕ) (cells : List (List Cell)) (c slot : ℕ) (place : Place) → IsSetting t → length cells ≡ length t.layout.shares.items
    → IsAt t.schedule t.plan done t.layout.shares.items t.layout.marks.items t.layout.chains.items t.layout.feeds.items cells c → slot < t.schedule.slot_count → place.stage < length t.layout.marks.items
    → IsIn place.field (share_at t.layout.shares.items place.stage) (mark_at t.layout.marks.items place.stage) slot → value_of place.field (cell_at cells place.stage c) ≡ shown_in t cells c slot
value_in_cells t done cells c slot place set long at small inside held =
    field_value (share_at shares place.stage) (mark_at marks place.stage) at.slots (cell_at cells place.stage c) slot place.field (at.shows.stages place.stage most) (λ e. raw e (cases_lt place.stage (root_of shares))) held
    ∙ sym (value_is t.schedule shares marks t.layout.chains.items t.layout.feeds.items at.slots cells c slot set.layout long (subst (λ (k : ℕ). AllShow k shares marks at.slots cells c) (sym last) at.shows) small)
  where
    shares : List Share
    shares = t.layout.shares.items

    marks : List Mark
    marks = t.layout.marks.items

    last : set.layout.root ≡ root_of shares
    last = let count = set.layout.shares_count in omega arith

    most : place.stage ≤ root_of shares
    most = let shares_long = set.layout.shares_count in let marks_long = set.layout.marks_count in omega (arith, shares_long, marks_long, inside)

    raw : (share_at shares place.stage).parallel ≡ true → (place.stage < root_of shares) ⊎ (root_of shares ≤ place.stage) → (cell_at cells place.stage c).raw ≡ at.slots (mark_at marks place.stage).raw
    raw e (inl less) = at.shows.raws place.stage less e
    raw e (inr more) =
        let here : place.stage ≡ set.layout.root = omega (arith, most, more, last) in
        let own : (share_at shares set.layout.root).parallel ≡ true = subst (λ (x : ℕ). (share_at shares x).parallel ≡ true) here e in
        let plain = set.layout.plain in
        absurd (cc)

value_in_group : (t : Setting) (done : ℕ) (g : RunGroup) (slot : ℕ) (place : Place) → IsSetting t → IsGroup t done g → slot < t.schedule.slot_count → place.stage < length t.layout.marks.items
    → IsIn place.field (share_at t.layout.shares.items place.stage) (mark_at t.layout.marks.items place.stage) slot
    → (c : ℕ) → c < width g → value_of place.field (cell_at (cells_of g) place.stage c) ≡ shown_in t (cells_of g) c slot
value_in_group t done None slot place set at few inside held c small = absurd (omega (arith, small))
value_in_group t done (One cells values waves) slot place set at few inside held c small = value_in_cells t done cells.items c slot place set at.stages (at.at c small) few inside held
value_in_group t done (Two cells values waves) slot place set at few inside held c small = value_in_cells t done cells.items c slot place set at.stages (at.at c small) few inside held
value_in_group t done (Four cells values waves) slot place set at few inside held c small = value_in_cells t done (map lane_cells cells.items) c slot place set at.stages (at.at c small) few inside held
value_in_group t done (Eight cells values waves) slot place set at few inside held c small = value_in_cells t done (map lane_cells cells.items) c slot place set at.stages (at.at c small) few inside held

pub value_shown : (t : Setting) (g : Groups) (done run slot : ℕ) (place : Place) → IsEngine t g done → run < run_count g → slot < t.schedule.slot_count → place.stage < length t.layout.marks.items
    → IsIn place.field (share_at t.layout.shares.items place.stage) (mark_at t.layout.marks.items place.stage) slot → value_for g run place ≡ slot_of (engine_of t g done) run slot
value_shown t g done run slot place kept small few inside held =
    each_run (λ (r : ℕ). value_for g r place ≡ shown_for t g r slot) (width g.first) (width g.second) (width g.third)
    (λ c h. for_first g number c h ∙ (value_in_group t done g.first slot place kept.setting kept.at.first few inside held c h ∙ sym (for_first g shown c h)))
    (λ c h. for_second g number c h ∙ (value_in_group t done g.second slot place kept.setting kept.at.second few inside held c h ∙ sym (for_second g shown c h)))
    (λ c h. for_third g number c ∙ (value_in_group t done g.third slot place kept.setting kept.at.third few inside held c h ∙ sym (for_third g shown c)))
    run small
    ∙ sym (slot_is t g done run slot small few)
  where
    number : List (List Cell) → ℕ → ℤ
    number cells c = value_of place.field (cell_at cells place.stage c)

    shown : List (List Cell) → ℕ → ℤ
    shown cells c = shown_in t cells c slot

place_in_group : (t : Setting) (done stage : ℕ) (g : RunGroup) → IsGroup t done g → stage < length t.layout.shares.items → 0 < width g → stage < length (cells_of g)
place_in_group t done stage None at inside some = absurd (omega (arith, some))
place_in_group t done stage (One cells values waves) at inside some = let long = at.stages in omega (arith, long, inside)
place_in_group t done stage (Two cells values waves) at inside some = let long = at.stages in omega (arith, long, inside)
place_in_group t done stage (Four cells values waves) at inside some = let long = at.stages in omega (arith, long, inside)
place_in_group t done stage (Eight cells values waves) at inside some = let long = at.stages in omega (arith, long, inside)

pub have_place : (t : Setting) (g : Groups) (done : ℕ) (place : Place) → IsEngine t g done → place.stage < length t.layout.marks.items → HavePlace place g
have_place t g done place kept inside =
    let shares = kept.setting.layout.shares_count in
    let marks = kept.setting.layout.marks_count in
    let within : place.stage < length t.layout.shares.items = omega (arith, shares, marks, inside) in
    record {
      first = place_in_group t done place.stage g.first kept.at.first within;
      second = place_in_group t done place.stage g.second kept.at.second within;
      third = place_in_group t done place.stage g.third kept.at.third within;
    }
