-- What the slots of a schedule's stages say of how these hang together.
use Rattle.std.proofs.Common.{◌≡◌, ℕ, ◌+◌, ◌<◌, ◌≤◌, Bool, cond, List, [], ◌∷◌, ◌++◌, length, refl, ap, sym, ◌∙◌, subst, arith, length-append}
use Rattle.std.specs.Prelude.{nat_lt}
use mathlib.Core.Logic.{◌⊎◌, inl, inr}
use Rattle.std.proofs.lemmas.Bool.{cases_lt, lt-ltb, le-ltb, cond_both}
use Rattle.std.proofs.lemmas.List.{get_or_append_left, get_or-map}
use Rattle.wdf_law.specs.Network.{elements}
use Rattle.wdf_sched.specs.declared.op.Op.{Op}
use Rattle.wdf_sched.specs.declared.op.Op.TheVariants.{UpSeries, UpParallel, Root, DownSeries, DownParallel}
use Rattle.wdf_sched.specs.Operations.{InOrder, written_by}
use Rattle.wdf_sched.specs.Junctions.{Junction, series, parallel, up_op, Branch, first_part, second_part, own_branch}
use Rattle.wdf_sched.specs.Meaning.{slot_at}
use Rattle.wdf_sched.specs.Schedules.{ScheduleValue, IsSchedule}
use Rattle.wdf_loop.specs.declared.mark.Mark.{Mark}
use Rattle.wdf_loop.specs.declared.stage.Stage.{Stage}
use Rattle.wdf_loop.specs.Layouts.{mark_at}
use Rattle.wdf_loop.specs.Stages.{mark_by, mark_of}
use Rattle.wdf_loop.proofs.JoinLemmas.{junction_at, IsLeafBranch, Takes, IsPart}
use Rattle.wdf_loop.proofs.OpLemmas.{around, around-length, up_at, root_junction, stage_of, Writes, written_above}
use Rattle.wdf_loop.proofs.CountLemmas.{marks_of}

-- ---- the mark of a junction

abbrev pub Hangs : Mark → Branch → Branch → Type 0
Hangs k beside below = (k.up ≡ beside.up) × (k.down ≡ beside.down) × (k.below ≡ below.up) × (k.onward ≡ below.down)

swapped : (count : ℕ) (s : Stage) → s.second.up < count → mark_of count s ≡ mark_by s s.second s.first
swapped count s h = ap (λ (c : Bool). cond {A = Mark} c (mark_by s s.second s.first) (mark_by s s.first s.second)) (lt-ltb s.second.up count h)

straight : (count : ℕ) (s : Stage) → count ≤ s.second.up → mark_of count s ≡ mark_by s s.first s.second
straight count s h = ap (λ (c : Bool). cond {A = Mark} c (mark_by s s.second s.first) (mark_by s s.first s.second)) (le-ltb s.second.up count h)

fields : (k l : Mark) → k ≡ l → (k.up ≡ l.up) × (k.down ≡ l.down) × (k.below ≡ l.below) × (k.onward ≡ l.onward)
fields k l e = (ap (λ (z : Mark). z.up) e, ap (λ (z : Mark). z.down) e, ap (λ (z : Mark). z.below) e, ap (λ (z : Mark). z.onward) e)

pub hangs_swapped : (count : ℕ) (k : Junction) → (second_part k).up < count → Hangs (mark_of count (stage_of k)) (second_part k) (first_part k)
hangs_swapped count (series m a b out d x y) h =
    let s = stage_of (series m a b out d x y) in fields (mark_of count s) (mark_by s s.second s.first) (swapped count s h)
hangs_swapped count (parallel m a b raw out d x y) h =
    let s = stage_of (parallel m a b raw out d x y) in fields (mark_of count s) (mark_by s s.second s.first) (swapped count s h)

pub hangs_straight : (count : ℕ) (k : Junction) → count ≤ (second_part k).up → Hangs (mark_of count (stage_of k)) (first_part k) (second_part k)
hangs_straight count (series m a b out d x y) h =
    let s = stage_of (series m a b out d x y) in fields (mark_of count s) (mark_by s s.first s.second) (straight count s h)
hangs_straight count (parallel m a b raw out d x y) h =
    let s = stage_of (parallel m a b raw out d x y) in fields (mark_of count s) (mark_by s s.first s.second) (straight count s h)

own-mark : (count : ℕ) (s : Stage) → ((mark_of count s).out ≡ s.own.up) × ((mark_of count s).sent ≡ s.own.down)
own-mark count s =
    cond_both (nat_lt s.second.up count) (mark_by s s.second s.first) (mark_by s s.first s.second) (λ (k : Mark). (k.out ≡ s.own.up) × (k.sent ≡ s.own.down))
    (λ _. (refl, refl)) (λ _. (refl, refl))

pub owns : (count : ℕ) (k : Junction)
    → ((mark_of count (stage_of k)).out ≡ (own_branch k).up) × ((mark_of count (stage_of k)).sent ≡ (own_branch k).down)
owns count (series m a b out d x y) = own-mark count (stage_of (series m a b out d x y))
owns count (parallel m a b raw out d x y) = own-mark count (stage_of (parallel m a b raw out d x y))

-- ---- what it takes

-- an element, by the list of down slots
abbrev pub IsElementAt : List ℕ → ℕ → ℕ → Type 0
IsElementAt slots up down = (up < length slots) × (down ≡ slot_at slots up)

pub element_at : (slots : List ℕ) (p : Branch) (up down : ℕ) → up ≡ p.up → down ≡ p.down → IsLeafBranch slots p → IsElementAt slots up down
element_at slots p up down e f h = (subst (λ (i : ℕ). i < length slots) (sym e) h.0, f ∙ (h.1 ∙ ap (slot_at slots) (sym e)))

abbrev pub Below : List ℕ → ℕ → Branch → Mark → Type 0
Below slots count own k =
    (IsElementAt slots k.below k.onward × IsElementAt slots k.up k.down)
    ⊎ ((count ≤ k.below) × (own.up ≡ k.below) × (own.down ≡ k.onward) × (IsElementAt slots k.up k.down ⊎ (count ≤ k.up)))

pub below-takes : (slots : List ℕ) (own : Branch) (k : Junction) → length slots ≤ own.up → Takes slots (length slots) own k
    → Below slots (length slots) own (mark_of (length slots) (stage_of k))
below-takes slots own k high (inl (second, inl first)) =
    let h = hangs_swapped (length slots) k second.0 in
    inl (element_at slots (first_part k) _ _ h.2 h.3 first, element_at slots (second_part k) _ _ h.0 h.1 second)
below-takes slots own k high (inl (second, inr tree)) =
    let h = hangs_swapped (length slots) k second.0 in
    let up : own.up ≡ (first_part k).up = ap (λ (p : Branch). p.up) tree in
    let down : own.down ≡ (first_part k).down = ap (λ (p : Branch). p.down) tree in
    inr (omega (arith, up, h.2, high), up ∙ sym h.2, down ∙ sym h.3, inl (element_at slots (second_part k) _ _ h.0 h.1 second))
below-takes slots own k high (inr (tree, beside)) =
    let up : own.up ≡ (second_part k).up = ap (λ (p : Branch). p.up) tree in
    let down : own.down ≡ (second_part k).down = ap (λ (p : Branch). p.down) tree in
    let h = hangs_straight (length slots) k (omega (arith, up, high)) in
    inr (omega (arith, up, h.2, high), up ∙ sym h.2, down ∙ sym h.3, by h beside)
  where
    by : Hangs (mark_of (length slots) (stage_of k)) (first_part k) (second_part k) → IsLeafBranch slots (first_part k) ⊎ (length slots ≤ (first_part k).up)
        → IsElementAt slots (mark_of (length slots) (stage_of k)).up (mark_of (length slots) (stage_of k)).down ⊎ (length slots ≤ (mark_of (length slots) (stage_of k)).up)
    by h (inl e) = inl (element_at slots (first_part k) _ _ h.0 h.1 e)
    by h (inr e) = inr (omega (arith, h.0, e))

pub part_of : (count : ℕ) (own : Branch) (k : Junction) → IsPart own k
    → (((mark_of count (stage_of k)).up ≡ own.up) × ((mark_of count (stage_of k)).down ≡ own.down)) ⊎ ((mark_of count (stage_of k)).below ≡ own.up)
part_of count own k part = by (cases_lt (second_part k).up count) part
  where
    by : ((second_part k).up < count) ⊎ (count ≤ (second_part k).up) → (first_part k ≡ own) ⊎ (second_part k ≡ own)
        → (((mark_of count (stage_of k)).up ≡ own.up) × ((mark_of count (stage_of k)).down ≡ own.down)) ⊎ ((mark_of count (stage_of k)).below ≡ own.up)
    by (inl small) (inl e) = let h = hangs_swapped count k small in inr (h.2 ∙ ap (λ (p : Branch). p.up) e)
    by (inl small) (inr e) = let h = hangs_swapped count k small in inl (h.0 ∙ ap (λ (p : Branch). p.up) e, h.1 ∙ ap (λ (p : Branch). p.down) e)
    by (inr large) (inl e) = let h = hangs_straight count k large in inl (h.0 ∙ ap (λ (p : Branch). p.up) e, h.1 ∙ ap (λ (p : Branch). p.down) e)
    by (inr large) (inr e) = let h = hangs_straight count k large in inr (h.2 ∙ ap (λ (p : Branch). p.up) e)

-- ---- the stages of a schedule

abbrev pub junctions_of : (s : ScheduleValue) → IsSchedule s → List Junction
junctions_of s sch =
    sch.joined.junctions ++ root_junction sch.joined.m sch.joined.left.up sch.joined.right.up sch.joined.left.down sch.joined.right.down ∷ []

abbrev pub root_op : (s : ScheduleValue) → IsSchedule s → Op
root_op s sch = Root sch.joined.left.up sch.joined.right.up sch.joined.m sch.joined.left.down sch.joined.right.down

abbrev pub stage_marks : (s : ScheduleValue) → IsSchedule s → List Mark
stage_marks s sch = marks_of (length (elements s.net)) (junctions_of s sch)

pub stages_count : (s : ScheduleValue) (sch : IsSchedule s) → length (junctions_of s sch) ≡ length sch.joined.junctions + 1
stages_count s sch =
    length-append sch.joined.junctions (root_junction sch.joined.m sch.joined.left.up sch.joined.right.up sch.joined.left.down sch.joined.right.down ∷ [])

pub mark_at-stage : (s : ScheduleValue) (sch : IsSchedule s) (j : ℕ) → j ≤ length sch.joined.junctions
    → mark_at (stage_marks s sch) j ≡ mark_of (length (elements s.net)) (stage_of (junction_at (junctions_of s sch) j))
mark_at-stage s sch j small =
    get_or-map (λ (k : Junction). mark_of (length (elements s.net)) (stage_of k)) (junctions_of s sch) j (series 0 0 0 0 0 0 0)
    (record { up = 0; down = 0; below = 0; onward = 0; raw = 0; out = 0; sent = 0 }) (omega (arith, stages_count s sch, small))

-- at least one slot an operation
some_written : (op : Op) → 1 ≤ written_by op
some_written (UpSeries a b out) = omega arith
some_written (UpParallel a b m raw out) = omega arith
some_written (Root a b m x y) = omega arith
some_written (DownSeries a b d m x y) = omega arith
some_written (DownParallel a b d raw x y) = omega arith

pub room : (ops : List Op) (next end : ℕ) → InOrder next ops end → next + length ops ≤ end
room [] next end h = omega (arith, h)
room (op ∷ ops) next end h = let rest = room ops (next + written_by op) end h.2 in let some = some_written op in omega (arith, rest, some)

pub own_written : (k : Junction) → Writes (up_op k) (own_branch k).up
own_written (series m a b out d x y) = refl
own_written (parallel m a b raw out d x y) = inr refl

pub own_high : (s : ScheduleValue) (sch : IsSchedule s) (i : ℕ) → i < length sch.joined.junctions
    → length (elements s.net) ≤ (own_branch (junction_at (junctions_of s sch) i)).up
own_high s sch i small =
    let js = sch.joined.junctions in
    let order : InOrder (length (elements s.net)) (around js (root_op s sch)) s.slot_count =
    subst (λ (ops : List Op). InOrder (length (elements s.net)) ops s.slot_count) sch.joined.list sch.order in
    let long = around-length js (root_op s sch) in
    let same : junction_at (junctions_of s sch) i ≡ junction_at js i =
    get_or_append_left js (root_junction sch.joined.m sch.joined.left.up sch.joined.right.up sch.joined.left.down sch.joined.right.down ∷ []) (series 0 0 0 0 0 0 0) i small in
    subst (λ (k : Junction). length (elements s.net) ≤ (own_branch k).up) (sym same)
    (written_above (around js (root_op s sch)) (length (elements s.net)) s.slot_count i (own_branch (junction_at js i)).up order (omega (arith, long, small))
    (subst (λ (o : Op). Writes o (own_branch (junction_at js i)).up) (sym (up_at js (root_op s sch) i small)) (own_written (junction_at js i))))
