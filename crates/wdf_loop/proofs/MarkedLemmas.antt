-- The stages of a schedule hang together.
use Rattle.std.proofs.Common.{◌≡◌, ℕ, zero, suc, ◌+◌, ◌<◌, ◌≤◌, List, [], ◌∷◌, length, refl, ap, sym, ◌∙◌, subst, arith}
use mathlib.Core.Logic.{◌⊎◌, inl, inr}
use Rattle.std.proofs.lemmas.Bool.{cases_order}
use Rattle.std.proofs.lemmas.List.{get_or_append_left, length-map}
use Rattle.wdf_law.specs.Network.{IsNetwork, elements, numbers, times_in}
use Rattle.wdf_sched.specs.declared.op.Op.{Op}
use Rattle.wdf_sched.specs.Operations.{InOrder, part_slots, own_slots}
use Rattle.wdf_sched.specs.Junctions.{Junction, series, up_op, Branch, branch, first_part, second_part, own_branch, Join}
use Rattle.wdf_sched.specs.Schedules.{ScheduleValue, IsSchedule}
use Rattle.wdf_loop.specs.declared.mark.Mark.{Mark}
use Rattle.wdf_loop.specs.Layouts.{mark_at}
use Rattle.wdf_loop.specs.Marked.{IsListed, IsBehind, IsPartOf, IsMarked}
use Rattle.wdf_loop.specs.Stages.{mark_of, op_at}
use Rattle.wdf_loop.proofs.JoinLemmas.{junction_at, takes, takes_first, In, IsPart, own_taken, joined}
use Rattle.wdf_loop.proofs.OpLemmas.{around, around-length, up_at, root_junction, stage_of, Writes, written_once}
use Rattle.wdf_loop.proofs.CountLemmas.{mark_parts, most_once, some_place, one_up, one_below, not_both, owned}
use Rattle.wdf_loop.proofs.MarkLemmas.{hangs_swapped, owns, IsElementAt, element_at, Below, below-takes, part_of, junctions_of, root_op, stage_marks, stages_count, mark_at-stage, room, own_high, own_written}

abbrev count_of : ScheduleValue → ℕ
count_of s = length (elements s.net)

abbrev root_of : (s : ScheduleValue) → IsSchedule s → Junction
root_of s sch = root_junction sch.joined.m sch.joined.left.up sch.joined.right.up sch.joined.left.down sch.joined.right.down

joins : (s : ScheduleValue) (sch : IsSchedule s) → Join s.down_slots [] (junctions_of s sch) (branch 0 0 ∷ [])
joins s sch =
    joined s.down_slots sch.joined.junctions (root_of s sch) [] sch.joined.stack sch.joined.middle sch.joined.join sch.joined.takes_right sch.joined.takes_left

listed : (s : ScheduleValue) (sch : IsSchedule s) (up down : ℕ) → IsElementAt s.down_slots up down → IsListed s up down
listed s sch up down h = (subst (λ (n : ℕ). up < n) sch.each h.0, h.1)

-- ---- below

abbrev IsBelow : (s : ScheduleValue) → List Mark → ℕ → Type 0
IsBelow s marks j =
    (IsListed s (mark_at marks j).below (mark_at marks j).onward × IsListed s (mark_at marks j).up (mark_at marks j).down) ⊎ IsBehind s marks j

behind : (s : ScheduleValue) (sch : IsSchedule s) (marks : List Mark) (i j : ℕ) (own : Branch) → i + 1 ≡ j → (mark_at marks i).out ≡ own.up
    → (mark_at marks i).sent ≡ own.down → Below s.down_slots (count_of s) own (mark_at marks j) → IsBelow s marks j
behind s sch marks i j own next out sent (inl h) = inl (listed s sch _ _ h.0, listed s sch _ _ h.1)
behind s sch marks i j own next out sent (inr h) = inr (record { before = i; next = next; tree = h.0; out = out ∙ h.1; sent = sent ∙ h.2 })

pub own-at : (s : ScheduleValue) (sch : IsSchedule s) (i : ℕ) → i ≤ length sch.joined.junctions
    → ((mark_at (stage_marks s sch) i).out ≡ (own_branch (junction_at (junctions_of s sch) i)).up)
    × ((mark_at (stage_marks s sch) i).sent ≡ (own_branch (junction_at (junctions_of s sch) i)).down)
own-at s sch i small =
    let own = owns (count_of s) (junction_at (junctions_of s sch) i) in
    let e = mark_at-stage s sch i small in
    (ap (λ (k : Mark). k.out) e ∙ own.0, ap (λ (k : Mark). k.sent) e ∙ own.1)

takes-at : (s : ScheduleValue) (sch : IsSchedule s) (i : ℕ) → suc i ≤ length sch.joined.junctions
    → Below s.down_slots (count_of s) (own_branch (junction_at (junctions_of s sch) i)) (mark_at (stage_marks s sch) (suc i))
takes-at s sch i small =
    let ks = junctions_of s sch in
    let long = stages_count s sch in
    let own = own_branch (junction_at ks i) in
    let high : (j : ℕ) → suc j < length ks → length s.down_slots ≤ (own_branch (junction_at ks j)).up =
    λ j h. subst (λ (n : ℕ). n ≤ (own_branch (junction_at ks j)).up) (sym sch.each) (own_high s sch j (omega (arith, h, long))) in
    subst (Below s.down_slots (count_of s) own) (sym (mark_at-stage s sch (suc i) small))
    (subst (λ (n : ℕ). Below s.down_slots n own (mark_of n (stage_of (junction_at ks (suc i))))) sch.each
    (below-takes s.down_slots own (junction_at ks (suc i)) (high i (omega (arith, long, small)))
    (takes s.down_slots (length s.down_slots) ks [] (branch 0 0 ∷ []) tt high (joins s sch) i (omega (arith, long, small)))))

both_leaves : (s : ScheduleValue) (sch : IsSchedule s)
    → IsListed s (mark_at (stage_marks s sch) 0).below (mark_at (stage_marks s sch) 0).onward
    × IsListed s (mark_at (stage_marks s sch) 0).up (mark_at (stage_marks s sch) 0).down
both_leaves s sch =
    let ks = junctions_of s sch in
    let k = junction_at ks 0 in
    let first = takes_first s.down_slots ks (branch 0 0 ∷ []) (joins s sch) (omega (arith, stages_count s sch)) in
    let small : (second_part k).up < count_of s = subst (λ (n : ℕ). (second_part k).up < n) sch.each first.0.0 in
    let h = hangs_swapped (count_of s) k small in
    subst (λ (z : Mark). IsListed s z.below z.onward × IsListed s z.up z.down) (sym (mark_at-stage s sch 0 (omega arith))) (
      listed s sch _ _ (element_at s.down_slots (first_part k) _ _ h.2 h.3 first.1),
      listed s sch _ _ (element_at s.down_slots (second_part k) _ _ h.0 h.1 first.0),
    )

below : (s : ScheduleValue) (sch : IsSchedule s) (j : ℕ) → j ≤ length sch.joined.junctions → IsBelow s (stage_marks s sch) j
below s sch zero small = inl (both_leaves s sch)
below s sch (suc i) small =
    let own = own-at s sch i (omega (arith, small)) in
    behind s sch (stage_marks s sch) i (suc i) (own_branch (junction_at (junctions_of s sch) i)) (omega arith) own.0 own.1 (takes-at s sch i small)

-- ---- beside

beside : (s : ScheduleValue) (sch : IsSchedule s) (j : ℕ) → j ≤ length sch.joined.junctions
    → IsListed s (mark_at (stage_marks s sch) j).up (mark_at (stage_marks s sch) j).down ⊎ (count_of s ≤ (mark_at (stage_marks s sch) j).up)
beside s sch zero small = let both = both_leaves s sch in inl both.1
beside s sch (suc i) small = by (takes-at s sch i small)
  where
    by : Below s.down_slots (count_of s) (own_branch (junction_at (junctions_of s sch) i)) (mark_at (stage_marks s sch) (suc i))
        → IsListed s (mark_at (stage_marks s sch) (suc i)).up (mark_at (stage_marks s sch) (suc i)).down ⊎ (count_of s ≤ (mark_at (stage_marks s sch) (suc i)).up)
    by (inl h) = inl (listed s sch _ _ h.1)
    by (inr (a, b, c, inl h)) = inl (listed s sch _ _ h)
    by (inr (a, b, c, inr h)) = inr h

-- ---- the trees are taken

taken : (s : ScheduleValue) (sch : IsSchedule s) → IsNetwork s.net → (i : ℕ) → i < length sch.joined.junctions
    → (j : ℕ) × ((j ≤ length sch.joined.junctions) × IsPartOf (stage_marks s sch) i j)
taken s sch net i small =
    by (own_taken s.down_slots (junctions_of s sch) [] (branch 0 0 ∷ []) (joins s sch) i (omega (arith, stages_count s sch, small)))
  where
    gone : (own : Branch) → count_of s ≤ own.up → branch 0 0 ≡ own → ⊥
    gone own high e = let zero_up : 0 ≡ own.up = ap (λ (p : Branch). p.up) e in let some = net.fewest in omega (arith, zero_up, high, some)

    later_part : (j : ℕ) → i < j → j ≤ length sch.joined.junctions
        → (((mark_of (count_of s) (stage_of (junction_at (junctions_of s sch) j))).up ≡ (own_branch (junction_at (junctions_of s sch) i)).up)
        × ((mark_of (count_of s) (stage_of (junction_at (junctions_of s sch) j))).down ≡ (own_branch (junction_at (junctions_of s sch) i)).down))
        ⊎ ((mark_of (count_of s) (stage_of (junction_at (junctions_of s sch) j))).below ≡ (own_branch (junction_at (junctions_of s sch) i)).up)
        → IsPartOf (stage_marks s sch) i j
    later_part j later few (inl h) =
        let own = own-at s sch i (omega (arith, small)) in
        let e = mark_at-stage s sch j few in
        record { later = later; part = inl (ap (λ (k : Mark). k.up) e ∙ (h.0 ∙ sym own.0), ap (λ (k : Mark). k.down) e ∙ (h.1 ∙ sym own.1)) }
    later_part j later few (inr h) =
        let own = own-at s sch i (omega (arith, small)) in
        let e = mark_at-stage s sch j few in
        record { later = later; part = inr (ap (λ (k : Mark). k.below) e ∙ (h ∙ sym own.0)) }

    by : In (own_branch (junction_at (junctions_of s sch) i)) (branch 0 0 ∷ [])
        ⊎ ((j : ℕ) × ((i < j) × (j < length (junctions_of s sch)) × IsPart (own_branch (junction_at (junctions_of s sch) i)) (junction_at (junctions_of s sch) j)))
        → (j : ℕ) × ((j ≤ length sch.joined.junctions) × IsPartOf (stage_marks s sch) i j)
    by (inl (inl e)) = absurd (gone (own_branch (junction_at (junctions_of s sch) i)) (own_high s sch i small) e)
    by (inl (inr e)) = absurd e
    by (inr (j, (later, few, part))) =
        let most : j ≤ length sch.joined.junctions = omega (arith, few, stages_count s sch) in
        (j, (most, later_part j later most (part_of (count_of s) (own_branch (junction_at (junctions_of s sch) i)) (junction_at (junctions_of s sch) j) part)))

in_order : (s : ScheduleValue) (sch : IsSchedule s) → InOrder (count_of s) (around sch.joined.junctions (root_op s sch)) s.slot_count
in_order s sch = subst (λ (ops : List Op). InOrder (count_of s) ops s.slot_count) sch.joined.list sch.order

at_junction : (s : ScheduleValue) (sch : IsSchedule s) (i : ℕ) → i < length sch.joined.junctions
    → junction_at (junctions_of s sch) i ≡ junction_at sch.joined.junctions i
at_junction s sch i small = get_or_append_left sch.joined.junctions (root_of s sch ∷ []) (series 0 0 0 0 0 0 0) i small

-- the own slot of a junction
own-slot : (s : ScheduleValue) (sch : IsSchedule s) (i : ℕ) → i < length sch.joined.junctions
    → (mark_at (stage_marks s sch) i).out ≡ (own_branch (junction_at sch.joined.junctions i)).up
own-slot s sch i small =
    let own = own-at s sch i (omega (arith, small)) in own.0 ∙ ap (λ (k : Junction). (own_branch k).up) (at_junction s sch i small)

out_written : (s : ScheduleValue) (sch : IsSchedule s) (i : ℕ) → i < length sch.joined.junctions
    → Writes (op_at (around sch.joined.junctions (root_op s sch)) i) (mark_at (stage_marks s sch) i).out
out_written s sch i small =
    subst (λ (o : Op). Writes o (mark_at (stage_marks s sch) i).out) (sym (up_at sch.joined.junctions (root_op s sch) i small))
    (subst (Writes (up_op (junction_at sch.joined.junctions i))) (sym (own-slot s sch i small)) (own_written (junction_at sch.joined.junctions i)))

not_twice : (s : ScheduleValue) (sch : IsSchedule s) (i j : ℕ) → i < j → j < length sch.joined.junctions
    → (mark_at (stage_marks s sch) i).out ≡ (mark_at (stage_marks s sch) j).out → ⊥
not_twice s sch i j less small e =
    let ops = around sch.joined.junctions (root_op s sch) in
    written_once ops (count_of s) s.slot_count i j (mark_at (stage_marks s sch) j).out (in_order s sch) less
    (omega (arith, small, around-length sch.joined.junctions (root_op s sch)))
    (subst (Writes (op_at ops i)) e (out_written s sch i (omega (arith, less, small)))) (out_written s sch j small)

once_out : (s : ScheduleValue) (sch : IsSchedule s) (i j : ℕ) → i < length sch.joined.junctions → j < length sch.joined.junctions
    → (mark_at (stage_marks s sch) i).out ≡ (mark_at (stage_marks s sch) j).out → i ≡ j
once_out s sch i j a b e = by (cases_order i j)
  where
    by : (i ≡ j) ⊎ ((i < j) ⊎ (j < i)) → i ≡ j
    by (inl same) = same
    by (inr (inl less)) = absurd (not_twice s sch i j less b e)
    by (inr (inr less)) = absurd (not_twice s sch j i less a (sym e))

-- ---- each part once

once : (s : ScheduleValue) (sch : IsSchedule s) → IsNetwork s.net → (i : ℕ)
    → (times_in (mark_parts (stage_marks s sch)) i ≤ 1) × (i < count_of s → times_in (mark_parts (stage_marks s sch)) i ≡ 1)
once s sch net i =
    most_once s.net sch.joined.junctions sch.joined.m sch.joined.left.up sch.joined.right.up sch.joined.left.down sch.joined.right.down s.slot_count i net
    (subst (λ (ops : List Op). InOrder (count_of s) ops s.slot_count) sch.joined.list sch.order)
    (subst (λ (ops : List Op). times_in (part_slots ops) i ≡ times_in (numbers s.net) i + times_in (own_slots ops) i) sch.joined.list (sch.parts i))

pub marks-length : (s : ScheduleValue) (sch : IsSchedule s) → length (stage_marks s sch) ≡ length sch.joined.junctions + 1
marks-length s sch = length-map (junctions_of s sch) (λ (k : Junction). mark_of (count_of s) (stage_of k)) ∙ stages_count s sch

every : (s : ScheduleValue) (sch : IsSchedule s) → IsNetwork s.net → (k : ℕ) → k < count_of s
    → (j : ℕ) × ((j ≤ length sch.joined.junctions) × (((mark_at (stage_marks s sch) j).up ≡ k) ⊎ ((mark_at (stage_marks s sch) j).below ≡ k)))
every s sch net k small =
    let one = once s sch net k in
    let here = one.1 small in
    let place = some_place (stage_marks s sch) k (omega (arith, here)) in
    (place.0, (omega (arith, place.1.0, marks-length s sch), place.1.1))

pub is_marked : (s : ScheduleValue) (sch : IsSchedule s) → IsNetwork s.net → IsMarked s (length sch.joined.junctions) (stage_marks s sch)
is_marked s sch net =
    let marks = stage_marks s sch in
    let long = marks-length s sch in
    let js = sch.joined.junctions in
    record {
      count = long;
      few =
          let all = room (around js (root_op s sch)) (count_of s) s.slot_count (subst (λ (ops : List Op). InOrder (count_of s) ops s.slot_count) sch.joined.list sch.order) in
          omega (arith, all, around-length js (root_op s sch), sch.few);
      below = below s sch;
      beside = beside s sch;
      trees = λ i h. let own = own-at s sch i (omega (arith, h)) in let high = own_high s sch i h in omega (arith, own.0, high);
      once_out = once_out s sch;
      owned = λ j most high.
          let place = owned s.net js sch.joined.m sch.joined.left.up sch.joined.right.up sch.joined.left.down sch.joined.right.down j net
          (subst (λ (ops : List Op). (i : ℕ) → times_in (part_slots ops) i ≡ times_in (numbers s.net) i + times_in (own_slots ops) i) sch.joined.list sch.parts)
          (omega (arith, most, long)) high in
          (place.0, (place.1.0, own-slot s sch place.0 place.1.0 ∙ place.1.1));
      taken = taken s sch net;
      every = every s sch net;
      once_up = λ i j a b e. let one = once s sch net (mark_at marks j).up in
          one_up marks i j (mark_at marks j).up one.0 (omega (arith, a, long)) (omega (arith, b, long)) e refl;
      once_below = λ i j a b e. let one = once s sch net (mark_at marks j).below in
          one_below marks i j (mark_at marks j).below one.0 (omega (arith, a, long)) (omega (arith, b, long)) e refl;
      apart = λ i j a b e. let one = once s sch net (mark_at marks j).below in
          not_both marks i j (mark_at marks j).below one.0 (omega (arith, a, long)) (omega (arith, b, long)) e refl;
    }
