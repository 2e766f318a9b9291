-- The stages that the code makes are a row.
use Rattle.std.proofs.Common.{◌≡◌, ℕ, suc, ◌+◌, ◌-◌, ◌/◌, ◌<◌, ◌≤◌, List, [], ◌∷◌, length, map, refl, ap, sym, ◌∙◌, subst, arith}
use Rattle.std.specs.Prelude.{ℤ, pos, true, false}
use Rattle.std.specs.List.{range_with_len}
use mathlib.Core.Logic.{◌⊎◌, inl, inr}
use Rattle.std.proofs.lemmas.Bool.{cases_lt, cases_order, cond_both}
use Rattle.std.proofs.lemmas.List.{get_or_append_left, get_or_at, get_or-map, length-map}
use Rattle.wdf_law.specs.Network.{IsNetwork, elements, unit_of}
use Rattle.wdf_sched.specs.declared.op.Op.{Op}
use Rattle.wdf_sched.specs.Operations.{Each, Holds, IsWithin, HasShare, InOrder}
use Rattle.wdf_sched.specs.Junctions.{Junction, series, parallel, up_op, down_op, first_part, second_part, own_branch}
use Rattle.wdf_sched.specs.Schedules.{ScheduleValue, IsSchedule}
use Rattle.wdf_loop.specs.declared.mark.Mark.{Mark}
use Rattle.wdf_loop.specs.declared.share.Share.{Share}
use Rattle.wdf_loop.specs.declared.stage.Stage.{Stage}
use Rattle.wdf_loop.specs.Layouts.{share_at, mark_at, IsJunctionStage, IsRootStage, IsSmallStage, ShowsSlot}
use Rattle.wdf_loop.specs.Leaves.{sign_in}
use Rattle.wdf_loop.specs.Marked.{IsPartOf}
use Rattle.wdf_loop.specs.Rows.{IsRow, mark_in, share_in}
use Rattle.wdf_loop.specs.Stages.{IsPair, is_swapped, op_at, stage_at, stages_of, mark_of, share_of, mark_by, share_by}
use Rattle.wdf_loop.proofs.JoinLemmas.{junction_at}
use Rattle.wdf_loop.proofs.OpLemmas.{each_at, around, around-length, up_at, root_at, mirror_at, down_at, root_junction, stage_of, pair_at, stage_at-around, stages-around, Writes, written}
use Rattle.wdf_loop.proofs.MarkLemmas.{hangs_swapped, hangs_straight, junctions_of, root_op, stage_marks, stages_count, mark_at-stage}
use Rattle.wdf_loop.proofs.MarkedLemmas.{is_marked, own-at}
use Rattle.wdf_loop.proofs.StageLemmas.{HasOps, multiplier, junction_stage, root_stage, junction_small, root_small}

abbrev count_of : ScheduleValue → ℕ
count_of s = length (elements s.net)

-- ---- what holds of each operation holds of those of a junction

each_pair : (P : Op → Type 0) (s : ScheduleValue) (sch : IsSchedule s) → Each P s.ops → (i : ℕ) → i < length sch.joined.junctions
    → P (up_op (junction_at sch.joined.junctions i)) × P (down_op (junction_at sch.joined.junctions i))
each_pair P s sch h i small =
    let js = sch.joined.junctions in
    let all : Each P (around js (root_op s sch)) = subst (Each P) sch.joined.list h in
    let long = around-length js (root_op s sch) in (
      subst P (up_at js (root_op s sch) i small) (each_at P (around js (root_op s sch)) i all (omega (arith, long, small))),
      subst P (mirror_at js (root_op s sch) i small)
          (each_at P (around js (root_op s sch)) (length (around js (root_op s sch)) - 1 - i) all (omega (arith, long, small))),
    )

each_root : (P : Op → Type 0) (s : ScheduleValue) (sch : IsSchedule s) → Each P s.ops → P (root_op s sch)
each_root P s sch h =
    let js = sch.joined.junctions in
    let long = around-length js (root_op s sch) in
    subst P (root_at js (root_op s sch)) (each_at P (around js (root_op s sch)) (length js) (subst (Each P) sch.joined.list h) (omega (arith, long)))

shared : (q : ℕ) (k : Junction) → HasShare q (up_op k) → HasShare q (down_op k) → multiplier k < q
shared q (series m a b out d x y) up down = down.1
shared q (parallel m a b raw out d x y) up down = up.1

small_multiplier : (s : ScheduleValue) (sch : IsSchedule s) (i : ℕ) → i < length sch.joined.junctions
    → multiplier (junction_at sch.joined.junctions i) < unit_of s.net
small_multiplier s sch i small =
    let both = each_pair (HasShare (unit_of s.net)) s sch sch.multipliers i small in
    shared (unit_of s.net) (junction_at sch.joined.junctions i) both.0 both.1

has_ops : (s : ScheduleValue) (sch : IsSchedule s) (i : ℕ) → i < length sch.joined.junctions
    → HasOps (unit_of s.net) s.ops (up_op (junction_at sch.joined.junctions i)) (down_op (junction_at sch.joined.junctions i))
has_ops s sch i small = record {
  holds = λ g h. each_pair (Holds (unit_of s.net) g) s sch h i small;
  within = λ limit g h. each_pair (IsWithin (unit_of s.net) limit g) s sch h i small;
}

-- ---- the stage that the code looks at

half : (s : ScheduleValue) (sch : IsSchedule s) → length s.ops / 2 ≡ length sch.joined.junctions
half s sch = let long = around-length sch.joined.junctions (root_op s sch) in let same = ap (λ (ops : List Op). length ops) sch.joined.list in omega (arith, long, same)

pub paired : (s : ScheduleValue) (sch : IsSchedule s) (i : ℕ) → i ≤ length s.ops / 2
    → (i < length s.ops) × IsPair (op_at s.ops i) (op_at s.ops (length s.ops - 1 - i))
paired s sch i small =
    let long = around-length sch.joined.junctions (root_op s sch) in
    let same = ap (λ (ops : List Op). length ops) sch.joined.list in (
      omega (arith, small, long, same),
      subst (λ (ops : List Op). IsPair (op_at ops i) (op_at ops (length ops - 1 - i))) (sym sch.joined.list)
          (pair_at sch.joined.junctions sch.joined.m sch.joined.left.up sch.joined.right.up sch.joined.left.down sch.joined.right.down i (omega (arith, small, half s sch))),
    )

stage-multiplier : (k : Junction) → (stage_of k).m ≡ multiplier k
stage-multiplier (series m a b out d x y) = refl
stage-multiplier (parallel m a b raw out d x y) = refl

-- the junction with this number, the root being the last
at_junction : (s : ScheduleValue) (sch : IsSchedule s) (i : ℕ) → i < length sch.joined.junctions
    → junction_at (junctions_of s sch) i ≡ junction_at sch.joined.junctions i
at_junction s sch i small =
    get_or_append_left sch.joined.junctions (root_junction sch.joined.m sch.joined.left.up sch.joined.right.up sch.joined.left.down sch.joined.right.down ∷ []) (series 0 0 0 0 0 0 0) i small

at_root : (s : ScheduleValue) (sch : IsSchedule s)
    → junction_at (junctions_of s sch) (length sch.joined.junctions)
    ≡ root_junction sch.joined.m sch.joined.left.up sch.joined.right.up sch.joined.left.down sch.joined.right.down
at_root s sch =
    get_or_at sch.joined.junctions (root_junction sch.joined.m sch.joined.left.up sch.joined.right.up sch.joined.left.down sch.joined.right.down) [] (series 0 0 0 0 0 0 0)
    (length sch.joined.junctions) refl

pub few_multiplier : (s : ScheduleValue) (sch : IsSchedule s) (i : ℕ) → i ≤ length s.ops / 2 → (stage_at s.ops i).m ≤ unit_of s.net
few_multiplier s sch i small =
    let js = sch.joined.junctions in
    let most : i ≤ length js = omega (arith, small, half s sch) in
    let stage : stage_of (junction_at (junctions_of s sch) i) ≡ stage_at s.ops i =
    stage_at-around js sch.joined.m sch.joined.left.up sch.joined.right.up sch.joined.left.down sch.joined.right.down i most
    ∙ ap (λ (ops : List Op). stage_at ops i) (sym sch.joined.list) in
    subst (λ (z : Stage). z.m ≤ unit_of s.net) stage (by most (cases_lt i (length js)))
  where
    by : i ≤ length sch.joined.junctions → (i < length sch.joined.junctions) ⊎ (length sch.joined.junctions ≤ i)
        → (stage_of (junction_at (junctions_of s sch) i)).m ≤ unit_of s.net
    by most (inl h) =
        let few = small_multiplier s sch i h in
        subst (λ (k : Junction). (stage_of k).m ≤ unit_of s.net) (sym (at_junction s sch i h))
        (omega (arith, few, stage-multiplier (junction_at sch.joined.junctions i)))
    by most (inr h) =
        let same : i ≡ length sch.joined.junctions = omega (arith, most, h) in
        let root = each_root (HasShare (unit_of s.net)) s sch sch.multipliers in
        subst (λ (k : Junction). (stage_of k).m ≤ unit_of s.net) (sym (ap (junction_at (junctions_of s sch)) same ∙ at_root s sch)) (omega (arith, root.1))

-- ---- the two lists

map-map : {A B C : Type 0} (f : B → C) (g : A → B) (xs : List A) → map f (map g xs) ≡ map (λ (x : A). f (g x)) xs
map-map f g [] = refl
map-map f g (x ∷ xs) = ap (λ zs. f (g x) ∷ zs) (map-map f g xs)

made-list : {C : Type 0} (s : ScheduleValue) (sch : IsSchedule s) (f : Stage → C)
    → map (λ (i : ℕ). f (stage_at s.ops i)) (range_with_len 0 (length s.ops / 2 + 1)) ≡ map (λ (k : Junction). f (stage_of k)) (junctions_of s sch)
made-list s sch f =
    sym (map-map f (stage_at s.ops) (range_with_len 0 (length s.ops / 2 + 1)))
    ∙ (ap (λ (ops : List Op). map f (stages_of ops)) sch.joined.list
    ∙ (ap (map f) (stages-around sch.joined.junctions sch.joined.m sch.joined.left.up sch.joined.right.up sch.joined.left.down sch.joined.right.down)
    ∙ map-map f stage_of (junctions_of s sch)))

abbrev share_for : ScheduleValue → Stage → Share
share_for s z = share_of (unit_of s.net) (count_of s) (sign_in s.net (mark_of (count_of s) z).up) z

abbrev stage_shares : (s : ScheduleValue) → IsSchedule s → List Share
stage_shares s sch = map (λ (k : Junction). share_for s (stage_of k)) (junctions_of s sch)

share_at-stage : (s : ScheduleValue) (sch : IsSchedule s) (j : ℕ) → j ≤ length sch.joined.junctions
    → share_at (stage_shares s sch) j ≡ share_for s (stage_of (junction_at (junctions_of s sch) j))
share_at-stage s sch j small =
    get_or-map (λ (k : Junction). share_for s (stage_of k)) (junctions_of s sch) j (series 0 0 0 0 0 0 0)
    (record { m = 0; n = 0; parallel = false; sign = pos 0 }) (omega (arith, stages_count s sch, small))

-- ---- a row

stages_are : (s : ScheduleValue) (sch : IsSchedule s) (j : ℕ) → j < length sch.joined.junctions
    → IsJunctionStage (unit_of s.net) s.ops (share_at (stage_shares s sch) j) (mark_at (stage_marks s sch) j)
stages_are s sch j small =
    let most : j ≤ length sch.joined.junctions = omega (arith, small) in
    let e = share_at-stage s sch j most ∙ ap (λ (k : Junction). share_for s (stage_of k)) (at_junction s sch j small) in
    let f = mark_at-stage s sch j most ∙ ap (λ (k : Junction). mark_of (count_of s) (stage_of k)) (at_junction s sch j small) in
    let k = junction_at sch.joined.junctions j in
    subst (λ (z : Share). IsJunctionStage (unit_of s.net) s.ops z (mark_at (stage_marks s sch) j)) (sym e)
    (subst (λ (z : Mark). IsJunctionStage (unit_of s.net) s.ops (share_for s (stage_of k)) z) (sym f)
    (junction_stage (unit_of s.net) s.ops (count_of s) (sign_in s.net (mark_of (count_of s) (stage_of k)).up) k (small_multiplier s sch j small) (has_ops s sch j small)))

root_is : (s : ScheduleValue) (sch : IsSchedule s)
    → IsRootStage (unit_of s.net) s.ops (share_at (stage_shares s sch) (length sch.joined.junctions)) (mark_at (stage_marks s sch) (length sch.joined.junctions))
root_is s sch =
    let r = sch.joined in
    let n = length r.junctions in
    let k = root_junction r.m r.left.up r.right.up r.left.down r.right.down in
    let e = share_at-stage s sch n (omega arith) ∙ ap (λ (k : Junction). share_for s (stage_of k)) (at_root s sch) in
    let f = mark_at-stage s sch n (omega arith) ∙ ap (λ (k : Junction). mark_of (count_of s) (stage_of k)) (at_root s sch) in
    let few = each_root (HasShare (unit_of s.net)) s sch sch.multipliers in
    subst (λ (z : Share). IsRootStage (unit_of s.net) s.ops z (mark_at (stage_marks s sch) n)) (sym e)
    (subst (λ (z : Mark). IsRootStage (unit_of s.net) s.ops (share_for s (stage_of k)) z) (sym f)
    (root_stage (unit_of s.net) s.ops (count_of s) (sign_in s.net (mark_of (count_of s) (stage_of k)).up) r.m r.left.up r.right.up r.left.down r.right.down few.1
    (λ g h. each_root (Holds (unit_of s.net) g) s sch h)))

all_small : (s : ScheduleValue) (sch : IsSchedule s) (j : ℕ) → j ≤ length sch.joined.junctions
    → IsSmallStage (unit_of s.net) s.ops (mark_at (stage_marks s sch) j)
all_small s sch j most = by (cases_lt j (length sch.joined.junctions))
  where
    by : (j < length sch.joined.junctions) ⊎ (length sch.joined.junctions ≤ j) → IsSmallStage (unit_of s.net) s.ops (mark_at (stage_marks s sch) j)
    by (inl h) =
        let f = mark_at-stage s sch j most ∙ ap (λ (k : Junction). mark_of (count_of s) (stage_of k)) (at_junction s sch j h) in
        subst (IsSmallStage (unit_of s.net) s.ops) (sym f)
        (junction_small (unit_of s.net) s.ops (count_of s) (junction_at sch.joined.junctions j) (has_ops s sch j h))
    by (inr h) =
        let r = sch.joined in
        let same : j ≡ length r.junctions = omega (arith, most, h) in
        let f = mark_at-stage s sch j most
        ∙ ap (λ (k : Junction). mark_of (count_of s) (stage_of k)) (ap (junction_at (junctions_of s sch)) same ∙ at_root s sch) in
        subst (IsSmallStage (unit_of s.net) s.ops) (sym f)
        (root_small (unit_of s.net) s.ops (count_of s) r.m r.left.up r.right.up r.left.down r.right.down
        (λ limit g h. each_root (IsWithin (unit_of s.net) limit g) s sch h))

share-sign : (q count : ℕ) (sign : ℤ) (z : Stage) → (share_of q count sign z).sign ≡ sign
share-sign q count sign z =
    cond_both (is_swapped count z) (share_by z sign (q - z.m) z.m) (share_by z sign z.m (q - z.m)) (λ (s : Share). s.sign ≡ sign) (λ _. refl) (λ _. refl)

signs_are : (s : ScheduleValue) (sch : IsSchedule s) (j : ℕ) → j ≤ length sch.joined.junctions
    → (share_at (stage_shares s sch) j).sign ≡ sign_in s.net (mark_at (stage_marks s sch) j).up
signs_are s sch j most =
    let z = stage_of (junction_at (junctions_of s sch) j) in
    ap (λ (s : Share). s.sign) (share_at-stage s sch j most)
    ∙ (share-sign (unit_of s.net) (count_of s) (sign_in s.net (mark_of (count_of s) z).up) z
    ∙ ap (λ (k : Mark). sign_in s.net k.up) (sym (mark_at-stage s sch j most)))

-- ---- each slot is shown

share-parallel : (q count : ℕ) (sign : ℤ) (z : Stage) → (share_of q count sign z).parallel ≡ z.parallel
share-parallel q count sign z =
    cond_both (is_swapped count z) (share_by z sign (q - z.m) z.m) (share_by z sign z.m (q - z.m)) (λ (s : Share). s.parallel ≡ z.parallel) (λ _. refl) (λ _. refl)

-- the root is no parallel junction
root_plain : (s : ScheduleValue) (sch : IsSchedule s) → (share_at (stage_shares s sch) (length sch.joined.junctions)).parallel ≡ false
root_plain s sch =
    let r = sch.joined in
    let z = stage_of (root_junction r.m r.left.up r.right.up r.left.down r.right.down) in
    let e = share_at-stage s sch (length sch.joined.junctions) (omega arith) ∙ ap (λ (k : Junction). share_for s (stage_of k)) (at_root s sch) in
    ap (λ (x : Share). x.parallel) e ∙ share-parallel (unit_of s.net) (count_of s) (sign_in s.net (mark_of (count_of s) z).up) z

mark-raw : (count : ℕ) (z : Stage) → (mark_of count z).raw ≡ z.raw
mark-raw count z =
    cond_both (is_swapped count z) (mark_by z z.second z.first) (mark_by z z.first z.second) (λ (k : Mark). k.raw ≡ z.raw) (λ _. refl) (λ _. refl)

down_shown : (count : ℕ) (k : Junction) (i : ℕ) → ((first_part k).down ≡ i) ⊎ ((second_part k).down ≡ i)
    → ((mark_of count (stage_of k)).down ≡ i) ⊎ ((mark_of count (stage_of k)).onward ≡ i)
down_shown count k i h = by (cases_lt (second_part k).up count) h
  where
    by : ((second_part k).up < count) ⊎ (count ≤ (second_part k).up) → ((first_part k).down ≡ i) ⊎ ((second_part k).down ≡ i)
        → ((mark_of count (stage_of k)).down ≡ i) ⊎ ((mark_of count (stage_of k)).onward ≡ i)
    by (inl small) (inl e) = let h = hangs_swapped count k small in inr (h.3 ∙ e)
    by (inl small) (inr e) = let h = hangs_swapped count k small in inl (h.1 ∙ e)
    by (inr large) (inl e) = let h = hangs_straight count k large in inl (h.1 ∙ e)
    by (inr large) (inr e) = let h = hangs_straight count k large in inr (h.3 ∙ e)

down_writes : (k : Junction) (i : ℕ) → Writes (down_op k) i → ((first_part k).down ≡ i) ⊎ ((second_part k).down ≡ i)
down_writes (series m a b out d x y) i h = h
down_writes (parallel m a b raw out d x y) i h = h

up_writes : (k : Junction) (i : ℕ) → Writes (up_op k) i → ((own_branch k).up ≡ i) ⊎ (((stage_of k).parallel ≡ true) × ((stage_of k).raw ≡ i))
up_writes (series m a b out d x y) i h = inl h
up_writes (parallel m a b raw out d x y) i (inl h) = inr (refl, h)
up_writes (parallel m a b raw out d x y) i (inr h) = inl h

abbrev IsShown : (s : ScheduleValue) → IsSchedule s → ℕ → Type 0
IsShown s sch i =
    (j : ℕ) × ((j ≤ length sch.joined.junctions) × ShowsSlot (share_at (stage_shares s sch) j) (mark_at (stage_marks s sch) j) i)

shows_down : (s : ScheduleValue) (sch : IsSchedule s) (i j : ℕ) → j ≤ length sch.joined.junctions
    → ((mark_at (stage_marks s sch) j).down ≡ i) ⊎ ((mark_at (stage_marks s sch) j).onward ≡ i) → IsShown s sch i
shows_down s sch i j most (inl h) = (j, (most, inr (inr (inl h))))
shows_down s sch i j most (inr h) = (j, (most, inr (inr (inr (inl h)))))

shows_part : (s : ScheduleValue) (sch : IsSchedule s) (i j : ℕ) → j ≤ length sch.joined.junctions
    → ((mark_at (stage_marks s sch) j).up ≡ i) ⊎ ((mark_at (stage_marks s sch) j).below ≡ i) → IsShown s sch i
shows_part s sch i j most (inl h) = (j, (most, inl h))
shows_part s sch i j most (inr h) = (j, (most, inr (inl h)))

-- by the operation that writes it
shows_up : (s : ScheduleValue) (sch : IsSchedule s) → IsNetwork s.net → (i k : ℕ) → k < length sch.joined.junctions
    → Writes (up_op (junction_at sch.joined.junctions k)) i → IsShown s sch i
shows_up s sch net i k small w = by (up_writes (junction_at sch.joined.junctions k) i w)
  where
    part : (j : ℕ) → IsPartOf (stage_marks s sch) k j → (mark_at (stage_marks s sch) k).out ≡ i
        → ((mark_at (stage_marks s sch) j).up ≡ i) ⊎ ((mark_at (stage_marks s sch) j).below ≡ i)
    part j h e = either h.part
      where
        either : (((mark_at (stage_marks s sch) j).up ≡ (mark_at (stage_marks s sch) k).out) × ((mark_at (stage_marks s sch) j).down ≡ (mark_at (stage_marks s sch) k).sent))
            ⊎ ((mark_at (stage_marks s sch) j).below ≡ (mark_at (stage_marks s sch) k).out)
            → ((mark_at (stage_marks s sch) j).up ≡ i) ⊎ ((mark_at (stage_marks s sch) j).below ≡ i)
        either (inl f) = inl (f.0 ∙ e)
        either (inr f) = inr (f ∙ e)

    by : ((own_branch (junction_at sch.joined.junctions k)).up ≡ i)
        ⊎ (((stage_of (junction_at sch.joined.junctions k)).parallel ≡ true) × ((stage_of (junction_at sch.joined.junctions k)).raw ≡ i)) → IsShown s sch i
    by (inl e) =
        let marked = is_marked s sch net in
        let own = own-at s sch k (omega (arith, small)) in
        let out = own.0 ∙ (ap (λ (z : Junction). (own_branch z).up) (at_junction s sch k small) ∙ e) in
        let place = marked.taken k small in
        shows_part s sch i place.0 place.1.0 (part place.0 place.1.1 out)
    by (inr e) =
        let most : k ≤ length sch.joined.junctions = omega (arith, small) in
        let z = stage_of (junction_at sch.joined.junctions k) in
        let share = share_at-stage s sch k most ∙ ap (λ (j : Junction). share_for s (stage_of j)) (at_junction s sch k small) in
        let mark = mark_at-stage s sch k most ∙ ap (λ (j : Junction). mark_of (count_of s) (stage_of j)) (at_junction s sch k small) in (
          k,
          (
            most,
            inr (inr (inr (inr (
              ap (λ (x : Share). x.parallel) share ∙ (share-parallel (unit_of s.net) (count_of s) (sign_in s.net (mark_of (count_of s) z).up) z ∙ e.0),
              ap (λ (x : Mark). x.raw) mark ∙ (mark-raw (count_of s) z ∙ e.1),
            )))),
          ),
        )

shows_root : (s : ScheduleValue) (sch : IsSchedule s) (i : ℕ) → Writes (root_op s sch) i → IsShown s sch i
shows_root s sch i w =
    let r = sch.joined in
    let n = length r.junctions in
    let mark = mark_at-stage s sch n (omega arith) ∙ ap (λ (k : Junction). mark_of (count_of s) (stage_of k)) (at_root s sch) in
    shows_down s sch i n (omega arith)
    (subst (λ (z : Mark). (z.down ≡ i) ⊎ (z.onward ≡ i)) (sym mark)
    (down_shown (count_of s) (root_junction r.m r.left.up r.right.up r.left.down r.right.down) i w))

shows_falling : (s : ScheduleValue) (sch : IsSchedule s) (i j : ℕ) → j < length sch.joined.junctions
    → Writes (down_op (junction_at sch.joined.junctions j)) i → IsShown s sch i
shows_falling s sch i j small w =
    let most : j ≤ length sch.joined.junctions = omega (arith, small) in
    let mark = mark_at-stage s sch j most ∙ ap (λ (k : Junction). mark_of (count_of s) (stage_of k)) (at_junction s sch j small) in
    shows_down s sch i j most
    (subst (λ (z : Mark). (z.down ≡ i) ⊎ (z.onward ≡ i)) (sym mark)
    (down_shown (count_of s) (junction_at sch.joined.junctions j) i (down_writes (junction_at sch.joined.junctions j) i w)))

shown : (s : ScheduleValue) (sch : IsSchedule s) → IsNetwork s.net → (i : ℕ) → i < s.slot_count → IsShown s sch i
shown s sch net i small = by (cases_lt i (count_of s))
  where
    at : (k : ℕ) → k < length (around sch.joined.junctions (root_op s sch)) → Writes (op_at (around sch.joined.junctions (root_op s sch)) k) i → IsShown s sch i
    at k few w = side (cases_order k (length sch.joined.junctions))
      where
        side : (k ≡ length sch.joined.junctions) ⊎ ((k < length sch.joined.junctions) ⊎ (length sch.joined.junctions < k)) → IsShown s sch i
        side (inl same) =
            shows_root s sch i
            (subst (λ (o : Op). Writes o i) (ap (op_at (around sch.joined.junctions (root_op s sch))) same ∙ root_at sch.joined.junctions (root_op s sch)) w)
        side (inr (inl before)) =
            shows_up s sch net i k before (subst (λ (o : Op). Writes o i) (up_at sch.joined.junctions (root_op s sch) k before) w)
        side (inr (inr later)) =
            let n = length sch.joined.junctions in
            let long = around-length sch.joined.junctions (root_op s sch) in
            let j : ℕ = n + n - k in
            let back : k ≡ n + suc (k - n - 1) = omega (arith, later) in
            let e : n + n - k + 1 + (k - n - 1) ≡ n = omega (arith, few, long, later) in
            shows_falling s sch i (n + n - k) (omega (arith, later, few, long))
            (subst (λ (o : Op). Writes o i)
            (ap (op_at (around sch.joined.junctions (root_op s sch))) back ∙ down_at sch.joined.junctions (root_op s sch) (n + n - k) (k - n - 1) e) w)

    by : (i < count_of s) ⊎ (count_of s ≤ i) → IsShown s sch i
    by (inl h) = let marked = is_marked s sch net in let place = marked.every i h in shows_part s sch i place.0 place.1.0 place.1.1
    by (inr h) =
        let place = written (around sch.joined.junctions (root_op s sch)) (count_of s) s.slot_count i
        (subst (λ (ops : List Op). InOrder (count_of s) ops s.slot_count) sch.joined.list sch.order) h small in
        at place.0 place.1.0 place.1.1

-- ---- all of it

stage_row : (s : ScheduleValue) (sch : IsSchedule s) → IsNetwork s.net → IsRow s (stage_shares s sch) (stage_marks s sch)
stage_row s sch net = record {
  root = length sch.joined.junctions;
  marked = is_marked s sch net;
  shares_count = length-map (junctions_of s sch) (λ (k : Junction). share_for s (stage_of k)) ∙ stages_count s sch;
  junctions = stages_are s sch;
  turn = root_is s sch;
  plain = root_plain s sch;
  small = all_small s sch;
  signs = signs_are s sch;
  shown = shown s sch net;
}

pub made_row : (s : ScheduleValue) → IsSchedule s → IsNetwork s.net
    → IsRow s (map (share_in s) (range_with_len 0 (length s.ops / 2 + 1))) (map (mark_in s) (range_with_len 0 (length s.ops / 2 + 1)))
made_row s sch net =
    let shares = made-list s sch (share_for s) in
    let marks = made-list s sch (mark_of (count_of s)) in
    subst (λ (xs : List Share). IsRow s xs (map (mark_in s) (range_with_len 0 (length s.ops / 2 + 1)))) (sym shares)
    (subst (λ (xs : List Mark). IsRow s (stage_shares s sch) xs) (sym marks) (stage_row s sch net))
