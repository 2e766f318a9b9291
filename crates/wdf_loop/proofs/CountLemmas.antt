-- How often a slot is that of a part of some stage: each element and each junction is one part.
use Rattle.std.proofs.Common.{◌≡◌, ℕ, zero, suc, ◌+◌, ◌<◌, ◌≤◌, Bool, true, false, ◌==◌, cond, if◌then◌else◌, List, [], ◌∷◌, ◌++◌, length, map, refl, ap, sym, ◌∙◌, arith}
use Rattle.std.specs.Prelude.{reverse, All, nat_lt}
use mathlib.Core.Logic.{◌⊎◌, inl, inr}
use Rattle.std.proofs.lemmas.Bool.{eqb-true, eq-eqb, cases_lt}
use Rattle.std.proofs.lemmas.List.{reverse-append}
use Rattle.std.proofs.lemmas.List.Elements.{All-head, All-tail}
use Rattle.wdf_law.specs.Network.{Network, IsNetwork, elements, numbers, times_in}
use Rattle.wdf_sched.specs.declared.op.Op.{Op}
use Rattle.wdf_sched.specs.declared.op.Op.TheVariants.{UpSeries, UpParallel, Root, DownSeries, DownParallel}
use Rattle.wdf_sched.specs.Operations.{InOrder, part_slots, own_slots}
use Rattle.wdf_sched.specs.Junctions.{Junction, series, parallel, up_op, down_op, first_part, second_part, own_branch}
use Rattle.wdf_loop.specs.declared.mark.Mark.{Mark}
use Rattle.wdf_loop.specs.Layouts.{mark_at}
use Rattle.wdf_loop.specs.Stages.{mark_of}
use Rattle.wdf_loop.proofs.JoinLemmas.{junction_at}
use Rattle.wdf_loop.proofs.OpLemmas.{around, stage_of, root_junction}

-- ---- own slots

step : (o i low high t : ℕ) → low ≤ o → o < high → t ≤ 1 → (i < high → t ≡ 0)
    → (((if o == i then 1 else 0) + t) ≤ 1) × (i < low → ((if o == i then 1 else 0) + t) ≡ 0)
step o i low high t a b most none = by (o == i) refl
  where
    by : (c : Bool) → (o == i) ≡ c → ((cond {A = ℕ} c 1 0 + t) ≤ 1) × (i < low → (cond {A = ℕ} c 1 0 + t) ≡ 0)
    by true e =
        let same : o ≡ i = eqb-true o i e in
        let gone : t ≡ 0 = none (omega (arith, same, b)) in
        (omega (arith, gone), λ h. absurd (omega (arith, same, h, a)))
    by false e = (omega (arith, most), λ h. let gone : t ≡ 0 = none (omega (arith, h, a, b)) in omega (arith, gone))

-- each is that of one operation, and none is below the first that is written
pub own_once : (ops : List Op) (next end i : ℕ) → InOrder next ops end → (times_in (own_slots ops) i ≤ 1) × (i < next → times_in (own_slots ops) i ≡ 0)
own_once [] next end i h = (omega arith, λ b. refl)
own_once (UpSeries a b out ∷ ops) next end i h =
    let rest = own_once ops (next + 1) end i h.2 in
    step out i next (next + 1) (times_in (own_slots ops) i) (omega (arith, h.1)) (omega (arith, h.1)) rest.0 rest.1
own_once (UpParallel a b m raw out ∷ ops) next end i h =
    let rest = own_once ops (next + 2) end i h.2 in
    step out i next (next + 2) (times_in (own_slots ops) i) (omega (arith, h.1.1)) (omega (arith, h.1.1)) rest.0 rest.1
own_once (Root a b m x y ∷ ops) next end i h = let rest = own_once ops (next + 2) end i h.2 in (rest.0, λ b. rest.1 (omega (arith, b)))
own_once (DownSeries a b d m x y ∷ ops) next end i h = let rest = own_once ops (next + 2) end i h.2 in (rest.0, λ b. rest.1 (omega (arith, b)))
own_once (DownParallel a b d raw x y ∷ ops) next end i h = let rest = own_once ops (next + 2) end i h.2 in (rest.0, λ b. rest.1 (omega (arith, b)))

-- ---- the elements' numbers

none_from : (xs : List ℕ) (c i : ℕ) → All (λ (k : ℕ). k < c) xs → c ≤ i → times_in xs i ≡ 0
none_from [] c i h b = refl
none_from (x ∷ xs) c i h b = by (x == i) refl (none_from xs c i (All-tail (λ (k : ℕ). k < c) x xs h) b)
  where
    by : (t : Bool) → (x == i) ≡ t → times_in xs i ≡ 0 → cond {A = ℕ} t 1 0 + times_in xs i ≡ 0
    by true e rest =
        let same : x ≡ i = eqb-true x i e in
        let small : x < c = All-head (λ (k : ℕ). k < c) x xs h in
        absurd (omega (arith, same, small, b))
    by false e rest = omega (arith, rest)

-- ---- the parts of the junctions, and of their marks

abbrev pub part_ups : List Junction → List ℕ
part_ups [] = []
part_ups (k ∷ ks) = (first_part k).up ∷ (second_part k).up ∷ part_ups ks

part_ups-append : (js ks : List Junction) → part_ups (js ++ ks) ≡ part_ups js ++ part_ups ks
part_ups-append [] ks = refl
part_ups-append (j ∷ js) ks = ap (λ (xs : List ℕ). (first_part j).up ∷ (second_part j).up ∷ xs) (part_ups-append js ks)

ups_first : (js : List Junction) (rest : List Op) → part_slots (map up_op js ++ rest) ≡ part_ups js ++ part_slots rest
ups_first [] rest = refl
ups_first (series m a b out d x y ∷ js) rest = ap (λ (xs : List ℕ). a ∷ b ∷ xs) (ups_first js rest)
ups_first (parallel m a b raw out d x y ∷ js) rest = ap (λ (xs : List ℕ). a ∷ b ∷ xs) (ups_first js rest)

part_slots-append : (xs ys : List Op) → part_slots (xs ++ ys) ≡ part_slots xs ++ part_slots ys
part_slots-append [] ys = refl
part_slots-append (UpSeries a b out ∷ xs) ys = ap (λ (zs : List ℕ). a ∷ b ∷ zs) (part_slots-append xs ys)
part_slots-append (UpParallel a b m raw out ∷ xs) ys = ap (λ (zs : List ℕ). a ∷ b ∷ zs) (part_slots-append xs ys)
part_slots-append (Root a b m x y ∷ xs) ys = ap (λ (zs : List ℕ). a ∷ b ∷ zs) (part_slots-append xs ys)
part_slots-append (DownSeries a b d m x y ∷ xs) ys = part_slots-append xs ys
part_slots-append (DownParallel a b d raw x y ∷ xs) ys = part_slots-append xs ys

down_alone : (j : Junction) → part_slots (reverse (down_op j ∷ [])) ≡ []
down_alone (series m a b out d x y) = refl
down_alone (parallel m a b raw out d x y) = refl

none_down : (js : List Junction) → part_slots (reverse (map down_op js)) ≡ []
none_down [] = refl
none_down (j ∷ js) =
    ap part_slots (reverse-append (down_op j ∷ []) (map down_op js))
    ∙ (part_slots-append (reverse (map down_op js)) (reverse (down_op j ∷ []))
    ∙ (λ i. none_down js i ++ down_alone j i))

pub parts-around : (js : List Junction) (m a b x y : ℕ) → part_slots (around js (Root a b m x y)) ≡ part_ups (js ++ root_junction m a b x y ∷ [])
parts-around js m a b x y =
    ups_first js (Root a b m x y ∷ reverse (map down_op js))
    ∙ (ap (λ (xs : List ℕ). part_ups js ++ (a ∷ b ∷ xs)) (none_down js) ∙ sym (part_ups-append js (root_junction m a b x y ∷ [])))

abbrev pub mark_parts : List Mark → List ℕ
mark_parts [] = []
mark_parts (k ∷ ks) = k.up ∷ k.below ∷ mark_parts ks

abbrev pub marks_of : ℕ → List Junction → List Mark
marks_of count ks = map (λ (k : Junction). mark_of count (stage_of k)) ks

-- whichever part hangs beside
either_way : (count : ℕ) (k : Junction) (i t : ℕ)
    → (if (mark_of count (stage_of k)).up == i then 1 else 0) + ((if (mark_of count (stage_of k)).below == i then 1 else 0) + t)
    ≡ (if (first_part k).up == i then 1 else 0) + ((if (second_part k).up == i then 1 else 0) + t)
either_way count (series m a b out d x y) i t = by (nat_lt b count)
  where
    by : (c : Bool)
        → (if (cond {A = Mark} c (record { up = b; down = y; below = a; onward = x; raw = out; out = out; sent = d })
        (record { up = a; down = x; below = b; onward = y; raw = out; out = out; sent = d })).up == i then 1 else 0)
        + ((if (cond {A = Mark} c (record { up = b; down = y; below = a; onward = x; raw = out; out = out; sent = d })
        (record { up = a; down = x; below = b; onward = y; raw = out; out = out; sent = d })).below == i then 1 else 0) + t)
        ≡ (if a == i then 1 else 0) + ((if b == i then 1 else 0) + t)
    by true = omega arith
    by false = refl
either_way count (parallel m a b raw out d x y) i t = by (nat_lt b count)
  where
    by : (c : Bool)
        → (if (cond {A = Mark} c (record { up = b; down = y; below = a; onward = x; raw = raw; out = out; sent = d })
        (record { up = a; down = x; below = b; onward = y; raw = raw; out = out; sent = d })).up == i then 1 else 0)
        + ((if (cond {A = Mark} c (record { up = b; down = y; below = a; onward = x; raw = raw; out = out; sent = d })
        (record { up = a; down = x; below = b; onward = y; raw = raw; out = out; sent = d })).below == i then 1 else 0) + t)
        ≡ (if a == i then 1 else 0) + ((if b == i then 1 else 0) + t)
    by true = omega arith
    by false = refl

parts-marks : (count : ℕ) (ks : List Junction) (i : ℕ) → times_in (mark_parts (marks_of count ks)) i ≡ times_in (part_ups ks) i
parts-marks count [] i = refl
parts-marks count (k ∷ ks) i =
    either_way count k i (times_in (mark_parts (marks_of count ks)) i)
    ∙ ap (λ (t : ℕ). (if (first_part k).up == i then 1 else 0) + ((if (second_part k).up == i then 1 else 0) + t)) (parts-marks count ks i)

-- ---- so of a schedule's stages

pub most_once : (n : Network) (js : List Junction) (m a b x y end i : ℕ) → IsNetwork n → InOrder (length (elements n)) (around js (Root a b m x y)) end
    → times_in (part_slots (around js (Root a b m x y))) i ≡ times_in (numbers n) i + times_in (own_slots (around js (Root a b m x y))) i
    → (times_in (mark_parts (marks_of (length (elements n)) (js ++ root_junction m a b x y ∷ []))) i ≤ 1)
    × (i < length (elements n) → times_in (mark_parts (marks_of (length (elements n)) (js ++ root_junction m a b x y ∷ []))) i ≡ 1)
most_once n js m a b x y end i net order parts =
    let own = own_once (around js (Root a b m x y)) (length (elements n)) end i order in
    let total : times_in (mark_parts (marks_of (length (elements n)) (js ++ root_junction m a b x y ∷ []))) i ≡ times_in (numbers n) i + times_in (own_slots (around js (Root a b m x y))) i =
    parts-marks (length (elements n)) (js ++ root_junction m a b x y ∷ []) i ∙ (ap (λ (xs : List ℕ). times_in xs i) (sym (parts-around js m a b x y)) ∙ parts) in (
      most (times_in (own_slots (around js (Root a b m x y))) i) (times_in (mark_parts (marks_of (length (elements n)) (js ++ root_junction m a b x y ∷ []))) i)
          own.0 own.1 total (cases_lt i (length (elements n))),
      λ h. let none = own.1 h in let here = net.once i h in omega (arith, total, none, here),
    )
  where
    most : (s t : ℕ) → s ≤ 1 → (i < length (elements n) → s ≡ 0) → t ≡ times_in (numbers n) i + s → (i < length (elements n)) ⊎ (length (elements n) ≤ i) → t ≤ 1
    most s t few none total (inl h) = let gone = none h in let here = net.once i h in omega (arith, total, gone, here)
    most s t few none total (inr h) = let gone = none_from (numbers n) (length (elements n)) i net.below h in omega (arith, total, few, gone)

-- ---- places by their counts

abbrev once : ℕ → ℕ → ℕ
once j i = if j == i then 1 else 0

is_once : (j i : ℕ) → j ≡ i → once j i ≡ 1
is_once j i e = ap (λ (b : Bool). cond {A = ℕ} b 1 0) (eq-eqb j i e)

pub some_place : (ks : List Mark) (i : ℕ) → 1 ≤ times_in (mark_parts ks) i
    → (j : ℕ) × ((j < length ks) × (((mark_at ks j).up ≡ i) ⊎ ((mark_at ks j).below ≡ i)))
some_place [] i h = absurd (omega (arith, h))
some_place (k ∷ ks) i h = by (k.up == i) refl (k.below == i) refl h (some_place ks i)
  where
    by : (c : Bool) → (k.up == i) ≡ c → (d : Bool) → (k.below == i) ≡ d → 1 ≤ cond {A = ℕ} c 1 0 + (cond {A = ℕ} d 1 0 + times_in (mark_parts ks) i)
        → (1 ≤ times_in (mark_parts ks) i → (j : ℕ) × ((j < length ks) × (((mark_at ks j).up ≡ i) ⊎ ((mark_at ks j).below ≡ i))))
        → (j : ℕ) × ((j < length (k ∷ ks)) × (((mark_at (k ∷ ks) j).up ≡ i) ⊎ ((mark_at (k ∷ ks) j).below ≡ i)))
    by true e d f h rest = (zero, (omega arith, inl (eqb-true k.up i e)))
    by false e true f h rest = (zero, (omega arith, inr (eqb-true k.below i f)))
    by false e false f h rest = let more = rest (omega (arith, h)) in (suc more.0, (omega (arith, more.1.0), more.1.1))

up_counts : (ks : List Mark) (j i : ℕ) → j < length ks → (mark_at ks j).up ≡ i → 1 ≤ times_in (mark_parts ks) i
up_counts [] j i small e = absurd (omega (arith, small))
up_counts (k ∷ ks) zero i small e = omega (arith, is_once k.up i e)
up_counts (k ∷ ks) (suc j) i small e = let rest = up_counts ks j i (omega (arith, small)) e in omega (arith, rest)

below_counts : (ks : List Mark) (j i : ℕ) → j < length ks → (mark_at ks j).below ≡ i → 1 ≤ times_in (mark_parts ks) i
below_counts [] j i small e = absurd (omega (arith, small))
below_counts (k ∷ ks) zero i small e = omega (arith, is_once k.below i e)
below_counts (k ∷ ks) (suc j) i small e = let rest = below_counts ks j i (omega (arith, small)) e in omega (arith, rest)

pub one_up : (ks : List Mark) (i j v : ℕ) → times_in (mark_parts ks) v ≤ 1 → i < length ks → j < length ks → (mark_at ks i).up ≡ v → (mark_at ks j).up ≡ v → i ≡ j
one_up [] i j v most a b e f = absurd (omega (arith, a))
one_up (k ∷ ks) zero zero v most a b e f = refl
one_up (k ∷ ks) zero (suc j) v most a b e f =
    let here = is_once k.up v e in let there = up_counts ks j v (omega (arith, b)) f in absurd (omega (arith, here, there, most))
one_up (k ∷ ks) (suc i) zero v most a b e f =
    let here = is_once k.up v f in let there = up_counts ks i v (omega (arith, a)) e in absurd (omega (arith, here, there, most))
one_up (k ∷ ks) (suc i) (suc j) v most a b e f = ap suc (one_up ks i j v (omega (arith, most)) (omega (arith, a)) (omega (arith, b)) e f)

pub one_below : (ks : List Mark) (i j v : ℕ) → times_in (mark_parts ks) v ≤ 1 → i < length ks → j < length ks
    → (mark_at ks i).below ≡ v → (mark_at ks j).below ≡ v → i ≡ j
one_below [] i j v most a b e f = absurd (omega (arith, a))
one_below (k ∷ ks) zero zero v most a b e f = refl
one_below (k ∷ ks) zero (suc j) v most a b e f =
    let here = is_once k.below v e in let there = below_counts ks j v (omega (arith, b)) f in absurd (omega (arith, here, there, most))
one_below (k ∷ ks) (suc i) zero v most a b e f =
    let here = is_once k.below v f in let there = below_counts ks i v (omega (arith, a)) e in absurd (omega (arith, here, there, most))
one_below (k ∷ ks) (suc i) (suc j) v most a b e f = ap suc (one_below ks i j v (omega (arith, most)) (omega (arith, a)) (omega (arith, b)) e f)

pub not_both : (ks : List Mark) (i j v : ℕ) → times_in (mark_parts ks) v ≤ 1 → i < length ks → j < length ks
    → (mark_at ks i).up ≡ v → (mark_at ks j).below ≡ v → ⊥
not_both [] i j v most a b e f = omega (arith, a)
not_both (k ∷ ks) zero zero v most a b e f = let one = is_once k.up v e in let two = is_once k.below v f in omega (arith, one, two, most)
not_both (k ∷ ks) zero (suc j) v most a b e f =
    let here = is_once k.up v e in let there = below_counts ks j v (omega (arith, b)) f in omega (arith, here, there, most)
not_both (k ∷ ks) (suc i) zero v most a b e f =
    let here = is_once k.below v f in let there = up_counts ks i v (omega (arith, a)) e in omega (arith, here, there, most)
not_both (k ∷ ks) (suc i) (suc j) v most a b e f = not_both ks i j v (omega (arith, most)) (omega (arith, a)) (omega (arith, b)) e f

-- ---- own slots by their places

own_slots-append : (xs ys : List Op) → own_slots (xs ++ ys) ≡ own_slots xs ++ own_slots ys
own_slots-append [] ys = refl
own_slots-append (UpSeries a b out ∷ xs) ys = ap (λ (zs : List ℕ). out ∷ zs) (own_slots-append xs ys)
own_slots-append (UpParallel a b m raw out ∷ xs) ys = ap (λ (zs : List ℕ). out ∷ zs) (own_slots-append xs ys)
own_slots-append (Root a b m x y ∷ xs) ys = own_slots-append xs ys
own_slots-append (DownSeries a b d m x y ∷ xs) ys = own_slots-append xs ys
own_slots-append (DownParallel a b d raw x y ∷ xs) ys = own_slots-append xs ys

down_owns : (j : Junction) → own_slots (reverse (down_op j ∷ [])) ≡ []
down_owns (series m a b out d x y) = refl
down_owns (parallel m a b raw out d x y) = refl

no_owns : (js : List Junction) → own_slots (reverse (map down_op js)) ≡ []
no_owns [] = refl
no_owns (j ∷ js) =
    ap own_slots (reverse-append (down_op j ∷ []) (map down_op js))
    ∙ (own_slots-append (reverse (map down_op js)) (reverse (down_op j ∷ []))
    ∙ (λ i. no_owns js i ++ down_owns j i))

own_place : (js : List Junction) (rest : List Op) (i : ℕ) → own_slots rest ≡ [] → 1 ≤ times_in (own_slots (map up_op js ++ rest)) i
    → (k : ℕ) × ((k < length js) × ((own_branch (junction_at js k)).up ≡ i))
own_place [] rest i none h = let gone = ap (λ (xs : List ℕ). times_in xs i) none in absurd (omega (arith, h, gone))
own_place (series m a b out d x y ∷ js) rest i none h = by (out == i) refl h (own_place js rest i none)
  where
    by : (c : Bool) → (out == i) ≡ c → 1 ≤ cond {A = ℕ} c 1 0 + times_in (own_slots (map up_op js ++ rest)) i
        → (1 ≤ times_in (own_slots (map up_op js ++ rest)) i → (k : ℕ) × ((k < length js) × ((own_branch (junction_at js k)).up ≡ i)))
        → (k : ℕ) × ((k < length (series m a b out d x y ∷ js)) × ((own_branch (junction_at (series m a b out d x y ∷ js) k)).up ≡ i))
    by true e h more = (zero, (omega arith, eqb-true out i e))
    by false e h more = let place = more (omega (arith, h)) in (suc place.0, (omega (arith, place.1.0), place.1.1))
own_place (parallel m a b raw out d x y ∷ js) rest i none h = by (out == i) refl h (own_place js rest i none)
  where
    by : (c : Bool) → (out == i) ≡ c → 1 ≤ cond {A = ℕ} c 1 0 + times_in (own_slots (map up_op js ++ rest)) i
        → (1 ≤ times_in (own_slots (map up_op js ++ rest)) i → (k : ℕ) × ((k < length js) × ((own_branch (junction_at js k)).up ≡ i)))
        → (k : ℕ) × ((k < length (parallel m a b raw out d x y ∷ js)) × ((own_branch (junction_at (parallel m a b raw out d x y ∷ js) k)).up ≡ i))
    by true e h more = (zero, (omega arith, eqb-true out i e))
    by false e h more = let place = more (omega (arith, h)) in (suc place.0, (omega (arith, place.1.0), place.1.1))

-- a part that is no element is the tree of a junction
pub owned : (n : Network) (js : List Junction) (m a b x y j : ℕ) → IsNetwork n
    → ((i : ℕ) → times_in (part_slots (around js (Root a b m x y))) i ≡ times_in (numbers n) i + times_in (own_slots (around js (Root a b m x y))) i)
    → j < length (marks_of (length (elements n)) (js ++ root_junction m a b x y ∷ []))
    → length (elements n) ≤ (mark_at (marks_of (length (elements n)) (js ++ root_junction m a b x y ∷ [])) j).up
    → (k : ℕ) × ((k < length js) × ((own_branch (junction_at js k)).up ≡ (mark_at (marks_of (length (elements n)) (js ++ root_junction m a b x y ∷ [])) j).up))
owned n js m a b x y j net parts small high =
    let ks = js ++ root_junction m a b x y ∷ [] in
    let marks = marks_of (length (elements n)) ks in
    let v = (mark_at marks j).up in
    let here : 1 ≤ times_in (mark_parts marks) v = up_counts marks j v small refl in
    let same : times_in (mark_parts marks) v ≡ times_in (part_ups ks) v = parts-marks (length (elements n)) ks v in
    let moved : times_in (part_slots (around js (Root a b m x y))) v ≡ times_in (part_ups ks) v = ap (λ (xs : List ℕ). times_in xs v) (parts-around js m a b x y) in
    let gone : times_in (numbers n) v ≡ 0 = none_from (numbers n) (length (elements n)) v net.below high in
    own_place js (Root a b m x y ∷ reverse (map down_op js)) v (no_owns js) (omega (arith, here, same, moved, gone, parts v))
