-- Depths of rooted trees, and the first root that is least deep.
use Rattle.std.proofs.Common.{◌≡◌, ℕ, zero, suc, ◌+◌, ◌<◌, ◌≤◌, Bool, true, false, if◌then◌else◌, eqb, leb, max, ◌∷◌, ◌++◌, length, Option, Some, ◌⊎◌, inl, inr, ⊎_elim, refl, ap, sym, ◌∙◌, subst, arith, length-append}
use Rattle.std.specs.Prelude.{unwrap_or, nat_le}
use Rattle.std.specs.List.{find, list_all, range_with_len}
use Rattle.std.proofs.lemmas.Bool.{cases_eq, cond_both, cond-true, cond-false, le-leb, lt-leb, and_from, and_left, and_right}
use Rattle.wdf_law.specs.declared.connection.Connection.{Connection}
use Rattle.wdf_law.specs.declared.connection.Connection.TheVariants.{Series, Parallel}
use Rattle.wdf_law.specs.Outline.{Outline, single, joined, outline_depth, outline_elements, times, has_number}
use Rattle.wdf_law.specs.Reversal.{reversed}
use Rattle.wdf_sp.specs.Structure.{Halves, IsUnflipped}
use Rattle.wdf_sp.specs.Rerooting.{outside_first, outside_second, parted, outside_depth, source_leaf, rerooted, rooted_depth, first_least}
use Rattle.wdf_sp.proofs.SpanLemmas.{times-reversed, times-own}
use Rattle.wdf_sp.proofs.MergeLemmas.{leaves-reversed}
use Rattle.wdf_sp.proofs.ReductionLemmas.{depth-leaves}

-- ---- what is outside

depth-reversed : (t : Outline) → outline_depth (reversed t) ≡ outline_depth t
depth-reversed (single i k f) = refl
depth-reversed (joined Series l r) = omega (arith, depth-reversed l, depth-reversed r)
depth-reversed (joined Parallel l r) = omega (arith, depth-reversed l, depth-reversed r)

-- what is outside a part has the leaves of the junction's other part and of what is outside the junction
record IsOutside (a b whole : Outline) : Type 0 where
  depth : outline_depth whole ≡ 1 + max (outline_depth a) (outline_depth b)
  count : length (outline_elements whole) ≡ length (outline_elements a) + length (outline_elements b)

outside_first_is : (c : Connection) (o r : Outline) → IsOutside o r (outside_first c o r)
outside_first_is Series o r =
    let both = length-append (outline_elements o) (outline_elements (reversed r)) in
    record { depth = ap (λ (d : ℕ). 1 + max (outline_depth o) d) (depth-reversed r); count = omega (arith, leaves-reversed r) }
outside_first_is Parallel o r = record { depth = refl; count = length-append (outline_elements o) (outline_elements r) }

outside_second_is : (c : Connection) (l o : Outline) → IsOutside l o (outside_second c l o)
outside_second_is Series l o =
    let both = length-append (outline_elements (reversed l)) (outline_elements o) in
    record { depth = ap (λ (d : ℕ). 1 + max d (outline_depth o)) (depth-reversed l); count = omega (arith, leaves-reversed l) }
outside_second_is Parallel l o = record { depth = refl; count = length-append (outline_elements l) (outline_elements o) }

-- the trees of a root: a leaf, and all other leaves
pub record ArePartsOf (d count : ℕ) (h : Halves) : Type 0 where
  pub left : outline_depth h.left ≡ 0
  pub one : length (outline_elements h.left) ≡ 1
  pub right : outline_depth h.right ≡ d
  pub all : length (outline_elements h.right) + 1 ≡ count

are_parts : (at : ℕ) (t o : Outline) → ArePartsOf (outside_depth at t (outline_depth o)) (length (outline_elements t) + length (outline_elements o)) (parted at t o)
are_parts at (single i k f) o = record { left = refl; one = refl; right = refl; all = omega arith }
are_parts at (joined c l r) o = by (has_number l at) (outside_first_is c o r) (outside_second_is c l o) (are_parts at l (outside_first c o r)) (are_parts at r (outside_second c l o))
  where
    by : (b : Bool) → IsOutside o r (outside_first c o r) → IsOutside l o (outside_second c l o)
        → ArePartsOf (outside_depth at l (outline_depth (outside_first c o r))) (length (outline_elements l) + length (outline_elements (outside_first c o r))) (parted at l (outside_first c o r))
        → ArePartsOf (outside_depth at r (outline_depth (outside_second c l o))) (length (outline_elements r) + length (outline_elements (outside_second c l o))) (parted at r (outside_second c l o))
        → ArePartsOf (if b then outside_depth at l (1 + max (outline_depth o) (outline_depth r)) else outside_depth at r (1 + max (outline_depth l) (outline_depth o)))
        (length (outline_elements l ++ outline_elements r) + length (outline_elements o)) (if b then parted at l (outside_first c o r) else parted at r (outside_second c l o))
    by true is1 is2 first second =
        let both = length-append (outline_elements l) (outline_elements r) in
        record { left = first.left; one = first.one; right = first.right ∙ ap (outside_depth at l) is1.depth; all = omega (arith, first.all, is1.count) }
    by false is1 is2 first second =
        let both = length-append (outline_elements l) (outline_elements r) in
        record { left = second.left; one = second.one; right = second.right ∙ ap (outside_depth at r) is2.depth; all = omega (arith, second.all, is2.count) }

pub depth_rooted : (t : Outline) (source at : ℕ) → rooted_depth t source at ≡ (if eqb at source then outline_depth t else outside_depth at t 0)
depth_rooted t source at = by (eqb at source) (are_parts at t (source_leaf source))
  where
    by : (b : Bool) → ArePartsOf (outside_depth at t 0) (length (outline_elements t) + 1) (parted at t (source_leaf source))
        → max (outline_depth (if b then record { left = source_leaf source; right = t } else parted at t (source_leaf source)).left) (outline_depth (if b then record { left = source_leaf source; right = t } else parted at t (source_leaf source)).right)
        ≡ (if b then outline_depth t else outside_depth at t 0)
    by true w = omega arith
    by false w = omega (arith, w.left, w.right)

-- the leaves of the two trees are those of the shape and the source's
pub record AreTreesOf (t : Outline) (h : Halves) : Type 0 where
  pub leaves : length (outline_elements h.left) + length (outline_elements h.right) ≡ length (outline_elements t) + 1
  pub left : outline_depth h.left ≡ 0
  pub right : outline_depth h.right ≤ length (outline_elements t)

pub are_trees : (t : Outline) (source at : ℕ) → AreTreesOf t (rerooted t source at)
are_trees t source at =
    cond_both (eqb at source) (record { left = source_leaf source; right = t }) (parted at t (source_leaf source)) (AreTreesOf t)
    (λ _. record { leaves = omega arith; left = refl; right = omega (arith, depth-leaves t) })
    (λ _.
    let w = are_parts at t (source_leaf source) in
    let deep = depth-leaves (parted at t (source_leaf source)).right in
    record { leaves = omega (arith, w.one, w.all); left = w.left; right = omega (arith, w.all) })

-- ---- the source is not flipped

absent : (i : ℕ) (t : Outline) → times t i ≡ 0 → IsUnflipped i t
absent i (single j k f) h = λ e. let some = times-own j k f in let none : times (single j k f) j ≡ 0 = ap (times (single j k f)) e ∙ h in absurd (omega arith)
absent i (joined c l r) h = (absent i l (omega arith), absent i r (omega arith))

abbrev pub AreUnflipped : ℕ → Halves → Type 0
AreUnflipped i h = IsUnflipped i h.left × IsUnflipped i h.right

parted_unflipped : (i at : ℕ) (t o : Outline) → times t i ≡ 0 → IsUnflipped i o → AreUnflipped i (parted at t o)
parted_unflipped i at (single j k f) o h u = (absent i (single j k f) h, u)
parted_unflipped i at (joined c l r) o h u =
    cond_both (has_number l at) (parted at l (outside_first c o r)) (parted at r (outside_second c l o)) (AreUnflipped i)
    (λ _. parted_unflipped i at l (outside_first c o r) (omega arith) (first c))
    (λ _. parted_unflipped i at r (outside_second c l o) (omega arith) (second c))
  where
    first : (c : Connection) → IsUnflipped i (outside_first c o r)
    first Series = (u, absent i (reversed r) (omega (arith, times-reversed r i)))
    first Parallel = (u, absent i r (omega arith))

    second : (c : Connection) → IsUnflipped i (outside_second c l o)
    second Series = (absent i (reversed l) (omega (arith, times-reversed l i)), u)
    second Parallel = (absent i l (omega arith), u)

pub rerooted_unflipped : (t : Outline) (source at : ℕ) → times t source ≡ 0 → AreUnflipped source (rerooted t source at)
rerooted_unflipped t source at h =
    cond_both (eqb at source) (record { left = source_leaf source; right = t }) (parted at t (source_leaf source)) (AreUnflipped source)
    (λ _. ((λ e. refl), absent source t h))
    (λ _. parted_unflipped source at t (source_leaf source) h (λ e. refl))

-- ---- the least deep root

-- best is the first of the source and then the numbers below i at which d is least
pub record IsLeastOf (d : ℕ → ℕ) (source i best : ℕ) : Type 0 where
  pub at_source : d best ≤ d source
  pub below : (j : ℕ) → j < i → d best ≤ d j
  pub first : (best ≡ source) ⊎ ((best < i) × ((d best < d source) × ((j : ℕ) → j < best → d best < d j)))

pub least_start : (d : ℕ → ℕ) (source : ℕ) → IsLeastOf d source 0 source
least_start d source = record { at_source = omega arith; below = λ j h. absurd (omega arith); first = inl refl }

pub least_keeps : (d : ℕ → ℕ) (source i best : ℕ) → IsLeastOf d source i best → d best ≤ d i → IsLeastOf d source (i + 1) best
least_keeps d source i best w h = record {
  at_source = w.at_source;
  below = λ j k. ⊎_elim (λ e. subst (λ (x : ℕ). d best ≤ d x) (sym e) h) (λ e. w.below j (omega arith)) (cases_eq j i);
  first = ⊎_elim (λ e. inl e) (λ v. inr (omega (arith, v.0), v.1)) w.first;
}

pub least_takes : (d : ℕ → ℕ) (source i best : ℕ) → IsLeastOf d source i best → d i < d best → IsLeastOf d source (i + 1) i
least_takes d source i best w h = record {
  at_source = omega (arith, w.at_source);
  below = λ j k. ⊎_elim (λ e. subst (λ (x : ℕ). d i ≤ d x) (sym e) (omega arith)) (λ e. omega (arith, w.below j (omega arith))) (cases_eq j i);
  first = inr (omega arith, (omega (arith, w.at_source), λ j k. omega (arith, w.below j k)));
}

-- tests on the numbers from a on
found_at : (p : ℕ → Bool) (a n b : ℕ) → a ≤ b → b < a + n → p b ≡ true → ((j : ℕ) → a ≤ j → j < b → p j ≡ false) → find p (range_with_len a n) ≡ Some b
found_at p a zero b low high t before = absurd (omega arith)
found_at p a (suc n) b low high t before =
    ⊎_elim (λ e. cond-true (p a) (Some a) (find p (range_with_len (a + 1) n)) (ap p e ∙ t) ∙ ap (λ (x : ℕ). Some x) e)
    (λ e. cond-false (p a) (Some a) (find p (range_with_len (a + 1) n)) (before a (omega arith) (omega arith))
    ∙ found_at p (a + 1) n b (omega arith) (omega arith) t (λ j h k. before j (omega arith) k)) (cases_eq a b)

all_pass : (p : ℕ → Bool) (a n : ℕ) → ((j : ℕ) → a ≤ j → j < a + n → p j ≡ true) → list_all p (range_with_len a n) ≡ true
all_pass p a zero h = refl
all_pass p a (suc n) h = and_from (p a) (list_all p (range_with_len (a + 1) n)) (h a (omega arith) (omega arith)) (all_pass p (a + 1) n (λ j k l. h j (omega arith) (omega arith)))

one_fails : (p : ℕ → Bool) (a n b : ℕ) → a ≤ b → b < a + n → p b ≡ false → list_all p (range_with_len a n) ≡ false
one_fails p a zero b low high f = absurd (omega arith)
one_fails p a (suc n) b low high f =
    ⊎_elim (λ e. and_left (p a) (list_all p (range_with_len (a + 1) n)) (ap p e ∙ f))
    (λ e. and_right (p a) (list_all p (range_with_len (a + 1) n)) (one_fails p (a + 1) n b (omega arith) (omega arith) f)) (cases_eq a b)

pub least_found : (d : ℕ → ℕ) (source n best : ℕ) → IsLeastOf d source n best → first_least d (source ∷ range_with_len 0 n) ≡ best
least_found d source n best w = by w.first
  where
    -- no number is below the best one
    passes : list_all (λ (j : ℕ). nat_le (d best) (d j)) (source ∷ range_with_len 0 n) ≡ true
    passes =
        and_from (leb (d best) (d source)) (list_all (λ (j : ℕ). nat_le (d best) (d j)) (range_with_len 0 n)) (le-leb (d best) (d source) w.at_source)
        (all_pass (λ (j : ℕ). nat_le (d best) (d j)) 0 n (λ j h k. le-leb (d best) (d j) (w.below j (omega arith))))

    -- the best one is below each before it
    fails : best < n → (i : ℕ) → d best < d i → list_all (λ (j : ℕ). nat_le (d i) (d j)) (source ∷ range_with_len 0 n) ≡ false
    fails h i k =
        and_right (leb (d i) (d source)) (list_all (λ (j : ℕ). nat_le (d i) (d j)) (range_with_len 0 n))
        (one_fails (λ (j : ℕ). nat_le (d i) (d j)) 0 n best (omega arith) (omega arith) (lt-leb (d i) (d best) k))

    all : ℕ → Bool
    all i = list_all (λ (j : ℕ). nat_le (d i) (d j)) (source ∷ range_with_len 0 n)

    by : (best ≡ source) ⊎ ((best < n) × ((d best < d source) × ((j : ℕ) → j < best → d best < d j))) → first_least d (source ∷ range_with_len 0 n) ≡ best
    by (inl e) =
        ap (λ (o : Option ℕ). unwrap_or o 0)
        (cond-true (list_all (λ (j : ℕ). nat_le (d source) (d j)) (source ∷ range_with_len 0 n)) (Some source) (find (λ (i : ℕ). list_all (λ (j : ℕ). nat_le (d i) (d j)) (source ∷ range_with_len 0 n)) (range_with_len 0 n))
        (subst (λ (x : ℕ). list_all (λ (j : ℕ). nat_le (d x) (d j)) (source ∷ range_with_len 0 n) ≡ true) e passes)) ∙ sym e
    by (inr v) =
        ap (λ (o : Option ℕ). unwrap_or o 0)
        (cond-false (list_all (λ (j : ℕ). nat_le (d source) (d j)) (source ∷ range_with_len 0 n)) (Some source) (find (λ (i : ℕ). list_all (λ (j : ℕ). nat_le (d i) (d j)) (source ∷ range_with_len 0 n)) (range_with_len 0 n)) (fails v.0 source v.1.0)
        ∙ found_at (λ (i : ℕ). list_all (λ (j : ℕ). nat_le (d i) (d j)) (source ∷ range_with_len 0 n)) 0 n best (omega arith) (omega (arith, v.0)) passes (λ j h k. fails v.0 j (v.1.1 j k)))
