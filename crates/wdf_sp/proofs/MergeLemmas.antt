-- A merge keeps that every edge of the list spans its elements between its ends.
use Rattle.std.proofs.Common.{◌≡◌, ◌≢◌, ℕ, ◌+◌, ◌<◌, ◌≤◌, Bool, true, false, cond, not, ◌&&◌, eqb, List, length, Option, Some, ◌⊎◌, inl, inr, ⊎_elim, refl, ap, sym, ◌∙◌, subst, arith, length-append}
use Rattle.std.specs.List.{sum_by, All}
use Rattle.std.proofs.lemmas.Bool.{cases_lt, cond_both, both_ways, eqb-true, eqb-false, eq-eqb, and_parts, and_from, or_cases, or_left, or_right, not-true}
use Rattle.wdf_law.specs.declared.connection.Connection.TheVariants.{Series, Parallel}
use Rattle.wdf_law.specs.Outline.{Outline, single, joined, outline_elements, times}
use Rattle.wdf_law.specs.Reversal.{reversed}
use Rattle.wdf_law.specs.Spans.{Branch, Touches, AreApart, Spans}
use Rattle.wdf_sp.specs.declared.merge.Merge.{Merge}
use Rattle.wdf_sp.specs.Reduction.{Arc, touches, turned, leaving, arriving, have_same_ends, degree, is_free, meet_at, are_in_series, inner_node, side_by_side, end_to_end, merged, no_arc, arc_at, next_merge, after_merge}
use Rattle.wdf_sp.proofs.SpanLemmas.{Reaches, HoldsAll, reaches_first, reaches_last, ends, times-reversed, reversed_spans}
use Rattle.wdf_sp.proofs.ListLemmas.{somewhere, two_apart, three_apart, sum_by-merged, All-merged}
use Rattle.wdf_sp.proofs.PairLemmas.{IsPair, IsSeriesPair, next_merge_some}

abbrev pub leaves : Arc → ℕ
leaves a = length (outline_elements a.shape)

pub leaves-reversed : (t : Outline) → length (outline_elements (reversed t)) ≡ length (outline_elements t)
leaves-reversed (single i k f) = refl
leaves-reversed (joined Series l r) =
    let ihl = leaves-reversed l in
    let ihr = leaves-reversed r in
    let before = length-append (outline_elements (reversed r)) (outline_elements (reversed l)) in
    let behind = length-append (outline_elements l) (outline_elements r) in
    omega arith
leaves-reversed (joined Parallel l r) =
    let ihl = leaves-reversed l in
    let ihr = leaves-reversed r in
    let before = length-append (outline_elements (reversed l)) (outline_elements (reversed r)) in
    let behind = length-append (outline_elements l) (outline_elements r) in
    omega arith

-- ---- one edge

-- the edge spans its elements between its ends
pub record Stands (g : ℕ → Option Branch) (a : Arc) : Type 0 where
  pub spans : Spans g a.shape a.from a.to
  pub ends : a.from ≢ a.to

turned_stands : (g : ℕ → Option Branch) (a : Arc) → Stands g a → Stands g (turned a)
turned_stands g a s = record { spans = reversed_spans g a.shape a.from a.to s.spans; ends = λ e. s.ends (sym e) }

-- the same elements, directed from x or to x
record Begins (g : ℕ → Option Branch) (x : ℕ) (a b : Arc) : Type 0 where
  begins : b.from ≡ x
  stands : Stands g b
  same : (i : ℕ) → times b.shape i ≡ times a.shape i
  count : leaves b ≡ leaves a
  other : ((a.from ≡ x) × (a.to ≡ b.to)) ⊎ ((a.to ≡ x) × (a.from ≡ b.to))

record Arrives (g : ℕ → Option Branch) (x : ℕ) (a b : Arc) : Type 0 where
  arrives : b.to ≡ x
  stands : Stands g b
  same : (i : ℕ) → times b.shape i ≡ times a.shape i
  count : leaves b ≡ leaves a
  other : ((a.to ≡ x) × (a.from ≡ b.from)) ⊎ ((a.from ≡ x) × (a.to ≡ b.from))

leaving_begins : (g : ℕ → Option Branch) (x : ℕ) (a : Arc) → Stands g a → touches x a ≡ true → Begins g x a (leaving x a)
leaving_begins g x a s t =
    cond_both (eqb a.from x) a (turned a) (λ (b : Arc). Begins g x a b)
    (λ e. record { begins = eqb-true a.from x e; stands = s; same = λ i. refl; count = refl; other = inl (eqb-true a.from x e, refl) })
    (λ e.
    let last : a.to ≡ x = ⊎_elim (λ h. absurd (both_ways (eqb a.from x) e h)) (λ h. eqb-true a.to x h) (or_cases (eqb a.from x) (eqb a.to x) t) in
    record { begins = last; stands = turned_stands g a s; same = times-reversed a.shape; count = leaves-reversed a.shape; other = inr (last, refl) })

arriving_arrives : (g : ℕ → Option Branch) (x : ℕ) (a : Arc) → Stands g a → touches x a ≡ true → Arrives g x a (arriving x a)
arriving_arrives g x a s t =
    cond_both (eqb a.to x) a (turned a) (λ (b : Arc). Arrives g x a b)
    (λ e. record { arrives = eqb-true a.to x e; stands = s; same = λ i. refl; count = refl; other = inl (eqb-true a.to x e, refl) })
    (λ e.
    let first : a.from ≡ x = ⊎_elim (λ h. eqb-true a.from x h) (λ h. absurd (both_ways (eqb a.to x) e h)) (or_cases (eqb a.from x) (eqb a.to x) t) in
    record { arrives = first; stands = turned_stands g a s; same = times-reversed a.shape; count = leaves-reversed a.shape; other = inr (first, refl) })

reaches_end : (g : ℕ → Option Branch) (x : ℕ) (a : Arc) → Stands g a → touches x a ≡ true → Reaches g a.shape x
reaches_end g x a s t =
    ⊎_elim (λ h. subst (λ (y : ℕ). Reaches g a.shape y) (eqb-true a.from x h) (reaches_first g a.shape a.from a.to s.spans))
    (λ h. subst (λ (y : ℕ). Reaches g a.shape y) (eqb-true a.to x h) (reaches_last g a.shape a.from a.to s.spans))
    (or_cases (eqb a.from x) (eqb a.to x) t)

-- ---- two edges

abbrev AreAlike : Arc → Arc → Type 0
AreAlike a b = ((b.from ≡ a.from) × (b.to ≡ a.to)) ⊎ ((b.from ≡ a.to) × (b.to ≡ a.from))

alike : (a b : Arc) → have_same_ends a b ≡ true → AreAlike a b
alike a b h =
    ⊎_elim (λ x. inl (let e = and_parts (eqb b.from a.from) (eqb b.to a.to) x in (eqb-true b.from a.from e.0, eqb-true b.to a.to e.1)))
    (λ x. inr (let e = and_parts (eqb b.from a.to) (eqb b.to a.from) x in (eqb-true b.from a.to e.0, eqb-true b.to a.from e.1)))
    (or_cases (eqb b.from a.from && eqb b.to a.to) (eqb b.from a.to && eqb b.to a.from) h)

from_alike : (a b : Arc) → AreAlike a b → have_same_ends a b ≡ true
from_alike a b (inl e) = or_left _ _ (and_from _ _ (eq-eqb b.from a.from e.0) (eq-eqb b.to a.to e.1))
from_alike a b (inr e) = or_right _ _ (and_from _ _ (eq-eqb b.from a.to e.0) (eq-eqb b.to a.from e.1))

-- c has the elements of a and of b
pub record Joins (g : ℕ → Option Branch) (a b c : Arc) : Type 0 where
  pub stands : Stands g c
  pub total : (i : ℕ) → times c.shape i ≡ times a.shape i + times b.shape i
  pub count : leaves c ≡ leaves a + leaves b

side_by_side_joins : (g : ℕ → Option Branch) (a b : Arc) → Stands g a → Stands g b → AreApart a.shape b.shape → have_same_ends a b ≡ true → Joins g a b (side_by_side a b)
side_by_side_joins g a b sa sb apart h =
    let c = leaving a.from b in
    let same = alike a b h in
    let w = leaving_begins g a.from b sb (touching same) in
    let last : c.to ≡ a.to = far same w.other in
    record {
      stands = record {
        spans = (
          sa.spans,
          subst (λ (y : ℕ). Spans g c.shape y a.to) w.begins (subst (λ (y : ℕ). Spans g c.shape c.from y) last w.stands.spans),
          λ i. omega (arith, apart i, w.same i),
        );
        ends = sa.ends;
      };
      total = λ i. omega (arith, w.same i);
      count = let whole = length-append (outline_elements a.shape) (outline_elements c.shape) in omega (arith, w.count);
    }
  where
    touching : AreAlike a b → touches a.from b ≡ true
    touching (inl e) = or_left _ _ (eq-eqb b.from a.from e.0)
    touching (inr e) = or_right _ _ (eq-eqb b.to a.from e.1)

    far : AreAlike a b → ((b.from ≡ a.from) × (b.to ≡ (leaving a.from b).to)) ⊎ ((b.to ≡ a.from) × (b.from ≡ (leaving a.from b).to)) → (leaving a.from b).to ≡ a.to
    far (inl e) (inl k) = sym k.1 ∙ e.1
    far (inl e) (inr k) = absurd (sa.ends (sym k.0 ∙ e.1))
    far (inr e) (inl k) = absurd (sa.ends (sym k.0 ∙ e.0))
    far (inr e) (inr k) = sym k.1 ∙ e.0

end_to_end_joins : (g : ℕ → Option Branch) (x : ℕ) (a b : Arc) → Stands g a → Stands g b → AreApart a.shape b.shape → touches x a ≡ true → touches x b ≡ true → have_same_ends a b ≡ false
    → ((i : ℕ) (c : Branch) → g i ≡ Some c → Touches c x → 0 < times a.shape i + times b.shape i) → Joins g a b (end_to_end x a b)
end_to_end_joins g x a b sa sb apart ta tb none alone =
    let c = arriving x a in
    let d = leaving x b in
    let v = arriving_arrives g x a sa ta in
    let w = leaving_begins g x b sb tb in
    record {
      stands = record {
        spans = (
          x,
          subst (λ (y : ℕ). Spans g c.shape c.from y) v.arrives v.stands.spans,
          subst (λ (y : ℕ). Spans g d.shape y d.to) w.begins w.stands.spans,
          λ i. omega (arith, apart i, v.same i, w.same i),
          record {
            not_first = λ e. v.stands.ends (sym e ∙ sym v.arrives);
            not_last = λ e. w.stands.ends (w.begins ∙ e);
            alone = λ i f is t. omega (arith, alone i f is t, v.same i, w.same i);
          },
        );
        ends = λ e. both_ways (have_same_ends a b) none (from_alike a b (closed e v.other w.other));
      };
      total = λ i. omega (arith, v.same i, w.same i);
      count = let whole = length-append (outline_elements c.shape) (outline_elements d.shape) in omega (arith, v.count, w.count);
    }
  where
    closed : (arriving x a).from ≡ (leaving x b).to → ((a.to ≡ x) × (a.from ≡ (arriving x a).from)) ⊎ ((a.from ≡ x) × (a.to ≡ (arriving x a).from))
        → ((b.from ≡ x) × (b.to ≡ (leaving x b).to)) ⊎ ((b.to ≡ x) × (b.from ≡ (leaving x b).to)) → AreAlike a b
    closed e (inl h) (inl k) = inr (k.0 ∙ sym h.0, k.1 ∙ sym e ∙ sym h.1)
    closed e (inl h) (inr k) = inl (k.1 ∙ sym e ∙ sym h.1, k.0 ∙ sym h.0)
    closed e (inr h) (inl k) = inl (k.0 ∙ sym h.0, k.1 ∙ sym e ∙ sym h.1)
    closed e (inr h) (inr k) = inr (k.1 ∙ sym e ∙ sym h.1, k.0 ∙ sym h.0)

-- ---- a node that no third edge touches

pub record IsFree (p q : ℕ) (es : List Arc) (n x : ℕ) : Type 0 where
  pub not_first : x ≢ p
  pub not_last : x ≢ q
  pub degree : degree es x ≡ n

pub free_parts : (p q : ℕ) (es : List Arc) (n x : ℕ) → is_free p q es n x ≡ true → IsFree p q es n x
free_parts p q es n x h =
    let first = and_parts (not (eqb x p)) (not (eqb x q) && eqb (degree es x) n) h in
    let second = and_parts (not (eqb x q)) (eqb (degree es x) n) first.1 in
    record {
      not_first = eqb-false x p (not-true (eqb x p) first.0);
      not_last = eqb-false x q (not-true (eqb x q) second.0);
      degree = eqb-true (degree es x) n second.1;
    }

-- where two edges are in series
record MeetIn (p q : ℕ) (es : List Arc) (a b : Arc) (x : ℕ) : Type 0 where
  first : touches x a ≡ true
  second : touches x b ≡ true
  free : IsFree p q es 2 x

meets_in : (p q : ℕ) (es : List Arc) (a b : Arc) → are_in_series p q es a b ≡ true → MeetIn p q es a b (inner_node p q es a b)
meets_in p q es a b h =
    cond_both (meet_at p q es a.to b) a.to a.from (λ (x : ℕ). MeetIn p q es a b x)
    (λ e. at a.to (or_right (eqb a.from a.to) (eqb a.to a.to) (eq-eqb a.to a.to refl)) e)
    (λ e. at a.from (or_left (eqb a.from a.from) (eqb a.to a.from) (eq-eqb a.from a.from refl))
    (⊎_elim (λ k. absurd (both_ways (meet_at p q es a.to b) e k)) (λ k. k) (or_cases (meet_at p q es a.to b) (meet_at p q es a.from b) h)))
  where
    at : (x : ℕ) → touches x a ≡ true → meet_at p q es x b ≡ true → MeetIn p q es a b x
    at x t e = let parts = and_parts (touches x b) (is_free p q es 2 x) e in record { first = t; second = parts.0; free = free_parts p q es 2 x parts.1 }

-- ---- the list

-- every element is in one edge at most, and each that touches a node other than p and q is in one
pub record Covers (g : ℕ → Option Branch) (p q : ℕ) (times_of : ℕ → ℕ) : Type 0 where
  pub most : (i : ℕ) → times_of i ≤ 1
  pub inner : (i : ℕ) (b : Branch) → g i ≡ Some b → (x : ℕ) → Touches b x → x ≢ p → x ≢ q → 0 < times_of i

-- every edge spans, the element i is in times_of i edges, and the edges have n leaves together
pub record AllStand (g : ℕ → Option Branch) (times_of : ℕ → ℕ) (n : ℕ) (es : List Arc) : Type 0 where
  pub stand : All (Stands g) es
  pub sums : (i : ℕ) → sum_by (λ (a : Arc). times a.shape i) es ≡ times_of i
  pub count : sum_by leaves es ≡ n

edges_apart : (g : ℕ → Option Branch) (p q : ℕ) (times_of : ℕ → ℕ) (n : ℕ) (es : List Arc) → Covers g p q times_of → AllStand g times_of n es
    → (i j : ℕ) → (i ≡ j → ⊥) → i < length es → j < length es → AreApart (arc_at es i).shape (arc_at es j).shape
edges_apart g p q times_of n es c s i j apart within1 within2 = λ e.
    omega (arith, two_apart (λ (a : Arc). times a.shape e) es i j no_arc apart within1 within2, s.sums e, c.most e)

-- every element at a node that only two edges touch is in one of these
at_joint : (g : ℕ → Option Branch) (p q : ℕ) (times_of : ℕ → ℕ) (n : ℕ) (es : List Arc) → Covers g p q times_of → AllStand g times_of n es
    → (i j x : ℕ) → i < j → j < length es → touches x (arc_at es i) ≡ true → touches x (arc_at es j) ≡ true → IsFree p q es 2 x
    → (e : ℕ) (b : Branch) → g e ≡ Some b → Touches b x → 0 < times (arc_at es i).shape e + times (arc_at es j).shape e
at_joint g p q times_of n es c s i j x order within ti tj free e b is t =
    ⊎_elim (λ some. some) (λ none. absurd (by none (somewhere (λ (a : Arc). times a.shape e) es no_arc (omega (arith, s.sums e, c.inner e b is x t free.not_first free.not_last)))))
    (cases_lt 0 (times (arc_at es i).shape e + times (arc_at es j).shape e))
  where
    by : times (arc_at es i).shape e + times (arc_at es j).shape e ≤ 0 → (k : ℕ) × ((k < length es) × (0 < times (arc_at es k).shape e)) → ⊥
    by none (k, (inside, some)) = at_end (ends g (arc_at es k).shape (arc_at es k).from (arc_at es k).to (s.stand k no_arc inside).spans x (record { element = e; branch = b; is = is; touching = t; inside = some }))
      where
        not_first : k ≡ i → ⊥
        not_first same = let h : times (arc_at es k).shape e ≡ times (arc_at es i).shape e = ap (λ (y : ℕ). times (arc_at es y).shape e) same in omega arith

        not_second : k ≡ j → ⊥
        not_second same = let h : times (arc_at es k).shape e ≡ times (arc_at es j).shape e = ap (λ (y : ℕ). times (arc_at es y).shape e) same in omega arith

        third : touches x (arc_at es k) ≡ true → ⊥
        third tk =
            let fi : cond {A = ℕ} (touches x (arc_at es i)) 1 0 ≡ 1 = ap (λ (y : Bool). cond {A = ℕ} y 1 0) ti in
            let fj : cond {A = ℕ} (touches x (arc_at es j)) 1 0 ≡ 1 = ap (λ (y : Bool). cond {A = ℕ} y 1 0) tj in
            let fk : cond {A = ℕ} (touches x (arc_at es k)) 1 0 ≡ 1 = ap (λ (y : Bool). cond {A = ℕ} y 1 0) tk in
            let three = three_apart (λ (a : Arc). cond {A = ℕ} (touches x a) 1 0) es i j k no_arc order within inside not_first not_second in
            omega (arith, free.degree)

        at_end : (x ≡ (arc_at es k).from) ⊎ ((x ≡ (arc_at es k).to) ⊎ HoldsAll g (arc_at es k).shape x) → ⊥
        at_end (inl h) = third (or_left (eqb (arc_at es k).from x) (eqb (arc_at es k).to x) (eq-eqb _ _ (sym h)))
        at_end (inr (inl h)) = third (or_right (eqb (arc_at es k).from x) (eqb (arc_at es k).to x) (eq-eqb _ _ (sym h)))
        at_end (inr (inr h)) =
            let w = reaches_end g x (arc_at es i) (s.stand i no_arc (omega arith)) ti in
            omega (arith, edges_apart g p q times_of n es c s k i not_first inside (omega arith) w.element, h w.element w.branch w.is w.touching, w.inside)

-- ---- a merge

pub merged_joins : (g : ℕ → Option Branch) (p q : ℕ) (times_of : ℕ → ℕ) (n : ℕ) (es : List Arc) → Covers g p q times_of → AllStand g times_of n es
    → (m : Merge) → next_merge p q es ≡ Some m → Joins g (arc_at es m.first) (arc_at es m.second) (merged p q es m.connection (arc_at es m.first) (arc_at es m.second))
merged_joins g p q times_of n es c s m found = by (next_merge_some p q es m found)
  where
    by : IsPair Parallel have_same_ends es m ⊎ IsSeriesPair p q es m → Joins g (arc_at es m.first) (arc_at es m.second) (merged p q es m.connection (arc_at es m.first) (arc_at es m.second))
    by (inl w) =
        subst (λ (h : _). Joins g (arc_at es m.first) (arc_at es m.second) (merged p q es h (arc_at es m.first) (arc_at es m.second))) (sym w.how)
        (side_by_side_joins g (arc_at es m.first) (arc_at es m.second) (s.stand m.first no_arc (omega (arith, w.order, w.within))) (s.stand m.second no_arc w.within)
        (edges_apart g p q times_of n es c s m.first m.second (λ same. omega (arith, w.order)) (omega (arith, w.order, w.within)) w.within) w.passes)
    by (inr v) =
        let w = v.pair in
        let meeting = meets_in p q es (arc_at es m.first) (arc_at es m.second) w.passes in
        let x = inner_node p q es (arc_at es m.first) (arc_at es m.second) in
        subst (λ (h : _). Joins g (arc_at es m.first) (arc_at es m.second) (merged p q es h (arc_at es m.first) (arc_at es m.second))) (sym w.how)
        (end_to_end_joins g x (arc_at es m.first) (arc_at es m.second) (s.stand m.first no_arc (omega (arith, w.order, w.within))) (s.stand m.second no_arc w.within)
        (edges_apart g p q times_of n es c s m.first m.second (λ same. omega (arith, w.order)) (omega (arith, w.order, w.within)) w.within)
        meeting.first meeting.second (v.none m.first m.second w.order w.within)
        (at_joint g p q times_of n es c s m.first m.second x w.order w.within meeting.first meeting.second meeting.free))

pub after_merge_stands : (g : ℕ → Option Branch) (p q : ℕ) (times_of : ℕ → ℕ) (n : ℕ) (es : List Arc) → Covers g p q times_of → AllStand g times_of n es
    → (m : Merge) → next_merge p q es ≡ Some m → (m.first < m.second) × (m.second < length es) → AllStand g times_of n (after_merge p q es m)
after_merge_stands g p q times_of n es c s m found places =
    let j = merged_joins g p q times_of n es c s m found in
    let d = merged p q es m.connection (arc_at es m.first) (arc_at es m.second) in
    record {
      stand = All-merged (Stands g) es m.first m.second d places.1 j.stands s.stand;
      sums = λ i. omega (arith, sum_by-merged (λ (a : Arc). times a.shape i) es m.first m.second d no_arc places.0 places.1, j.total i, s.sums i);
      count = omega (arith, sum_by-merged leaves es m.first m.second d no_arc places.0 places.1, j.count, s.count);
    }
