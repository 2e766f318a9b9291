-- The reduction keeps that every edge spans, and ends; so the shape that it accepts spans the circuit.
use Rattle.std.proofs.Common.{◌≡◌, ◌≢◌, ℕ, zero, suc, ◌+◌, ◌<◌, ◌≤◌, Bool, true, false, cond, if◌then◌else◌, ◌&&◌, eqb, List, [], ◌∷◌, length, Option, None, Some, ◌⊎◌, inl, inr, ⊎_elim, refl, ap, sym, ◌∙◌, subst, arith, length-append}
use Rattle.std.specs.Prelude.{slice_get, unwrap_or, IfSome}
use Rattle.std.specs.List.{sum_by, All, find}
use Rattle.std.specs.Option.{option_map}
use Rattle.std.proofs.lemmas.Bool.{cases_Bool, cond_both, eqb-true, eqb-false, and_parts, cond-true, cond-false}
use Rattle.std.proofs.lemmas.Option.{none-some, same_Some, slice_get-get_or, slice_get_within, get_or_from_slice_get}
use Rattle.std.proofs.lemmas.List.Elements.{All-nil, All-cons, All-head, All-tail}
use Rattle.std.proofs.lemmas.List.Sums.{sum_by-cons}
use Rattle.wdf_law.specs.declared.connection.Connection.TheVariants.{Series, Parallel}
use Rattle.wdf_law.specs.declared.kind.Kind.{Kind}
use Rattle.wdf_law.specs.declared.kind.Kind.TheVariants.{Src}
use Rattle.wdf_law.specs.Outline.{Outline, single, joined, outline_elements, outline_depth, outline_first, times}
use Rattle.wdf_law.specs.Reversal.{reversed}
use Rattle.wdf_law.specs.Spans.{Branch, Touches, Spans}
use Rattle.wdf_sp.specs.declared.merge.Merge.{Merge}
use Rattle.wdf_sp.specs.Reduction.{Arc, next_merge, after_merge, next, reduced, fully_reduced, branch_at, leaf_arc, edges_from, reduction, accepted, shape_in, arc_at, hangs, naming_element}
use Rattle.wdf_sp.specs.Structure.{IsDriven, IsShapeOf}
use Rattle.wdf_sp.proofs.SpanLemmas.{reversed_spans, times-reversed}
use Rattle.wdf_sp.proofs.ListLemmas.{length-merged}
use Rattle.wdf_sp.proofs.PairLemmas.{next_merge-order}
use Rattle.wdf_sp.proofs.MergeLemmas.{leaves, leaves-reversed, Stands, Covers, AllStand, after_merge_stands}

-- ---- one merge

-- the list after a merge, and the merge
record IsNext (p q : ℕ) (es fs : List Arc) : Type 0 where
  merge : Merge
  found : next_merge p q es ≡ Some merge
  is : after_merge p q es merge ≡ fs

next_some : (p q : ℕ) (es fs : List Arc) → next p q es ≡ Some fs → IsNext p q es fs
next_some p q es fs e = by (next_merge p q es) refl e
  where
    by : (o : Option Merge) → next_merge p q es ≡ o → option_map (after_merge p q es) o ≡ Some fs → IsNext p q es fs
    by None found h = absurd (none-some fs h)
    by (Some m) found h = record { merge = m; found = found; is = same_Some (after_merge p q es m) fs h }

pub length-after_merge : (p q : ℕ) (es : List Arc) (m : Merge) → next_merge p q es ≡ Some m → length (after_merge p q es m) + 1 ≡ length es
length-after_merge p q es m found = length-merged es m.first m.second _ (next_merge-order p q es m found).1

next_shorter : (p q : ℕ) (es fs : List Arc) → next p q es ≡ Some fs → length fs + 1 ≡ length es
next_shorter p q es fs e =
    let w = next_some p q es fs e in
    let same = ap (length {A = Arc}) w.is in
    omega (arith, length-after_merge p q es w.merge w.found)

next_keeps : (g : ℕ → Option Branch) (p q : ℕ) (times_of : ℕ → ℕ) (n : ℕ) → Covers g p q times_of → (es fs : List Arc) → AllStand g times_of n es → next p q es ≡ Some fs → AllStand g times_of n fs
next_keeps g p q times_of n c es fs s e =
    let w = next_some p q es fs e in
    subst (AllStand g times_of n) w.is (after_merge_stands g p q times_of n es c s w.merge w.found (next_merge-order p q es w.merge w.found))

-- ---- all of them

reduced-some : (n p q : ℕ) (es fs : List Arc) → next p q es ≡ Some fs → reduced (suc n) p q es ≡ reduced n p q fs
reduced-some n p q es fs e = ap (λ (o : Option (List Arc)). unwrap_or (option_map (reduced n p q) o) es) e

reduced-none : (n p q : ℕ) (es : List Arc) → next p q es ≡ None → reduced n p q es ≡ es
reduced-none zero p q es e = refl
reduced-none (suc n) p q es e = ap (λ (o : Option (List Arc)). unwrap_or (option_map (reduced n p q) o) es) e

pub reduced_keeps : (g : ℕ → Option Branch) (p q : ℕ) (times_of : ℕ → ℕ) (n : ℕ) → Covers g p q times_of → (k : ℕ) (es : List Arc) → AllStand g times_of n es → AllStand g times_of n (reduced k p q es)
reduced_keeps g p q times_of n c zero es s = s
reduced_keeps g p q times_of n c (suc k) es s = by (next p q es) refl (λ fs h. reduced_keeps g p q times_of n c k fs h)
  where
    by : (o : Option (List Arc)) → next p q es ≡ o → ((fs : List Arc) → AllStand g times_of n fs → AllStand g times_of n (reduced k p q fs)) → AllStand g times_of n (reduced (suc k) p q es)
    by None e rest = subst (AllStand g times_of n) (sym (reduced-none (suc k) p q es e)) s
    by (Some fs) e rest = subst (AllStand g times_of n) (sym (reduced-some k p q es fs e)) (rest fs (next_keeps g p q times_of n c es fs s e))

reduced_stops : (n p q : ℕ) (es : List Arc) → length es ≤ n → next p q (reduced n p q es) ≡ None
reduced_stops zero p q [] h = refl
reduced_stops zero p q (a ∷ es) h = absurd (omega arith)
reduced_stops (suc n) p q es h = by (next p q es) refl (λ fs k. reduced_stops n p q fs k)
  where
    by : (o : Option (List Arc)) → next p q es ≡ o → ((fs : List Arc) → length fs ≤ n → next p q (reduced n p q fs) ≡ None) → next p q (reduced (suc n) p q es) ≡ None
    by None e rest = ap (next p q) (reduced-none (suc n) p q es e) ∙ e
    by (Some fs) e rest = ap (next p q) (reduced-some n p q es fs e) ∙ rest fs (omega (arith, next_shorter p q es fs e))

-- neither rule changes the list where the reduction ends
pub fully_reduced_stops : (p q : ℕ) (es : List Arc) → next p q (fully_reduced p q es) ≡ None
fully_reduced_stops p q es = reduced_stops (length es) p q es (omega arith)

pub fully_reduced-none : (p q : ℕ) (es : List Arc) → next_merge p q es ≡ None → fully_reduced p q es ≡ es
fully_reduced-none p q es e = reduced-none (length es) p q es (ap (option_map (after_merge p q es)) e)

pub fully_reduced-some : (p q : ℕ) (es : List Arc) (m : Merge) → next_merge p q es ≡ Some m → fully_reduced p q es ≡ fully_reduced p q (after_merge p q es m)
fully_reduced-some p q es m e =
    let fs = after_merge p q es m in
    let found : next p q es ≡ Some (after_merge p q es m) = ap (option_map (after_merge p q es)) e in
    let long : length es ≡ suc (length (after_merge p q es m)) = omega (arith, length-after_merge p q es m e) in
    ap (λ (n : ℕ). reduced n p q es) long ∙ reduced-some (length fs) p q es fs found

-- ---- the shape of one edge

record Spanning (g : ℕ → Option Branch) (times_of : ℕ → ℕ) (n p q : ℕ) (t : Outline) : Type 0 where
  spans : Spans g t p q
  total : (i : ℕ) → times t i ≡ times_of i
  count : length (outline_elements t) ≡ n

accepted_spans : (g : ℕ → Option Branch) (times_of : ℕ → ℕ) (n p q : ℕ) (es : List Arc) (t : Outline) → AllStand g times_of n es → accepted p q es ≡ Some t → Spanning g times_of n p q t
accepted_spans g times_of n p q [] t s e = absurd (none-some t e)
accepted_spans g times_of n p q (a ∷ b ∷ es) t s e = absurd (none-some t e)
accepted_spans g times_of n p q (a ∷ []) t s e = by (eqb a.from p && eqb a.to q) refl (eqb a.from q && eqb a.to p) refl e
  where
    here : Stands g a
    here = All-head (Stands g) a [] s.stand

    total : (i : ℕ) → times a.shape i ≡ times_of i
    total i = omega (arith, s.sums i, sum_by-cons (λ (x : Arc). times x.shape i) a [])

    count : leaves a ≡ n
    count = omega (arith, s.count, sum_by-cons leaves a [])

    by : (along : Bool) → (eqb a.from p && eqb a.to q) ≡ along → (against : Bool) → (eqb a.from q && eqb a.to p) ≡ against
        → (if along then Some a.shape else if against then Some (reversed a.shape) else None) ≡ Some t → Spanning g times_of n p q t
    by true h against k found =
        let parts = and_parts (eqb a.from p) (eqb a.to q) h in
        let first : a.from ≡ p = eqb-true a.from p parts.0 in
        let last : a.to ≡ q = eqb-true a.to q parts.1 in
        subst (Spanning g times_of n p q) (same_Some a.shape t found)
        (record {
          spans = subst (λ (x : ℕ). Spans g a.shape x q) first (subst (λ (x : ℕ). Spans g a.shape a.from x) last here.spans);
          total = total;
          count = count;
        })
    by false h true k found =
        let parts = and_parts (eqb a.from q) (eqb a.to p) k in
        let first : a.from ≡ q = eqb-true a.from q parts.0 in
        let last : a.to ≡ p = eqb-true a.to p parts.1 in
        subst (Spanning g times_of n p q) (same_Some (reversed a.shape) t found)
        (record {
          spans = subst (λ (x : ℕ). Spans g (reversed a.shape) p x) first (subst (λ (x : ℕ). Spans g (reversed a.shape) x a.from) last (reversed_spans g a.shape a.from a.to here.spans));
          total = λ i. times-reversed a.shape i ∙ total i;
          count = leaves-reversed a.shape ∙ count;
        })
    by false h false k found = absurd (none-some t found)

-- ---- the first list

abbrev share : ℕ → Arc → ℕ
share i a = times a.shape i

edges_stand : (g : ℕ → Option Branch) (source n : ℕ) (bs : List Branch) → ((i : ℕ) (b : Branch) → slice_get bs i ≡ Some b → g (n + i) ≡ Some b)
    → ((i : ℕ) (b : Branch) → slice_get bs i ≡ Some b → b.from ≢ b.to) → All (Stands g) (edges_from source n bs)
edges_stand g source n [] at apart = All-nil (Stands g)
edges_stand g source n (b ∷ bs) at apart =
    by (eqb n source) (edges_stand g source (n + 1) bs (λ i c h. ap g (behind i) ∙ at (suc i) c h) (λ i c h. apart (suc i) c h))
  where
    behind : (i : ℕ) → n + 1 + i ≡ n + suc i
    behind i = omega arith

    first : n ≡ n + 0
    first = omega arith

    by : (t : Bool) → All (Stands g) (edges_from source (n + 1) bs)
        → All (Stands g) (if t then edges_from source (n + 1) bs else leaf_arc n b ∷ edges_from source (n + 1) bs)
    by true rest = rest
    by false rest = All-cons (Stands g) (leaf_arc n b) (edges_from source (n + 1) bs) (record { spans = ap g first ∙ at 0 b refl; ends = apart 0 b refl }) rest

-- how many edges of the list have the element i
held : ℕ → ℕ → List Branch → ℕ → ℕ
held source n bs i = sum_by (share i) (edges_from source n bs)

held-source : (source n : ℕ) (b : Branch) (bs : List Branch) (i : ℕ) → n ≡ source → held source n (b ∷ bs) i ≡ held source (n + 1) bs i
unfolding held
held-source source n b bs i h = ap (sum_by (share i)) (cond-true (eqb n source) (edges_from source (n + 1) bs) (leaf_arc n b ∷ edges_from source (n + 1) bs) (eq-is n source h))
  where
    eq-is : (x y : ℕ) → x ≡ y → eqb x y ≡ true
    eq-is x y e = ⊎_elim (λ t. t) (λ f. absurd (eqb-false x y f e)) (cases_Bool (eqb x y))

held-other : (source n : ℕ) (b : Branch) (bs : List Branch) (i : ℕ) → n ≢ source → held source n (b ∷ bs) i ≡ times (single n b.kind false) i + held source (n + 1) bs i
unfolding held
held-other source n b bs i h =
    ap (sum_by (share i)) (cond-false (eqb n source) (edges_from source (n + 1) bs) (leaf_arc n b ∷ edges_from source (n + 1) bs) (ne-is n source h))
    ∙ sum_by-cons (share i) (leaf_arc n b) (edges_from source (n + 1) bs)
  where
    ne-is : (x y : ℕ) → x ≢ y → eqb x y ≡ false
    ne-is x y e = ⊎_elim (λ t. absurd (e (eqb-true x y t))) (λ f. f) (cases_Bool (eqb x y))

-- a leaf's share
one_at : (n i : ℕ) (k : Kind) → ((n ≡ i) × (times (single n k false) i ≡ 1)) ⊎ ((n ≢ i) × (times (single n k false) i ≡ 0))
one_at n i k =
    ⊎_elim (λ t. inl (eqb-true n i t, ap (λ (b : Bool). cond {A = ℕ} b 1 0) t)) (λ f. inr (eqb-false n i f, ap (λ (b : Bool). cond {A = ℕ} b 1 0) f)) (cases_Bool (eqb n i))

here_or_behind : (x y : ℕ) → x ≤ y → (x ≡ y) ⊎ (x + 1 ≤ y)
here_or_behind x y h = ⊎_elim (λ t. inl (eqb-true x y t)) (λ g. let ne = eqb-false x y g in inr (omega arith)) (cases_Bool (eqb x y))

-- the list has the elements from n on without the source, each once
record IsHeld (source n : ℕ) (bs : List Branch) (i : ℕ) : Type 0 where
  most : held source n bs i ≤ 1
  before : i < n → held source n bs i ≡ 0
  none : i ≡ source → held source n bs i ≡ 0
  some : n ≤ i → i < n + length bs → i ≢ source → 0 < held source n bs i

is_held : (source n : ℕ) (bs : List Branch) (i : ℕ) → IsHeld source n bs i
unfolding held
is_held source n [] i = record { most = omega arith; before = λ h. refl; none = λ h. refl; some = λ h k m. absurd (omega arith) }
is_held source n (b ∷ bs) i = by (cases_Bool (eqb n source)) (one_at n i b.kind) (is_held source (n + 1) bs i)
  where
    by : (eqb n source ≡ true) ⊎ (eqb n source ≡ false) → ((n ≡ i) × (times (single n b.kind false) i ≡ 1)) ⊎ ((n ≢ i) × (times (single n b.kind false) i ≡ 0))
        → IsHeld source (n + 1) bs i → IsHeld source n (b ∷ bs) i
    by (inl t) at w =
        let same = held-source source n b bs i (eqb-true n source t) in
        let first : n ≡ source = eqb-true n source t in
        record {
          most = omega (arith, w.most);
          before = λ h. omega (arith, w.before (omega arith));
          none = λ h. omega (arith, w.none h);
          some = λ h k m. omega (arith, w.some (⊎_elim (λ e. absurd (m (sym e ∙ first))) (λ e. e) (here_or_behind n i h)) (omega arith) m);
        }
    by (inr f) (inl at) w =
        let more = held-other source n b bs i (eqb-false n source f) in
        let rest = w.before (omega (arith, at.0)) in
        record {
          most = omega (arith, at.1);
          before = λ h. absurd (omega (arith, at.0));
          none = λ h. absurd (eqb-false n source f (at.0 ∙ h));
          some = λ h k m. omega (arith, at.1);
        }
    by (inr f) (inr at) w =
        let more = held-other source n b bs i (eqb-false n source f) in
        record {
          most = omega (arith, at.1, w.most);
          before = λ h. omega (arith, at.1, w.before (omega arith));
          none = λ h. omega (arith, at.1, w.none h);
          some = λ h k m. omega (arith, at.1, w.some (⊎_elim (λ e. absurd (at.0 e)) (λ e. e) (here_or_behind n i h)) (omega arith) m);
        }

-- how many leaves the list has
held_leaves : ℕ → ℕ → List Branch → ℕ
held_leaves source n bs = sum_by leaves (edges_from source n bs)

-- one for each element, but for the source
record AreCounted (source n : ℕ) (bs : List Branch) : Type 0 where
  outside : source < n → held_leaves source n bs ≡ length bs
  within : n ≤ source → source < n + length bs → held_leaves source n bs + 1 ≡ length bs

are_counted : (source n : ℕ) (bs : List Branch) → AreCounted source n bs
unfolding held_leaves
are_counted source n [] = record { outside = λ h. refl; within = λ h k. absurd (omega arith) }
are_counted source n (b ∷ bs) = by (cases_Bool (eqb n source)) (are_counted source (n + 1) bs)
  where
    by : (eqb n source ≡ true) ⊎ (eqb n source ≡ false) → AreCounted source (n + 1) bs → AreCounted source n (b ∷ bs)
    by (inl t) w =
        let here : n ≡ source = eqb-true n source t in
        let same = ap (sum_by leaves) (cond-true (eqb n source) (edges_from source (n + 1) bs) (leaf_arc n b ∷ edges_from source (n + 1) bs) t) in
        record {
          outside = λ h. absurd (omega arith);
          within = λ h k. omega (arith, w.outside (omega arith));
        }
    by (inr f) w =
        let other = eqb-false n source f in
        let same = ap (sum_by leaves) (cond-false (eqb n source) (edges_from source (n + 1) bs) (leaf_arc n b ∷ edges_from source (n + 1) bs) f) in
        let more = sum_by-cons leaves (leaf_arc n b) (edges_from source (n + 1) bs) in
        record {
          outside = λ h. omega (arith, w.outside (omega arith));
          within = λ h k. omega (arith, w.within (omega arith) (omega arith));
        }

-- ---- a circuit

-- the source's branch
record IsSourceBranch (bs : List Branch) (source : ℕ) : Type 0 where
  inside : source < length bs
  at : slice_get bs source ≡ Some (branch_at bs source)
  kind : (branch_at bs source).kind ≡ Src
  ends : (branch_at bs source).from ≢ (branch_at bs source).to

source_branch : (bs : List Branch) (source : ℕ) → IsDriven bs source → IsSourceBranch bs source
source_branch bs source h =
    let b = h.source_at.0 in
    let inside = slice_get_within bs source b h.source_at.1 in
    let same : branch_at bs source ≡ b = get_or_from_slice_get bs source b _ h.source_at.1 in
    let at : slice_get bs source ≡ Some (branch_at bs source) = slice_get-get_or bs source _ inside in
    record {
      inside = inside;
      at = at;
      kind = ap (λ (x : Branch). x.kind) same ∙ h.source_at.2;
      ends = h.ends source (branch_at bs source) at;
    }

-- the shape spans the circuit, and has a leaf for each element but the source
pub record IsWholeShape (bs : List Branch) (source : ℕ) (t : Outline) : Type 0 where
  pub spans : IsShapeOf bs source t (branch_at bs source).from (branch_at bs source).to
  pub count : length (outline_elements t) + 1 ≡ length bs

-- every edge where its reduction ends stands in the circuit
reduction_stands : (bs : List Branch) (source : ℕ) → IsDriven bs source → AllStand (slice_get bs) (held source 0 bs) (held_leaves source 0 bs) (reduction bs source)
unfolding held held_leaves
reduction_stands bs source h =
    reduced_keeps (slice_get bs) (branch_at bs source).from (branch_at bs source).to (held source 0 bs) (held_leaves source 0 bs) (covers (source_branch bs source h))
    (length (edges_from source 0 bs)) (edges_from source 0 bs) start
  where
    start : AllStand (slice_get bs) (held source 0 bs) (held_leaves source 0 bs) (edges_from source 0 bs)
    start = record {
      stand = edges_stand (slice_get bs) source 0 bs (λ i c k. ap (slice_get bs) (from_zero i) ∙ k) h.ends;
      sums = λ i. refl;
      count = refl;
    }
      where
        from_zero : (i : ℕ) → 0 + i ≡ i
        from_zero i = omega arith

    covers : IsSourceBranch bs source → Covers (slice_get bs) (branch_at bs source).from (branch_at bs source).to (held source 0 bs)
    covers b = record {
      most = λ i. (is_held source 0 bs i).most;
      inner = λ i c is x touched not_first not_last.
          (is_held source 0 bs i).some (omega arith) (omega (arith, slice_get_within bs i c is)) (λ same. outside c x touched not_first not_last (same_Some _ c (sym b.at ∙ ap (slice_get bs) (sym same) ∙ is)));
    }
      where
        outside : (c : Branch) (x : ℕ) → Touches c x → x ≢ (branch_at bs source).from → x ≢ (branch_at bs source).to → branch_at bs source ≡ c → ⊥
        outside c x (inl k) not_first not_last same = not_first (sym (ap (λ (y : Branch). y.from) same ∙ k))
        outside c x (inr k) not_first not_last same = not_last (sym (ap (λ (y : Branch). y.to) same ∙ k))

pub shape_spans : (bs : List Branch) (source : ℕ) (t : Outline) → IsDriven bs source → shape_in bs source ≡ Some t → IsWholeShape bs source t
unfolding held held_leaves
shape_spans bs source t h e =
    let b = source_branch bs source h in
    let whole = accepted_spans (slice_get bs) (held source 0 bs) (held_leaves source 0 bs) (branch_at bs source).from (branch_at bs source).to (reduction bs source) t (reduction_stands bs source h) e in
    record {
      spans = record {
        ends = b.ends;
        source_at = b.at ∙ (λ i. Some (record { kind = b.kind i; from = (branch_at bs source).from; to = (branch_at bs source).to }));
        spans = whole.spans;
        source_apart = whole.total source ∙ (is_held source 0 bs source).none refl;
        others = λ i within apart. omega (arith, whole.total i, (is_held source 0 bs i).some (omega arith) (omega arith) apart);
      };
      count = omega (arith, whole.count, (are_counted source 0 bs).within (omega arith) (omega (arith, b.inside)));
    }

-- ---- the element that names a core

first_within : (bs : List Branch) (t : Outline) (p q : ℕ) → Spans (slice_get bs) t p q → outline_first t < length bs
first_within bs (single i k f) p q h = slice_get_within bs i _ h
first_within bs (joined Series l r) p q h = first_within bs l p h.0 h.1
first_within bs (joined Parallel l r) p q h = first_within bs l p q h.0

abbrev IsNamedWithin : List Branch → Arc → Type 0
IsNamedWithin bs a = outline_first a.shape < length bs

found_within : (bs : List Branch) (test : Arc → Bool) (es : List Arc) → All (Stands (slice_get bs)) es → IfSome (find test es) (IsNamedWithin bs)
found_within bs test [] all = tt
found_within bs test (a ∷ es) all =
    let stands = All-head (Stands (slice_get bs)) a es all in
    cond_both (test a) (Some a) (find test es) (λ (o : Option Arc). IfSome o (IsNamedWithin bs))
    (λ _. first_within bs a.shape a.from a.to stands.spans)
    (λ _. found_within bs test es (All-tail (Stands (slice_get bs)) a es all))

pub naming_within : (bs : List Branch) (source p q : ℕ) → IsDriven bs source → naming_element p q (reduction bs source) < length bs
naming_within bs source p q h =
    let all = (reduction_stands bs source h).stand in
    by (find (hangs p q (reduction bs source)) (reduction bs source)) (found_within bs (hangs p q (reduction bs source)) (reduction bs source) all) (reduction bs source) all
  where
    by : (o : Option Arc) → IfSome o (IsNamedWithin bs) → (es : List Arc) → All (Stands (slice_get bs)) es → outline_first (unwrap_or o (arc_at es 0)).shape < length bs
    by (Some a) found es all = found
    by None found [] all = let inside = (source_branch bs source h).inside in omega arith
    by None found (a ∷ es) all = let stands = All-head (Stands (slice_get bs)) a es all in first_within bs a.shape a.from a.to stands.spans

-- ---- depth

pub depth-leaves : (t : Outline) → outline_depth t < length (outline_elements t)
depth-leaves (single i k f) = omega arith
depth-leaves (joined c l r) =
    let ihl = depth-leaves l in
    let ihr = depth-leaves r in
    let both = length-append (outline_elements l) (outline_elements r) in
    omega arith
