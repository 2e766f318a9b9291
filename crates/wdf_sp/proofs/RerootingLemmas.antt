-- Rerooting keeps that two trees meet: what is outside a part spans between the part's own ends.
use Rattle.std.proofs.Common.{◌≡◌, ℕ, ◌+◌, ◌<◌, ◌≤◌, Bool, cond, eqb, List, length, Some, ⊎_elim, ap, sym, ◌∙◌, arith}
use Rattle.std.specs.Prelude.{slice_get}
use Rattle.std.proofs.lemmas.Bool.{cases_Bool, cond_both, eqb-true, eqb-false}
use Rattle.std.proofs.lemmas.Option.{slice_get_within}
use Rattle.wdf_law.specs.declared.connection.Connection.{Connection}
use Rattle.wdf_law.specs.declared.connection.Connection.TheVariants.{Series, Parallel}
use Rattle.wdf_law.specs.Outline.{Outline, single, joined, times, has_number}
use Rattle.wdf_law.specs.Reversal.{reversed}
use Rattle.wdf_law.specs.Spans.{Branch, Touches}
use Rattle.wdf_sp.specs.Structure.{IsShapeOf, Meet, Meets, Halves}
use Rattle.wdf_sp.specs.Rerooting.{outside_first, outside_second, parted, source_leaf, rerooted}
use Rattle.wdf_sp.proofs.SpanLemmas.{reaches_first, reaches_last, shared_end, some_part, times_once, times-reversed, reversed_spans}

-- the first part of a series, with all that is outside it: q is no node of that part
into_first : (bs : List Branch) (l r o : Outline) (p q : ℕ) (m : Meet bs (joined Series l r) o p q) → Meet bs l (joined Series o (reversed r)) p m.left.0
into_first bs l r o p q m =
    let s = m.left.0 in
    let inner = m.left.4 in
    record {
      ends = λ e. inner.not_first (sym e);
      left = m.left.1;
      right = (
        q,
        m.right,
        reversed_spans (slice_get bs) r s q m.left.2,
        λ i. omega (arith, m.apart i, times-reversed r i),
        record {
          not_first = λ e. m.ends (sym e);
          not_last = λ e. inner.not_last (sym e);
          alone = λ i b is t. ⊎_elim (λ h. absurd (outside i b is t h)) (λ h. omega (arith, times-reversed r i)) (some_part (times l i) (times o i + times r i) (omega (arith, m.all i (slice_get_within bs i b is))));
        },
      );
      apart = λ i. omega (arith, m.apart i, times-reversed r i);
      all = λ i h. omega (arith, m.all i h, times-reversed r i);
    }
  where
    outside : (i : ℕ) (b : Branch) → slice_get bs i ≡ Some b → Touches b q → 0 < times l i → ⊥
    outside i b is t h =
        ⊎_elim (λ e. m.ends (sym e)) (λ e. m.left.4.not_last (sym e))
        (shared_end (slice_get bs) l r p m.left.0 m.left.1 m.left.3 q (record { element = i; branch = b; is = is; touching = t; inside = h }) (reaches_last (slice_get bs) r m.left.0 q m.left.2))

-- the second part: p is no node of it
into_second : (bs : List Branch) (l r o : Outline) (p q : ℕ) (m : Meet bs (joined Series l r) o p q) → Meet bs r (joined Series (reversed l) o) m.left.0 q
into_second bs l r o p q m =
    let s = m.left.0 in
    let inner = m.left.4 in
    record {
      ends = inner.not_last;
      left = m.left.2;
      right = (
        p,
        reversed_spans (slice_get bs) l p s m.left.1,
        m.right,
        λ i. omega (arith, m.apart i, times-reversed l i),
        record {
          not_first = λ e. inner.not_first (sym e);
          not_last = m.ends;
          alone = λ i b is t. ⊎_elim (λ h. absurd (outside i b is t h)) (λ h. omega (arith, times-reversed l i)) (some_part (times r i) (times l i + times o i) (omega (arith, m.all i (slice_get_within bs i b is))));
        },
      );
      apart = λ i. omega (arith, m.apart i, times-reversed l i);
      all = λ i h. omega (arith, m.all i h, times-reversed l i);
    }
  where
    outside : (i : ℕ) (b : Branch) → slice_get bs i ≡ Some b → Touches b p → 0 < times r i → ⊥
    outside i b is t h =
        ⊎_elim (λ e. m.left.4.not_first (sym e)) (λ e. m.ends e)
        (shared_end (slice_get bs) r l m.left.0 q m.left.2 (λ j. omega (arith, m.left.3 j)) p (record { element = i; branch = b; is = is; touching = t; inside = h }) (reaches_first (slice_get bs) l p m.left.0 m.left.1))

-- the parts of a parallel junction
beside_first : (bs : List Branch) (l r o : Outline) (p q : ℕ) → Meet bs (joined Parallel l r) o p q → Meet bs l (joined Parallel o r) p q
beside_first bs l r o p q m = record {
  ends = m.ends;
  left = m.left.0;
  right = (m.right, m.left.1, λ i. omega (arith, m.apart i));
  apart = λ i. omega (arith, m.apart i);
  all = λ i h. omega (arith, m.all i h);
}

beside_second : (bs : List Branch) (l r o : Outline) (p q : ℕ) → Meet bs (joined Parallel l r) o p q → Meet bs r (joined Parallel l o) p q
beside_second bs l r o p q m = record {
  ends = m.ends;
  left = m.left.1;
  right = (m.left.0, m.right, λ i. omega (arith, m.apart i));
  apart = λ i. omega (arith, m.apart i);
  all = λ i h. omega (arith, m.all i h);
}

-- a part, and what is outside it
first_meets : (bs : List Branch) (c : Connection) (l r o : Outline) (p q : ℕ) → Meet bs (joined c l r) o p q → Meets bs (record { left = l; right = outside_first c o r })
first_meets bs Series l r o p q m = (p, m.left.0, into_first bs l r o p q m)
first_meets bs Parallel l r o p q m = (p, q, beside_first bs l r o p q m)

second_meets : (bs : List Branch) (c : Connection) (l r o : Outline) (p q : ℕ) → Meet bs (joined c l r) o p q → Meets bs (record { left = r; right = outside_second c l o })
second_meets bs Series l r o p q m = (m.left.0, q, into_second bs l r o p q m)
second_meets bs Parallel l r o p q m = (p, q, beside_second bs l r o p q m)

pub parted_meets : (bs : List Branch) (at : ℕ) (t o : Outline) (p q : ℕ) → Meet bs t o p q → Meets bs (parted at t o)
parted_meets bs at (single i k f) o p q m = (p, q, m)
parted_meets bs at (joined c l r) o p q m =
    let first = first_meets bs c l r o p q m in
    let second = second_meets bs c l r o p q m in
    cond_both (has_number l at) (parted at l (outside_first c o r)) (parted at r (outside_second c l o)) (λ (h : Halves). Meets bs h)
    (λ _. parted_meets bs at l (outside_first c o r) first.0 first.1 first.2)
    (λ _. parted_meets bs at r (outside_second c l o) second.0 second.1 second.2)

-- a shape and the source's leaf
pub meets_source : (bs : List Branch) (source : ℕ) (t : Outline) (p q : ℕ) → IsShapeOf bs source t p q → Meet bs t (source_leaf source) p q
meets_source bs source t p q h = record {
  ends = h.ends;
  left = h.spans;
  right = h.source_at;
  apart = apart;
  all = all;
}
  where
    apart : (i : ℕ) → times t i + times (source_leaf source) i ≤ 1
    apart i =
        ⊎_elim (λ e. let one : times (source_leaf source) i ≡ 1 = ap (λ (b : Bool). cond {A = ℕ} b 1 0) e in
        let none : times t i ≡ 0 = ap (times t) (sym (eqb-true source i e)) ∙ h.source_apart in omega arith)
        (λ e. let none : times (source_leaf source) i ≡ 0 = ap (λ (b : Bool). cond {A = ℕ} b 1 0) e in omega (arith, times_once (slice_get bs) t p q h.spans i))
        (cases_Bool (eqb source i))

    all : (i : ℕ) → i < length bs → 0 < times t i + times (source_leaf source) i
    all i within =
        ⊎_elim (λ e. let one : times (source_leaf source) i ≡ 1 = ap (λ (b : Bool). cond {A = ℕ} b 1 0) e in omega arith)
        (λ e. omega (arith, h.others i within (λ same. eqb-false source i e (sym same)))) (cases_Bool (eqb source i))

pub rerooted_meets : (bs : List Branch) (source at : ℕ) (t : Outline) (p q : ℕ) → IsShapeOf bs source t p q → Meets bs (rerooted t source at)
rerooted_meets bs source at t p q h =
    let m = meets_source bs source t p q h in
    cond_both (eqb at source) (record { left = source_leaf source; right = t }) (parted at t (source_leaf source)) (λ (x : Halves). Meets bs x)
    (λ _. (
      p,
      q,
      record {
        ends = m.ends;
        left = m.right;
        right = m.left;
        apart = λ i. omega (arith, m.apart i);
        all = λ i within. omega (arith, m.all i within);
      },
    ))
    (λ _. parted_meets bs at t (source_leaf source) p q m)
