-- The nodes of a network: its two ends, and inner nodes that no element outside touches.
use Rattle.std.proofs.Common.{◌≡◌, ℕ, ◌+◌, ◌<◌, ◌≤◌, Bool, true, false, cond, eqb, Option, Some, ◌⊎◌, inl, inr, ⊎_elim, refl, ap, sym, ◌∙◌, subst, arith}
use Rattle.std.proofs.lemmas.Bool.{cases_Bool, cases_lt, eqb-true, eq-eqb}
use Rattle.std.proofs.lemmas.Option.{same_Some}
use Rattle.wdf_law.specs.declared.connection.Connection.{Connection}
use Rattle.wdf_law.specs.declared.connection.Connection.TheVariants.{Series, Parallel}
use Rattle.wdf_law.specs.declared.kind.Kind.{Kind}
use Rattle.wdf_law.specs.Outline.{Outline, single, joined, times}
use Rattle.wdf_law.specs.Reversal.{reversed}
use Rattle.wdf_law.specs.Spans.{Branch, placed, Touches, AreApart, Spans}

-- ---- a leaf

pub times-own : (elem : ℕ) (k : Kind) (f : Bool) → 0 < times (single elem k f) elem
times-own elem k f =
    let one : times (single elem k f) elem ≡ 1 = ap (λ (b : Bool). cond {A = ℕ} b 1 0) (eq-eqb elem elem refl) in omega arith

pub times_at : (elem : ℕ) (k : Kind) (f : Bool) (i : ℕ) → 0 < times (single elem k f) i → elem ≡ i
times_at elem k f i h =
    ⊎_elim (λ e. eqb-true elem i e) (λ e. let none : times (single elem k f) i ≡ 0 = ap (λ (b : Bool). cond {A = ℕ} b 1 0) e in absurd (omega arith))
    (cases_Bool (eqb elem i))

placed-first : (k : Kind) (f : Bool) (p q : ℕ) → Touches (placed k f p q) p
placed-first k false p q = inl refl
placed-first k true p q = inr refl

placed-last : (k : Kind) (f : Bool) (p q : ℕ) → Touches (placed k f p q) q
placed-last k false p q = inr refl
placed-last k true p q = inl refl

placed-ends : (k : Kind) (f : Bool) (p q x : ℕ) → Touches (placed k f p q) x → (x ≡ p) ⊎ (x ≡ q)
placed-ends k false p q x h = ⊎_elim (λ e. inl (sym e)) (λ e. inr (sym e)) h
placed-ends k true p q x h = ⊎_elim (λ e. inr (sym e)) (λ e. inl (sym e)) h

pub some_part : (a b : ℕ) → 0 < a + b → (0 < a) ⊎ (0 < b)
some_part a b h = ⊎_elim (λ l. inl l) (λ n. inr (omega arith)) (cases_lt 0 a)

-- ---- nodes that a network touches

-- an element of the network touches the node x
pub record Reaches (g : ℕ → Option Branch) (t : Outline) (x : ℕ) : Type 0 where
  pub element : ℕ
  pub branch : Branch
  pub is : g element ≡ Some branch
  pub touching : Touches branch x
  pub inside : 0 < times t element

-- every element that touches the node x is in the network
abbrev pub HoldsAll : (ℕ → Option Branch) → Outline → ℕ → Type 0
HoldsAll g t x = (i : ℕ) (b : Branch) → g i ≡ Some b → Touches b x → 0 < times t i

abbrev pub in_first : (g : ℕ → Option Branch) (c : Connection) (l r : Outline) (x : ℕ) → Reaches g l x → Reaches g (joined c l r) x
in_first g c l r x w = record { element = w.element; branch = w.branch; is = w.is; touching = w.touching; inside = omega arith }

abbrev pub in_second : (g : ℕ → Option Branch) (c : Connection) (l r : Outline) (x : ℕ) → Reaches g r x → Reaches g (joined c l r) x
in_second g c l r x w = record { element = w.element; branch = w.branch; is = w.is; touching = w.touching; inside = omega arith }

pub reaches_first : (g : ℕ → Option Branch) (t : Outline) (p q : ℕ) → Spans g t p q → Reaches g t p
reaches_first g (single i k f) p q h =
    record { element = i; branch = placed k f p q; is = h; touching = placed-first k f p q; inside = times-own i k f }
reaches_first g (joined Series l r) p q h = in_first g Series l r p (reaches_first g l p h.0 h.1)
reaches_first g (joined Parallel l r) p q h = in_first g Parallel l r p (reaches_first g l p q h.0)

pub reaches_last : (g : ℕ → Option Branch) (t : Outline) (p q : ℕ) → Spans g t p q → Reaches g t q
reaches_last g (single i k f) p q h =
    record { element = i; branch = placed k f p q; is = h; touching = placed-last k f p q; inside = times-own i k f }
reaches_last g (joined Series l r) p q h = in_second g Series l r q (reaches_last g r h.0 q h.2)
reaches_last g (joined Parallel l r) p q h = in_first g Parallel l r q (reaches_last g l p q h.0)

-- which part of a junction touches the node
abbrev part : (g : ℕ → Option Branch) (c : Connection) (l r : Outline) (x : ℕ) → Reaches g (joined c l r) x → Reaches g l x ⊎ Reaches g r x
part g c l r x w =
    ⊎_elim (λ h. inl (record { element = w.element; branch = w.branch; is = w.is; touching = w.touching; inside = h }))
    (λ h. inr (record { element = w.element; branch = w.branch; is = w.is; touching = w.touching; inside = h }))
    (some_part (times l w.element) (times r w.element) w.inside)

-- a node that the network touches is one of its ends, or the network holds every element there
pub ends : (g : ℕ → Option Branch) (t : Outline) (p q : ℕ) → Spans g t p q → (x : ℕ) → Reaches g t x → (x ≡ p) ⊎ ((x ≡ q) ⊎ HoldsAll g t x)
ends g (single i k f) p q h x w =
    let same : i ≡ w.element = times_at i k f w.element w.inside in
    let is : placed k f p q ≡ w.branch = same_Some (placed k f p q) w.branch (sym h ∙ ap g same ∙ w.is) in
    ⊎_elim (λ e. inl e) (λ e. inr (inl e)) (placed-ends k f p q x (subst (λ (b : Branch). Touches b x) (sym is) w.touching))
ends g (joined Series l r) p q h x w =
    ⊎_elim (λ v. first (ends g l p h.0 h.1 x v)) (λ v. second (ends g r h.0 q h.2 x v)) (part g Series l r x w)
  where
    whole : x ≡ h.0 → HoldsAll g (joined Series l r) x
    whole e = λ i b is t. h.4.alone i b is (subst (λ (y : ℕ). Touches b y) e t)

    first : (x ≡ p) ⊎ ((x ≡ h.0) ⊎ HoldsAll g l x) → (x ≡ p) ⊎ ((x ≡ q) ⊎ HoldsAll g (joined Series l r) x)
    first (inl e) = inl e
    first (inr (inl e)) = inr (inr (whole e))
    first (inr (inr k)) = inr (inr (λ i b is t. omega (arith, k i b is t)))

    second : (x ≡ h.0) ⊎ ((x ≡ q) ⊎ HoldsAll g r x) → (x ≡ p) ⊎ ((x ≡ q) ⊎ HoldsAll g (joined Series l r) x)
    second (inl e) = inr (inr (whole e))
    second (inr (inl e)) = inr (inl e)
    second (inr (inr k)) = inr (inr (λ i b is t. omega (arith, k i b is t)))
ends g (joined Parallel l r) p q h x w =
    ⊎_elim (λ v. first (ends g l p q h.0 x v)) (λ v. second (ends g r p q h.1 x v)) (part g Parallel l r x w)
  where
    first : (x ≡ p) ⊎ ((x ≡ q) ⊎ HoldsAll g l x) → (x ≡ p) ⊎ ((x ≡ q) ⊎ HoldsAll g (joined Parallel l r) x)
    first (inl e) = inl e
    first (inr (inl e)) = inr (inl e)
    first (inr (inr k)) = inr (inr (λ i b is t. omega (arith, k i b is t)))

    second : (x ≡ p) ⊎ ((x ≡ q) ⊎ HoldsAll g r x) → (x ≡ p) ⊎ ((x ≡ q) ⊎ HoldsAll g (joined Parallel l r) x)
    second (inl e) = inl e
    second (inr (inl e)) = inr (inl e)
    second (inr (inr k)) = inr (inr (λ i b is t. omega (arith, k i b is t)))

-- a node that two networks without a common element touch is an end of the first
pub shared_end : (g : ℕ → Option Branch) (t u : Outline) (p q : ℕ) → Spans g t p q → AreApart t u → (x : ℕ) → Reaches g t x → Reaches g u x → (x ≡ p) ⊎ (x ≡ q)
shared_end g t u p q h apart x v w = by (ends g t p q h x v)
  where
    by : (x ≡ p) ⊎ ((x ≡ q) ⊎ HoldsAll g t x) → (x ≡ p) ⊎ (x ≡ q)
    by (inl e) = inl e
    by (inr (inl e)) = inr e
    by (inr (inr k)) = absurd (omega (arith, k w.element w.branch w.is w.touching, w.inside, apart w.element))

-- ---- each element once

pub times_once : (g : ℕ → Option Branch) (t : Outline) (p q : ℕ) → Spans g t p q → (i : ℕ) → times t i ≤ 1
times_once g (single elem k f) p q h i =
    ⊎_elim (λ e. let one : times (single elem k f) i ≡ 1 = ap (λ (b : Bool). cond {A = ℕ} b 1 0) e in omega arith)
    (λ e. let none : times (single elem k f) i ≡ 0 = ap (λ (b : Bool). cond {A = ℕ} b 1 0) e in omega arith) (cases_Bool (eqb elem i))
times_once g (joined Series l r) p q h i = h.3 i
times_once g (joined Parallel l r) p q h i = h.2 i

-- ---- reversal

pub times-reversed : (t : Outline) (i : ℕ) → times (reversed t) i ≡ times t i
times-reversed (single elem k f) i = refl
times-reversed (joined Series l r) i = omega (arith, times-reversed l i, times-reversed r i)
times-reversed (joined Parallel l r) i = omega (arith, times-reversed l i, times-reversed r i)

pub reversed_spans : (g : ℕ → Option Branch) (t : Outline) (p q : ℕ) → Spans g t p q → Spans g (reversed t) q p
reversed_spans g (single i k false) p q h = h
reversed_spans g (single i k true) p q h = h
reversed_spans g (joined Series l r) p q h = (
  h.0,
  reversed_spans g r h.0 q h.2,
  reversed_spans g l p h.0 h.1,
  λ i. omega (arith, h.3 i, times-reversed l i, times-reversed r i),
  record {
    not_first = h.4.not_last;
    not_last = h.4.not_first;
    alone = λ i b is t. omega (arith, h.4.alone i b is t, times-reversed l i, times-reversed r i);
  },
)
reversed_spans g (joined Parallel l r) p q h = (
  reversed_spans g l p q h.0,
  reversed_spans g r p q h.1,
  λ i. omega (arith, h.2 i, times-reversed l i, times-reversed r i),
)

pub reversed-reversed : (t : Outline) → reversed (reversed t) ≡ t
reversed-reversed (single i k false) = refl
reversed-reversed (single i k true) = refl
reversed-reversed (joined Series l r) = λ j. joined Series (reversed-reversed l j) (reversed-reversed r j)
reversed-reversed (joined Parallel l r) = λ j. joined Parallel (reversed-reversed l j) (reversed-reversed r j)
