-- A tree between two nodes has potentials, whatever they are at its ends, if these differ by its voltage.
use Rattle.std.proofs.Common.{◌≡◌, ◌≢◌, ℕ, Bool, true, false, cond, ◌||◌, eqb, List, [], Some, inl, inr, ⊎_elim, refl, ap, sym, ◌∙◌, arith}
use Rattle.std.specs.Prelude.{slice_get, neg_ℤ}
use Rattle.std.specs.List.{All}
use Rattle.std.proofs.lemmas.Bool.{cases_Bool, cond-true, cond-false, eqb-true, eq-eqb, ne_eqb, or_cases, or_left, or_right}
use Rattle.std.proofs.lemmas.List.Elements.{All-nil, All-cons, All-append}
use lib.IntN.{ℤ, ◌+ℤ◌, ◌-ℤ◌}
use Rattle.wdf_algebra.proofs.RingLaws.{linear}
use Rattle.wdf_law.specs.declared.connection.Connection.TheVariants.{Series, Parallel}
use Rattle.wdf_law.specs.declared.kind.Kind.{Kind}
use Rattle.wdf_law.specs.Elements.{signed}
use Rattle.wdf_law.specs.Trees.{AdaptorTree, leaf, series, parallel}
use Rattle.wdf_law.specs.Conductance.{conductance, series_first, series_second, parallel_first, parallel_second}
use Rattle.wdf_law.specs.Step.{Waves, ends, forks, up_wave, down_wave}
use Rattle.wdf_law.specs.Ports.{ports_of}
use Rattle.wdf_law.specs.Outline.{Outline, single, joined}
use Rattle.wdf_law.specs.Spans.{Branch, placed, AreApart, Spans, outline_of}
use Rattle.wdf_sp.specs.Reduction.{branch_at}
use Rattle.wdf_sp.specs.Kirchhoff.{HasDrop}
use Rattle.wdf_sp.proofs.SpanLemmas.{Reaches, in_first, in_second, shared_end, times-own}
use Rattle.wdf_sp.proofs.JunctionWaves.{ObeyJunctions}
use Rattle.wdf_sp.proofs.CurrentLemmas.{branch_is}

-- ---- the nodes of a network

-- an element of the network touches the node x
abbrev pub is_node : List Branch → Outline → ℕ → Bool
is_node bs (single i k f) x = eqb (branch_at bs i).from x || eqb (branch_at bs i).to x
is_node bs (joined c l r) x = is_node bs l x || is_node bs r x

node_reaches : (bs : List Branch) (t : Outline) (p q : ℕ) → Spans (slice_get bs) t p q → (x : ℕ) → is_node bs t x ≡ true → Reaches (slice_get bs) t x
node_reaches bs (single i k f) p q h x e = record {
  element = i;
  branch = branch_at bs i;
  is = h ∙ ap (λ (b : Branch). Some b) (sym (branch_is bs i p q k f h));
  touching = ⊎_elim (λ t. inl (eqb-true (branch_at bs i).from x t)) (λ t. inr (eqb-true (branch_at bs i).to x t)) (or_cases (eqb (branch_at bs i).from x) (eqb (branch_at bs i).to x) e);
  inside = times-own i k f;
}
node_reaches bs (joined Series l r) p q h x e =
    ⊎_elim (λ t. in_first (slice_get bs) Series l r x (node_reaches bs l p h.0 h.1 x t)) (λ t. in_second (slice_get bs) Series l r x (node_reaches bs r h.0 q h.2 x t)) (or_cases (is_node bs l x) (is_node bs r x) e)
node_reaches bs (joined Parallel l r) p q h x e =
    ⊎_elim (λ t. in_first (slice_get bs) Parallel l r x (node_reaches bs l p q h.0 x t)) (λ t. in_second (slice_get bs) Parallel l r x (node_reaches bs r p q h.1 x t)) (or_cases (is_node bs l x) (is_node bs r x) e)

leaf_nodes : (bs : List Branch) (i p q : ℕ) (k : Kind) (f : Bool) → slice_get bs i ≡ Some (placed k f p q) → (is_node bs (single i k f) p ≡ true) × (is_node bs (single i k f) q ≡ true)
leaf_nodes bs i p q k false h =
    let is = branch_is bs i p q k false h in (
      or_left _ _ (eq-eqb (branch_at bs i).from p (ap (λ (b : Branch). b.from) is)),
      or_right _ _ (eq-eqb (branch_at bs i).to q (ap (λ (b : Branch). b.to) is)),
    )
leaf_nodes bs i p q k true h =
    let is = branch_is bs i p q k true h in (
      or_right _ _ (eq-eqb (branch_at bs i).to p (ap (λ (b : Branch). b.to) is)),
      or_left _ _ (eq-eqb (branch_at bs i).from q (ap (λ (b : Branch). b.from) is)),
    )

first_node : (bs : List Branch) (t : Outline) (p q : ℕ) → Spans (slice_get bs) t p q → is_node bs t p ≡ true
first_node bs (single i k f) p q h = (leaf_nodes bs i p q k f h).0
first_node bs (joined Series l r) p q h = or_left (is_node bs l p) (is_node bs r p) (first_node bs l p h.0 h.1)
first_node bs (joined Parallel l r) p q h = or_left (is_node bs l p) (is_node bs r p) (first_node bs l p q h.0)

last_node : (bs : List Branch) (t : Outline) (p q : ℕ) → Spans (slice_get bs) t p q → is_node bs t q ≡ true
last_node bs (single i k f) p q h = (leaf_nodes bs i p q k f h).1
last_node bs (joined Series l r) p q h = or_right (is_node bs l q) (is_node bs r q) (last_node bs r h.0 q h.2)
last_node bs (joined Parallel l r) p q h = or_left (is_node bs l q) (is_node bs r q) (last_node bs l p q h.0)

-- ---- voltages

-- every element of the tree has the difference of the potentials v as its voltage
abbrev pub HaveDrops : List Branch → (ℕ → ℤ) → AdaptorTree → Waves → Type 0
HaveDrops bs v (leaf i k flip) (ends u d) = signed flip (d +ℤ u) ≡ v (branch_at bs i).from -ℤ v (branch_at bs i).to
HaveDrops bs v (leaf i k flip) (forks u d b1 b2 b wl wr) = ⊥
HaveDrops bs v (series m l r) (ends u d) = ⊥
HaveDrops bs v (series m l r) (forks u d b1 b2 b wl wr) = HaveDrops bs v l wl × HaveDrops bs v r wr
HaveDrops bs v (parallel m l r) (ends u d) = ⊥
HaveDrops bs v (parallel m l r) (forks u d b1 b2 b wl wr) = HaveDrops bs v l wl × HaveDrops bs v r wr

-- only the tree's own nodes count
drops_same : (bs : List Branch) (v v' : ℕ → ℤ) (t : AdaptorTree) (w : Waves) → ((x : ℕ) → is_node bs (outline_of t) x ≡ true → v x ≡ v' x) → HaveDrops bs v t w → HaveDrops bs v' t w
drops_same bs v v' (leaf i k flip) (ends u d) same h =
    let first = same (branch_at bs i).from (or_left _ _ (eq-eqb (branch_at bs i).from (branch_at bs i).from refl)) in
    let last = same (branch_at bs i).to (or_right _ _ (eq-eqb (branch_at bs i).to (branch_at bs i).to refl)) in
    h ∙ (λ j. first j -ℤ last j)
drops_same bs v v' (leaf i k flip) (forks u d b1 b2 b wl wr) same h = absurd h
drops_same bs v v' (series m l r) (ends u d) same h = absurd h
drops_same bs v v' (series m l r) (forks u d b1 b2 b wl wr) same h = (
  drops_same bs v v' l wl (λ x e. same x (or_left (is_node bs (outline_of l) x) (is_node bs (outline_of r) x) e)) h.0,
  drops_same bs v v' r wr (λ x e. same x (or_right (is_node bs (outline_of l) x) (is_node bs (outline_of r) x) e)) h.1,
)
drops_same bs v v' (parallel m l r) (ends u d) same h = absurd h
drops_same bs v v' (parallel m l r) (forks u d b1 b2 b wl wr) same h = (
  drops_same bs v v' l wl (λ x e. same x (or_left (is_node bs (outline_of l) x) (is_node bs (outline_of r) x) e)) h.0,
  drops_same bs v v' r wr (λ x e. same x (or_right (is_node bs (outline_of l) x) (is_node bs (outline_of r) x) e)) h.1,
)

-- potentials of a tree from p to q, with the values a and b there
pub record Potentials (bs : List Branch) (t : AdaptorTree) (w : Waves) (p q : ℕ) (a b : ℤ) : Type 0 where
  pub at : ℕ → ℤ
  pub first : at p ≡ a
  pub last : at q ≡ b
  pub drops : HaveDrops bs at t w

-- one potential on two trees whose potentials agree at the nodes that both have
pub record Glued (bs : List Branch) (l r : AdaptorTree) (wl wr : Waves) (v1 v2 : ℕ → ℤ) : Type 0 where
  pub at : ℕ → ℤ
  pub on_first : (x : ℕ) → is_node bs (outline_of l) x ≡ true → at x ≡ v1 x
  pub on_second : (x : ℕ) → is_node bs (outline_of r) x ≡ true → at x ≡ v2 x
  pub first : HaveDrops bs at l wl
  pub second : HaveDrops bs at r wr

pub glued : (bs : List Branch) (l r : AdaptorTree) (wl wr : Waves) (v1 v2 : ℕ → ℤ) → HaveDrops bs v1 l wl → HaveDrops bs v2 r wr
    → ((x : ℕ) → is_node bs (outline_of l) x ≡ true → is_node bs (outline_of r) x ≡ true → v1 x ≡ v2 x) → Glued bs l r wl wr v1 v2
glued bs l r wl wr v1 v2 d1 d2 agree = record {
  at = λ x. cond (is_node bs (outline_of l) x) (v1 x) (v2 x);
  on_first = first;
  on_second = second;
  first = drops_same bs v1 (λ x. cond (is_node bs (outline_of l) x) (v1 x) (v2 x)) l wl (λ x e. sym (first x e)) d1;
  second = drops_same bs v2 (λ x. cond (is_node bs (outline_of l) x) (v1 x) (v2 x)) r wr (λ x e. sym (second x e)) d2;
}
  where
    first : (x : ℕ) → is_node bs (outline_of l) x ≡ true → cond (is_node bs (outline_of l) x) (v1 x) (v2 x) ≡ v1 x
    first x e = cond-true (is_node bs (outline_of l) x) (v1 x) (v2 x) e

    second : (x : ℕ) → is_node bs (outline_of r) x ≡ true → cond (is_node bs (outline_of l) x) (v1 x) (v2 x) ≡ v2 x
    second x e =
        ⊎_elim (λ t. cond-true (is_node bs (outline_of l) x) (v1 x) (v2 x) t ∙ agree x t e) (λ f. cond-false (is_node bs (outline_of l) x) (v1 x) (v2 x) f)
        (cases_Bool (is_node bs (outline_of l) x))

-- the value at a node of the first tree, and at a node of the second
value_first : (bs : List Branch) (l r : AdaptorTree) (wl wr : Waves) (v1 v2 : ℕ → ℤ) (v : Glued bs l r wl wr v1 v2) (x : ℕ) (a : ℤ) → is_node bs (outline_of l) x ≡ true → v1 x ≡ a → v.at x ≡ a
value_first bs l r wl wr v1 v2 v x a node e = v.on_first x node ∙ e

value_second : (bs : List Branch) (l r : AdaptorTree) (wl wr : Waves) (v1 v2 : ℕ → ℤ) (v : Glued bs l r wl wr v1 v2) (x : ℕ) (a : ℤ) → is_node bs (outline_of r) x ≡ true → v2 x ≡ a → v.at x ≡ a
value_second bs l r wl wr v1 v2 v x a node e = v.on_second x node ∙ e

-- two trees between the same nodes, with the same values there
pub beside : (bs : List Branch) (l r : AdaptorTree) (wl wr : Waves) (p q : ℕ) (a b : ℤ) → Spans (slice_get bs) (outline_of l) p q → Spans (slice_get bs) (outline_of r) p q
    → AreApart (outline_of l) (outline_of r) → (v1 : Potentials bs l wl p q a b) → (v2 : Potentials bs r wr p q a b) → Glued bs l r wl wr v1.at v2.at
beside bs l r wl wr p q a b hl hr apart v1 v2 = glued bs l r wl wr v1.at v2.at v1.drops v2.drops agree
  where
    agree : (x : ℕ) → is_node bs (outline_of l) x ≡ true → is_node bs (outline_of r) x ≡ true → v1.at x ≡ v2.at x
    agree x e1 e2 =
        ⊎_elim (λ e. ap v1.at e ∙ v1.first ∙ sym v2.first ∙ ap v2.at (sym e)) (λ e. ap v1.at e ∙ v1.last ∙ sym v2.last ∙ ap v2.at (sym e))
        (shared_end (slice_get bs) (outline_of l) (outline_of r) p q hl apart x (node_reaches bs (outline_of l) p q hl x e1) (node_reaches bs (outline_of r) p q hr x e2))

-- one tree behind the other
behind : (bs : List Branch) (l r : AdaptorTree) (wl wr : Waves) (p s q : ℕ) (a b c : ℤ) → p ≢ q → Spans (slice_get bs) (outline_of l) p s → Spans (slice_get bs) (outline_of r) s q
    → AreApart (outline_of l) (outline_of r) → (v1 : Potentials bs l wl p s a c) → (v2 : Potentials bs r wr s q c b) → Glued bs l r wl wr v1.at v2.at
behind bs l r wl wr p s q a b c differ hl hr apart v1 v2 = glued bs l r wl wr v1.at v2.at v1.drops v2.drops agree
  where
    agree : (x : ℕ) → is_node bs (outline_of l) x ≡ true → is_node bs (outline_of r) x ≡ true → v1.at x ≡ v2.at x
    agree x e1 e2 =
        let w1 = node_reaches bs (outline_of l) p s hl x e1 in
        let w2 = node_reaches bs (outline_of r) s q hr x e2 in
        let inner : x ≡ s =
        ⊎_elim (λ e. ⊎_elim (λ k. k) (λ k. absurd (differ (sym e ∙ k))) (shared_end (slice_get bs) (outline_of r) (outline_of l) s q hr (λ i. omega (arith, apart i)) x w2 w1)) (λ e. e)
        (shared_end (slice_get bs) (outline_of l) (outline_of r) p s hl apart x w1 w2) in
        ap v1.at inner ∙ v1.last ∙ sym v2.first ∙ ap v2.at (sym inner)

-- ---- a tree

leaf_potentials : (bs : List Branch) (i p q : ℕ) (k : Kind) (flip : Bool) (u d a b : ℤ) → slice_get bs i ≡ Some (placed k flip p q) → p ≢ q → a -ℤ b ≡ d +ℤ u → Potentials bs (leaf i k flip) (ends u d) p q a b
leaf_potentials bs i p q k flip u d a b h differ e = record {
  at = λ x. cond (eqb x p) a b;
  first = first;
  last = last;
  drops = drops flip h;
}
  where
    first : cond (eqb p p) a b ≡ a
    first = cond-true (eqb p p) a b (eq-eqb p p refl)

    last : cond (eqb q p) a b ≡ b
    last = cond-false (eqb q p) a b (ne_eqb q p (λ k. differ (sym k)))

    drops : (f : Bool) → slice_get bs i ≡ Some (placed k f p q) → signed f (d +ℤ u) ≡ cond (eqb (branch_at bs i).from p) a b -ℤ cond (eqb (branch_at bs i).to p) a b
    drops false is =
        let b1 = ap (λ (y : Branch). cond (eqb y.from p) a b) (branch_is bs i p q k false is) ∙ first in
        let b2 = ap (λ (y : Branch). cond (eqb y.to p) a b) (branch_is bs i p q k false is) ∙ last in
        sym e ∙ (λ j. sym b1 j -ℤ sym b2 j)
    drops true is =
        let b1 : cond (eqb (branch_at bs i).from p) a b ≡ b = ap (λ (y : Branch). cond (eqb y.from p) a b) (branch_is bs i p q k true is) ∙ last in
        let b2 : cond (eqb (branch_at bs i).to p) a b ≡ a = ap (λ (y : Branch). cond (eqb y.to p) a b) (branch_is bs i p q k true is) ∙ first in
        let turned : neg_ℤ (d +ℤ u) ≡ b -ℤ a = omega (arith, linear) in
        turned ∙ (λ j. sym b1 j -ℤ sym b2 j)

pub potentials_of : (bs : List Branch) (q f : ℕ) (t : AdaptorTree) (w : Waves) (p r : ℕ) (a b : ℤ) → ObeyJunctions q f t w → Spans (slice_get bs) (outline_of t) p r → p ≢ r
    → a -ℤ b ≡ down_wave w +ℤ up_wave w → Potentials bs t w p r a b
potentials_of bs q f (leaf i k flip) (ends u d) p r a b o h differ e = leaf_potentials bs i p r k flip u d a b h differ e
potentials_of bs q f (leaf i k flip) (forks u d b1 b2 b0 wl wr) p r a b o h differ e = absurd o
potentials_of bs q f (series m l r) (ends u d) p t a b o h differ e = absurd o
potentials_of bs q f (series m l r) (forks u d b1 b2 b0 wl wr) p t a b o h differ e =
    let s = h.0 in
    let c = a -ℤ (down_wave wl +ℤ up_wave wl) in
    let volts = o.0.voltages in
    let v1 = potentials_of bs q (series_first q f m r) l wl p s a c o.1 h.1 (λ k. h.4.not_first (sym k)) (omega (arith, linear)) in
    let v2 = potentials_of bs q (series_second q f m l) r wr s t c b o.2 h.2 h.4.not_last (omega (arith, linear)) in
    let v = behind bs l r wl wr p s t a b c differ h.1 h.2 h.3 v1 v2 in
    record {
      at = v.at;
      first = value_first bs l r wl wr v1.at v2.at v p a (first_node bs (outline_of l) p s h.1) v1.first;
      last = value_second bs l r wl wr v1.at v2.at v t b (last_node bs (outline_of r) s t h.2) v2.last;
      drops = (v.first, v.second);
    }
potentials_of bs q f (parallel m l r) (ends u d) p t a b o h differ e = absurd o
potentials_of bs q f (parallel m l r) (forks u d b1 b2 b0 wl wr) p t a b o h differ e =
    let v1 = potentials_of bs q (parallel_first q f m r) l wl p t a b o.1 h.0 differ (e ∙ sym o.0.first) in
    let v2 = potentials_of bs q (parallel_second q f m l) r wr p t a b o.2 h.1 differ (e ∙ sym o.0.second) in
    let v = beside bs l r wl wr p t a b h.0 h.1 h.2 v1 v2 in
    record {
      at = v.at;
      first = value_first bs l r wl wr v1.at v2.at v p a (first_node bs (outline_of l) p t h.0) v1.first;
      last = value_first bs l r wl wr v1.at v2.at v t b (last_node bs (outline_of l) p t h.0) v1.last;
      drops = (v.first, v.second);
    }

-- ---- the ports

pub all_drops : (bs : List Branch) (v : ℕ → ℤ) (q f : ℕ) (t : AdaptorTree) (w : Waves) (p r : ℕ) → Spans (slice_get bs) (outline_of t) p r → HaveDrops bs v t w → All (HasDrop bs v) (ports_of q f t w)
all_drops bs v q f (leaf i k flip) (ends u d) p r h drops =
    All-cons (HasDrop bs v) (record { element = record { number = i; kind = k; flip = flip }; conductance = conductance q f (leaf i k flip); up = u; down = d }) []
    (record {
      branch = branch_at bs i;
      at = h ∙ ap (λ (b : Branch). Some b) (sym (branch_is bs i p r k flip h));
      kind = ap (λ (b : Branch). b.kind) (branch_is bs i p r k flip h) ∙ kind_is k flip;
      drop = drops;
    })
    (All-nil (HasDrop bs v))
  where
    kind_is : (k : Kind) (f : Bool) → (placed k f p r).kind ≡ k
    kind_is k false = refl
    kind_is k true = refl
all_drops bs v q f (leaf i k flip) (forks u d b1 b2 b wl wr) p r h drops = absurd drops
all_drops bs v q f (series m l r) (ends u d) p t h drops = absurd drops
all_drops bs v q f (series m l r) (forks u d b1 b2 b wl wr) p t h drops =
    All-append (HasDrop bs v) (ports_of q (series_first q f m r) l wl) (ports_of q (series_second q f m l) r wr)
    (all_drops bs v q (series_first q f m r) l wl p h.0 h.1 drops.0) (all_drops bs v q (series_second q f m l) r wr h.0 t h.2 drops.1)
all_drops bs v q f (parallel m l r) (ends u d) p t h drops = absurd drops
all_drops bs v q f (parallel m l r) (forks u d b1 b2 b wl wr) p t h drops =
    All-append (HasDrop bs v) (ports_of q (parallel_first q f m r) l wl) (ports_of q (parallel_second q f m l) r wr)
    (all_drops bs v q (parallel_first q f m r) l wl p t h.0 drops.0) (all_drops bs v q (parallel_second q f m l) r wr p t h.1 drops.1)
