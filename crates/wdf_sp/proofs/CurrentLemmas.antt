-- The currents of a tree's elements at each node: they add to the current of the tree, out of its first end and
-- into its last.
use Rattle.std.proofs.Common.{◌≡◌, ℕ, Bool, true, false, cond, eqb, List, [], ◌∷◌, ◌++◌, Some, refl, ap, ◌∙◌, arith}
use Rattle.std.specs.Prelude.{slice_get, neg_ℤ}
use Rattle.std.specs.List.{count_by}
use Rattle.std.proofs.lemmas.List.Sums.{sum_by-append, sum_by-cons}
use Rattle.std.proofs.lemmas.Option.{get_or_from_slice_get}
use lib.IntN.{ℤ, pos, ◌+ℤ◌, ◌-ℤ◌, ◌*ℤ◌}
use Rattle.wdf_algebra.proofs.RingLaws.{linear}
use Rattle.wdf_law.specs.declared.kind.Kind.{Kind}
use Rattle.wdf_law.specs.declared.kind.Kind.TheVariants.{Res}
use Rattle.wdf_law.specs.Elements.{signed}
use Rattle.wdf_law.specs.Trees.{AdaptorTree, leaf, series, parallel}
use Rattle.wdf_law.specs.Conductance.{conductance, series_first, series_second, parallel_first, parallel_second}
use Rattle.wdf_law.specs.Step.{Waves, ends, forks, up_wave, down_wave}
use Rattle.wdf_law.specs.Ports.{Port, ports_of}
use Rattle.wdf_law.specs.Outline.{times}
use Rattle.wdf_law.specs.Spans.{Branch, placed, Spans, outline_of}
use Rattle.wdf_sp.specs.Reduction.{branch_at}
use Rattle.wdf_sp.specs.Kirchhoff.{at_node, out_of}
use Rattle.wdf_sp.proofs.JunctionWaves.{ObeyJunctions}

-- ---- the part of a value at a node

at_node-sum : (x y : ℕ) (a b c : ℤ) → a +ℤ b ≡ c → at_node x y a +ℤ at_node x y b ≡ at_node x y c
at_node-sum x y a b c h = by (eqb x y)
  where
    by : (t : Bool) → cond t a (pos 0) +ℤ cond t b (pos 0) ≡ cond t c (pos 0)
    by true = h
    by false = refl

at_node-neg : (x y : ℕ) (a : ℤ) → at_node x y (neg_ℤ a) ≡ neg_ℤ (at_node x y a)
at_node-neg x y a = by (eqb x y)
  where
    by : (t : Bool) → cond t (neg_ℤ a) (pos 0) ≡ neg_ℤ (cond t a (pos 0))
    by true = refl
    by false = refl

pub out_of-append : (bs : List Branch) (y : ℕ) (xs ys : List Port) → out_of bs y (xs ++ ys) ≡ out_of bs y xs +ℤ out_of bs y ys
out_of-append bs y [] ys = omega (arith, linear)
out_of-append bs y (x ∷ xs) ys = let rest = out_of-append bs y xs ys in omega (arith, linear)

-- ---- a tree

-- the current of a tree's own port
abbrev pub port_current : ℕ → ℕ → AdaptorTree → Waves → ℤ
port_current q f t w = pos (conductance q f t) *ℤ (down_wave w -ℤ up_wave w)

-- the element's branch in the circuit is the one that the leaf is placed at
pub branch_is : (bs : List Branch) (i p r : ℕ) (k : Kind) (flip : Bool) → slice_get bs i ≡ Some (placed k flip p r) → branch_at bs i ≡ placed k flip p r
branch_is bs i p r k flip h = get_or_from_slice_get bs i (placed k flip p r) (record { kind = Res; from = 0; to = 0 }) h

leaf_currents : (bs : List Branch) (y i p r : ℕ) (k : Kind) (flip : Bool) (j : ℤ) → slice_get bs i ≡ Some (placed k flip p r)
    → (at_node (branch_at bs i).from y (signed flip j) -ℤ at_node (branch_at bs i).to y (signed flip j)) +ℤ pos 0 ≡ at_node p y j -ℤ at_node r y j
leaf_currents bs y i p r k false j h =
    let is = branch_is bs i p r k false h in
    let first = ap (λ (b : Branch). at_node b.from y j) is in
    let last = ap (λ (b : Branch). at_node b.to y j) is in
    omega (arith, linear)
leaf_currents bs y i p r k true j h =
    let is = branch_is bs i p r k true h in
    let first = ap (λ (b : Branch). at_node b.from y (neg_ℤ j)) is in
    let last = ap (λ (b : Branch). at_node b.to y (neg_ℤ j)) is in
    omega (arith, linear, at_node-neg r y j, at_node-neg p y j)

pub currents_of : (bs : List Branch) (y q f : ℕ) (t : AdaptorTree) (w : Waves) (p r : ℕ) → ObeyJunctions q f t w → Spans (slice_get bs) (outline_of t) p r
    → out_of bs y (ports_of q f t w) ≡ at_node p y (port_current q f t w) -ℤ at_node r y (port_current q f t w)
currents_of bs y q f (leaf i k flip) (ends u d) p r o h = leaf_currents bs y i p r k flip (pos (conductance q f (leaf i k flip)) *ℤ (d -ℤ u)) h
currents_of bs y q f (leaf i k flip) (forks u d b1 b2 b wl wr) p r o h = absurd o
currents_of bs y q f (series m l r) (ends u d) p t o h = absurd o
currents_of bs y q f (series m l r) (forks u d b1 b2 b wl wr) p t o h =
    let s = h.0 in
    let j = port_current q f (series m l r) (forks u d b1 b2 b wl wr) in
    let j1 = port_current q (series_first q f m r) l wl in
    let j2 = port_current q (series_second q f m l) r wr in
    let left = currents_of bs y q (series_first q f m r) l wl p s o.1 h.1 in
    let right = currents_of bs y q (series_second q f m l) r wr s t o.2 h.2 in
    let e1 : at_node p y j1 ≡ at_node p y j = ap (at_node p y) o.0.first in
    let e2 : at_node s y j1 ≡ at_node s y j = ap (at_node s y) o.0.first in
    let e3 : at_node s y j2 ≡ at_node s y j = ap (at_node s y) o.0.second in
    let e4 : at_node t y j2 ≡ at_node t y j = ap (at_node t y) o.0.second in
    let both = out_of-append bs y (ports_of q (series_first q f m r) l wl) (ports_of q (series_second q f m l) r wr) in
    omega (arith, linear)
currents_of bs y q f (parallel m l r) (ends u d) p t o h = absurd o
currents_of bs y q f (parallel m l r) (forks u d b1 b2 b wl wr) p t o h =
    let j = port_current q f (parallel m l r) (forks u d b1 b2 b wl wr) in
    let j1 = port_current q (parallel_first q f m r) l wl in
    let j2 = port_current q (parallel_second q f m l) r wr in
    let left = currents_of bs y q (parallel_first q f m r) l wl p t o.1 h.0 in
    let right = currents_of bs y q (parallel_second q f m l) r wr p t o.2 h.1 in
    let first = at_node-sum p y j1 j2 j o.0.currents in
    let last = at_node-sum t y j1 j2 j o.0.currents in
    let both = out_of-append bs y (ports_of q (parallel_first q f m r) l wl) (ports_of q (parallel_second q f m l) r wr) in
    omega (arith, linear)

-- at the root the currents of the two trees add to zero
pub no_current : (p y : ℕ) (a b : ℤ) → a +ℤ b ≡ pos 0 → at_node p y a +ℤ at_node p y b ≡ pos 0
no_current p y a b h = at_node-sum p y a b (pos 0) h ∙ none (eqb p y)
  where
    none : (t : Bool) → cond t (pos 0) (pos 0) ≡ pos 0
    none true = refl
    none false = refl

-- ---- each element has a port

-- the port is that of the element i
abbrev pub is_port_of : ℕ → Port → Bool
is_port_of i x = eqb x.element.number i

pub count_ports : (i q f : ℕ) (t : AdaptorTree) (w : Waves) → ObeyJunctions q f t w → count_by (is_port_of i) (ports_of q f t w) ≡ times (outline_of t) i
count_ports i q f (leaf j k flip) (ends u d) o =
    sum_by-cons (λ (x : Port). cond {A = ℕ} (is_port_of i x) 1 0) (record { element = record { number = j; kind = k; flip = flip }; conductance = conductance q f (leaf j k flip); up = u; down = d }) []
    ∙ omega arith
count_ports i q f (leaf j k flip) (forks u d b1 b2 b wl wr) o = absurd o
count_ports i q f (series m l r) (ends u d) o = absurd o
count_ports i q f (series m l r) (forks u d b1 b2 b wl wr) o =
    let left = count_ports i q (series_first q f m r) l wl o.1 in
    let right = count_ports i q (series_second q f m l) r wr o.2 in
    let both = sum_by-append (λ (x : Port). cond {A = ℕ} (is_port_of i x) 1 0) (ports_of q (series_first q f m r) l wl) (ports_of q (series_second q f m l) r wr) in
    omega arith
count_ports i q f (parallel m l r) (ends u d) o = absurd o
count_ports i q f (parallel m l r) (forks u d b1 b2 b wl wr) o =
    let left = count_ports i q (parallel_first q f m r) l wl o.1 in
    let right = count_ports i q (parallel_second q f m l) r wr o.2 in
    let both = sum_by-append (λ (x : Port). cond {A = ℕ} (is_port_of i x) 1 0) (ports_of q (parallel_first q f m r) l wl) (ports_of q (parallel_second q f m l) r wr) in
    omega arith
