-- The numbers of the ports are large enough: p·g is carried from port to port.
use Rattle.std.proofs.Common.{◌≡◌, ℕ, ◌+◌, ◌-◌, ◌*◌, ◌^◌, ◌==◌, ◌<◌, ◌≤◌, Bool, true, false, if◌then◌else◌, List, [], ◌∷◌, refl, ap, sym, ◌∙◌, subst, arith}
use Rattle.std.proofs.Math.Nat.{mul-le-mul_left, le_of_mul-le-mul_left}
use Rattle.std.proofs.lemmas.Grind.{div_ceil_times}
use Rattle.std.specs.Prelude.{fold, ◌||◌}
use Rattle.wdf_law.specs.Trees.{AdaptorTree, leaf, series, parallel}
use Rattle.wdf_law.specs.Network.{Network, unit_of, has_leaf, source_numbers}
use Rattle.wdf_law.specs.Conductance.{clearing, conductance, series_first, series_second, parallel_first, parallel_second, left_factor, right_factor}
use Rattle.wdf_law.specs.TreeRules.{IsSound, HasSoundTrees, HasNumbers}
use Rattle.wdf_law.specs.Ports.{leaf_conductance, conductance_at, source_conductance}
use Rattle.wdf_quant.specs.PortBound.{PortNumbers, end, fork, own, NetworkNumbers, carried, beneath, reached, around, ratios_from, zeros, summed, with_ratios, port_numbers, leaf_number}
use Rattle.wdf_quant.proofs.LeafLemmas.{has_leaf-series, has_element-parts}
use Rattle.wdf_quant.specs.Covering.{Covers, CoversNetwork, own-covers, CoversSources}

-- ---- one step, from a port with the conductance g to one with h

stepped : (p a b g h c w : ℕ) → 0 < b → c ≤ p * g → a * h ≡ b * g → p * a ≤ w * b → c ≤ w * h
stepped p a b g h c w some here same up =
    let times : h * (p * a) ≤ h * (w * b) = mul-le-mul_left h up in
    let before : b * c ≤ b * (p * g) = mul-le-mul_left b here in
    let equal : p * (a * h) ≡ p * (b * g) = ap (λ (x : ℕ). p * x) same in
    let all : b * c ≤ b * (w * h) = omega arith in
    le_of_mul-le-mul_left all some

step : (p a b g h c : ℕ) → 0 < b → c ≤ p * g → a * h ≡ b * g → c ≤ carried p a b * h
step p a b g h c some here same = stepped p a b g h c (carried p a b) some here same (div_ceil_times (p * a) b some).0

-- what the multipliers m and n, with m + n = q, say of the conductances; a and b are the clearing numbers of the parts
series_to_first : (q f m n a b : ℕ) → m * (f * q * n * b * a) ≡ q * (f * (m * n * a * b))
series_to_first q f m n a b = omega arith

series_to_second : (q f m n a b : ℕ) → n * (f * q * m * a * b) ≡ q * (f * (m * n * a * b))
series_to_second q f m n a b = omega arith

parallel_to_first : (q f m a b : ℕ) → q * (f * m * b * a) ≡ m * (f * (q * a * b))
parallel_to_first q f m a b = omega arith

parallel_to_second : (q f n a b : ℕ) → q * (f * n * a * b) ≡ n * (f * (q * a * b))
parallel_to_second q f n a b = omega arith

left_to_right : (m n a b : ℕ) → m * (n * a * b) ≡ n * (m * b * a)
left_to_right m n a b = omega arith

rest_of : (q m : ℕ) → m < q → 0 < q - m
rest_of q m h = omega arith

-- ---- a tree

beneath-covers : (q c f : ℕ) (t : AdaptorTree) (p : ℕ) → 0 < q → IsSound q t → c ≤ p * conductance q f t → Covers q c f t (beneath q t p)
beneath-covers q c f (leaf i k flip) p unit s here = here
beneath-covers q c f (series m l r) p unit s here =
    let a = clearing q l in
    let b = clearing q r in (
      here,
      beneath-covers q c (series_first q f m r) l (carried p m q) unit s.2
          (step p m q (conductance q f (series m l r)) (conductance q (series_first q f m r) l) c unit here (series_to_first q f m (q - m) a b)),
      beneath-covers q c (series_second q f m l) r (carried p (q - m) q) unit s.3
          (step p (q - m) q (conductance q f (series m l r)) (conductance q (series_second q f m l) r) c unit here (series_to_second q f m (q - m) a b)),
    )
beneath-covers q c f (parallel m l r) p unit s here =
    let a = clearing q l in
    let b = clearing q r in (
      here,
      beneath-covers q c (parallel_first q f m r) l (carried p q m) unit s.2
          (step p q m (conductance q f (parallel m l r)) (conductance q (parallel_first q f m r) l) c s.0 here (parallel_to_first q f m a b)),
      beneath-covers q c (parallel_second q f m l) r (carried p q (q - m)) unit s.3
          (step p q (q - m) (conductance q f (parallel m l r)) (conductance q (parallel_second q f m l) r) c (rest_of q m s.1) here (parallel_to_second q f (q - m) a b)),
    )

own-around : (q i : ℕ) (t : AdaptorTree) → own (around q i t) ≡ reached q i t
own-around q i (leaf j k flip) = refl
own-around q i (series m l r) = refl
own-around q i (parallel m l r) = refl

-- so the own port of a tree with the source
reached-covers : (q c f i : ℕ) (t : AdaptorTree) → Covers q c f t (around q i t) → c ≤ reached q i t * conductance q f t
reached-covers q c f i t h = subst (λ (p : ℕ). c ≤ p * conductance q f t) (own-around q i t) (own-covers q c f t (around q i t) h)

series-covers : (q f i m : ℕ) (l r : AdaptorTree) → 0 < q → IsSound q (series m l r)
    → Covers q (2 ^ 40 * leaf_conductance q i (series_first q f m r) l) (series_first q f m r) l (around q i l)
    → Covers q (2 ^ 40 * leaf_conductance q i (series_second q f m l) r) (series_second q f m l) r (around q i r)
    → Covers q (2 ^ 40 * leaf_conductance q i f (series m l r)) f (series m l r) (around q i (series m l r))
series-covers q f i m l r unit s first second = by (has_leaf l i)
  where
    c1 : ℕ
    c1 = 2 ^ 40 * leaf_conductance q i (series_first q f m r) l

    c2 : ℕ
    c2 = 2 ^ 40 * leaf_conductance q i (series_second q f m l) r

    g : ℕ
    g = conductance q f (series m l r)

    g1 : ℕ
    g1 = conductance q (series_first q f m r) l

    g2 : ℕ
    g2 = conductance q (series_second q f m l) r

    p1 : ℕ
    p1 = carried (reached q i l) q m

    p2 : ℕ
    p2 = carried (reached q i r) q (q - m)

    by : (b : Bool) → Covers q (2 ^ 40 * (if b then leaf_conductance q i (series_first q f m r) l else leaf_conductance q i (series_second q f m l) r)) f (series m l r)
        (fork (if b then p1 else p2) (if b then around q i l else beneath q l (carried (if b then p1 else p2) m q))
        (if b then beneath q r (carried (if b then p1 else p2) (q - m) q) else around q i r))
    by true =
        let here : c1 ≤ p1 * g = step (reached q i l) q m g1 g c1 s.0 (reached-covers q c1 (series_first q f m r) i l first) (sym (series_to_first q f m (q - m) (clearing q l) (clearing q r))) in (
          here,
          first,
          beneath-covers q c1 (series_second q f m l) r (carried p1 (q - m) q) unit s.3 (step p1 (q - m) q g g2 c1 unit here (series_to_second q f m (q - m) (clearing q l) (clearing q r))),
        )
    by false =
        let here : c2 ≤ p2 * g = step (reached q i r) q (q - m) g2 g c2 (rest_of q m s.1) (reached-covers q c2 (series_second q f m l) i r second) (sym (series_to_second q f m (q - m) (clearing q l) (clearing q r))) in (
          here,
          beneath-covers q c2 (series_first q f m r) l (carried p2 m q) unit s.2 (step p2 m q g g1 c2 unit here (series_to_first q f m (q - m) (clearing q l) (clearing q r))),
          second,
        )

parallel-covers : (q f i m : ℕ) (l r : AdaptorTree) → 0 < q → IsSound q (parallel m l r)
    → Covers q (2 ^ 40 * leaf_conductance q i (parallel_first q f m r) l) (parallel_first q f m r) l (around q i l)
    → Covers q (2 ^ 40 * leaf_conductance q i (parallel_second q f m l) r) (parallel_second q f m l) r (around q i r)
    → Covers q (2 ^ 40 * leaf_conductance q i f (parallel m l r)) f (parallel m l r) (around q i (parallel m l r))
parallel-covers q f i m l r unit s first second = by (has_leaf l i)
  where
    c1 : ℕ
    c1 = 2 ^ 40 * leaf_conductance q i (parallel_first q f m r) l

    c2 : ℕ
    c2 = 2 ^ 40 * leaf_conductance q i (parallel_second q f m l) r

    g : ℕ
    g = conductance q f (parallel m l r)

    g1 : ℕ
    g1 = conductance q (parallel_first q f m r) l

    g2 : ℕ
    g2 = conductance q (parallel_second q f m l) r

    p1 : ℕ
    p1 = carried (reached q i l) m q

    p2 : ℕ
    p2 = carried (reached q i r) (q - m) q

    by : (b : Bool) → Covers q (2 ^ 40 * (if b then leaf_conductance q i (parallel_first q f m r) l else leaf_conductance q i (parallel_second q f m l) r)) f (parallel m l r)
        (fork (if b then p1 else p2) (if b then around q i l else beneath q l (carried (if b then p1 else p2) q m))
        (if b then beneath q r (carried (if b then p1 else p2) q (q - m)) else around q i r))
    by true =
        let here : c1 ≤ p1 * g = step (reached q i l) m q g1 g c1 unit (reached-covers q c1 (parallel_first q f m r) i l first) (sym (parallel_to_first q f m (clearing q l) (clearing q r))) in (
          here,
          first,
          beneath-covers q c1 (parallel_second q f m l) r (carried p1 q (q - m)) unit s.3 (step p1 q (q - m) g g2 c1 (rest_of q m s.1) here (parallel_to_second q f (q - m) (clearing q l) (clearing q r))),
        )
    by false =
        let here : c2 ≤ p2 * g = step (reached q i r) (q - m) q g2 g c2 unit (reached-covers q c2 (parallel_second q f m l) i r second) (sym (parallel_to_second q f (q - m) (clearing q l) (clearing q r))) in (
          here,
          beneath-covers q c2 (parallel_first q f m r) l (carried p2 q m) unit s.2 (step p2 q m g g1 c2 s.0 here (parallel_to_first q f m (clearing q l) (clearing q r))),
          second,
        )

at_leaf : (b : Bool) (g : ℕ) → 2 ^ 40 * (if b then g else 0) ≤ 2 ^ 40 * g
at_leaf true g = omega arith
at_leaf false g = omega arith

around-covers : (q f i : ℕ) (t : AdaptorTree) → 0 < q → IsSound q t → Covers q (2 ^ 40 * leaf_conductance q i f t) f t (around q i t)
around-covers q f i (leaf j k flip) unit s = at_leaf (j == i) (conductance q f (leaf j k flip))
around-covers q f i (series m l r) unit s =
    series-covers q f i m l r unit s (around-covers q (series_first q f m r) i l unit s.2) (around-covers q (series_second q f m l) i r unit s.3)
around-covers q f i (parallel m l r) unit s =
    parallel-covers q f i m l r unit s (around-covers q (parallel_first q f m r) i l unit s.2) (around-covers q (parallel_second q f m l) i r unit s.3)

-- ---- a network

ratios-cover : (n : Network) (i : ℕ) → HasSoundTrees n → CoversNetwork n (2 ^ 40 * conductance_at n i) (ratios_from n i)
ratios-cover n i s = by (has_leaf n.left i)
  where
    q : ℕ
    q = unit_of n

    c1 : ℕ
    c1 = 2 ^ 40 * leaf_conductance q i (left_factor n) n.left

    c2 : ℕ
    c2 = 2 ^ 40 * leaf_conductance q i (right_factor n) n.right

    g1 : ℕ
    g1 = conductance q (left_factor n) n.left

    g2 : ℕ
    g2 = conductance q (right_factor n) n.right

    by : (b : Bool) → CoversNetwork n (2 ^ 40 * (if b then leaf_conductance q i (left_factor n) n.left else leaf_conductance q i (right_factor n) n.right))
        (if b
        then record { left = around q i n.left; right = beneath q n.right (carried (reached q i n.left) n.m (q - n.m)) }
        else record { left = beneath q n.left (carried (reached q i n.right) (q - n.m) n.m); right = around q i n.right })
    by true =
        let left = around-covers q (left_factor n) i n.left s.unit s.left in
        record {
          left = left;
          right = beneath-covers q c1 (right_factor n) n.right (carried (reached q i n.left) n.m (q - n.m)) s.unit s.right
              (step (reached q i n.left) n.m (q - n.m) g1 g2 c1 (rest_of q n.m s.few) (reached-covers q c1 (left_factor n) i n.left left) (left_to_right n.m (q - n.m) (clearing q n.left) (clearing q n.right)));
        }
    by false =
        let right = around-covers q (right_factor n) i n.right s.unit s.right in
        record {
          left = beneath-covers q c2 (left_factor n) n.left (carried (reached q i n.right) (q - n.m) n.m) s.unit s.left
              (step (reached q i n.right) (q - n.m) n.m g2 g1 c2 s.some (reached-covers q c2 (right_factor n) i n.right right) (sym (left_to_right n.m (q - n.m) (clearing q n.left) (clearing q n.right))));
          right = right;
        }

-- ---- sums

both : (p s g c d : ℕ) → c ≤ p * g → d ≤ s * g → c + d ≤ (p + s) * g
both p s g c d first second = omega arith

summed-covers : (q c d f : ℕ) (t : AdaptorTree) (w v : PortNumbers) → Covers q c f t w → Covers q d f t v → Covers q (c + d) f t (summed w v)
summed-covers q c d f (leaf i k flip) (end p) (end s) first second = both p s (conductance q f (leaf i k flip)) c d first second
summed-covers q c d f (leaf i k flip) (end p) (fork s vl vr) first second = absurd second
summed-covers q c d f (leaf i k flip) (fork p wl wr) v first second = absurd first
summed-covers q c d f (series m l r) (end p) v first second = absurd first
summed-covers q c d f (series m l r) (fork p wl wr) (end s) first second = absurd second
summed-covers q c d f (series m l r) (fork p wl wr) (fork s vl vr) first second = (
  both p s (conductance q f (series m l r)) c d first.0 second.0,
  summed-covers q c d (series_first q f m r) l wl vl first.1 second.1,
  summed-covers q c d (series_second q f m l) r wr vr first.2 second.2,
)
summed-covers q c d f (parallel m l r) (end p) v first second = absurd first
summed-covers q c d f (parallel m l r) (fork p wl wr) (end s) first second = absurd second
summed-covers q c d f (parallel m l r) (fork p wl wr) (fork s vl vr) first second = (
  both p s (conductance q f (parallel m l r)) c d first.0 second.0,
  summed-covers q c d (parallel_first q f m r) l wl vl first.1 second.1,
  summed-covers q c d (parallel_second q f m l) r wr vr first.2 second.2,
)

zeros-covers : (q f : ℕ) (t : AdaptorTree) → Covers q 0 f t (zeros t)
zeros-covers q f (leaf i k flip) = omega arith
zeros-covers q f (series m l r) = (omega arith, zeros-covers q (series_first q f m r) l, zeros-covers q (series_second q f m l) r)
zeros-covers q f (parallel m l r) = (omega arith, zeros-covers q (parallel_first q f m r) l, zeros-covers q (parallel_second q f m l) r)

-- c is the sum of the conductances so far
with_ratios-cover : (n : Network) (is : List ℕ) (c : ℕ) (w : NetworkNumbers) → HasSoundTrees n → CoversNetwork n (2 ^ 40 * c) w
    → CoversNetwork n (2 ^ 40 * fold (λ (a : ℕ) (i : ℕ). a + conductance_at n i) c is) (with_ratios n is w)
with_ratios-cover n [] c w s h = h
with_ratios-cover n (i ∷ is) c w s h =
    let ratios = ratios-cover n i s in
    let next : NetworkNumbers = record { left = summed w.left (ratios_from n i).left; right = summed w.right (ratios_from n i).right } in
    let more : CoversNetwork n (2 ^ 40 * c + 2 ^ 40 * conductance_at n i) next =
    record {
      left = summed-covers (unit_of n) (2 ^ 40 * c) (2 ^ 40 * conductance_at n i) (left_factor n) n.left w.left (ratios_from n i).left h.left ratios.left;
      right = summed-covers (unit_of n) (2 ^ 40 * c) (2 ^ 40 * conductance_at n i) (right_factor n) n.right w.right (ratios_from n i).right h.right ratios.right;
    } in
    with_ratios-cover n is (c + conductance_at n i) next s (subst (λ (d : ℕ). CoversNetwork n d next) (regroup c (conductance_at n i)) more)
  where
    regroup : (c g : ℕ) → 2 ^ 40 * c + 2 ^ 40 * g ≡ 2 ^ 40 * (c + g)
    regroup c g = omega arith

ports-cover : (n : Network) → HasSoundTrees n → CoversNetwork n (2 ^ 40 * source_conductance n) (port_numbers n)
ports-cover n s =
    with_ratios-cover n (source_numbers n) 0 (record { left = zeros n.left; right = zeros n.right }) s
    (record { left = zeros-covers (unit_of n) (left_factor n) n.left; right = zeros-covers (unit_of n) (right_factor n) n.right })

-- ---- at the port of an element

-- a leaf of a junction that is not in its first part is in the second
second-part : (a b : Bool) → (a || b) ≡ true → a ≡ false → b ≡ true
second-part true b here not_first = absurd (cc)
second-part false b here not_first = here

two-leaves : (c x y g h : ℕ) (a b : Bool) → (a || b) ≡ true → (a ≡ true → c ≤ x * g) → (b ≡ true → c ≤ y * h)
    → c ≤ (if a then x else y) * (if a then g else h)
two-leaves c x y g h true b here first second = first refl
two-leaves c x y g h false b here first second = second here

only-leaf : (c p g : ℕ) (b : Bool) → (b || false) ≡ true → c ≤ p * g → c ≤ (if b then p else 0) * (if b then g else 0)
only-leaf c p g true here h = h
only-leaf c p g false here h = absurd (cc)

leaf-covers : (q c f j : ℕ) (t : AdaptorTree) (w : PortNumbers) → has_leaf t j ≡ true → Covers q c f t w → c ≤ leaf_number t w j * leaf_conductance q j f t
leaf-covers q c f j (leaf i k flip) (end p) here h = only-leaf c p (conductance q f (leaf i k flip)) (i == j) here h
leaf-covers q c f j (leaf i k flip) (fork p wl wr) here h = absurd h
leaf-covers q c f j (series m l r) (end p) here h = absurd h
leaf-covers q c f j (series m l r) (fork p wl wr) here h =
    two-leaves c (leaf_number l wl j) (leaf_number r wr j) (leaf_conductance q j (series_first q f m r) l) (leaf_conductance q j (series_second q f m l) r)
    (has_leaf l j) (has_leaf r j) (sym (has_leaf-series m j l r) ∙ here)
    (λ e. leaf-covers q c (series_first q f m r) j l wl e h.1) (λ e. leaf-covers q c (series_second q f m l) j r wr e h.2)
leaf-covers q c f j (parallel m l r) (end p) here h = absurd h
leaf-covers q c f j (parallel m l r) (fork p wl wr) here h =
    two-leaves c (leaf_number l wl j) (leaf_number r wr j) (leaf_conductance q j (parallel_first q f m r) l) (leaf_conductance q j (parallel_second q f m l) r)
    (has_leaf l j) (has_leaf r j) (sym (has_leaf-series m j l r) ∙ here)
    (λ e. leaf-covers q c (parallel_first q f m r) j l wl e h.1) (λ e. leaf-covers q c (parallel_second q f m l) j r wr e h.2)

pub covers-sources : (n : Network) → HasSoundTrees n → HasNumbers n → CoversSources n
covers-sources n s rules =
    let c = 2 ^ 40 * source_conductance n in
    let covers = ports-cover n s in
    record {
      ports = covers;
      leaves = λ j below.
          two-leaves c (leaf_number n.left (port_numbers n).left j) (leaf_number n.right (port_numbers n).right j)
          (leaf_conductance (unit_of n) j (left_factor n) n.left) (leaf_conductance (unit_of n) j (right_factor n) n.right)
          (has_leaf n.left j) (has_leaf n.right j) (sym (has_element-parts n j) ∙ rules.every j below)
          (λ e. leaf-covers (unit_of n) c (left_factor n) j n.left (port_numbers n).left e covers.left)
          (λ e. leaf-covers (unit_of n) c (right_factor n) j n.right (port_numbers n).right e covers.right);
    }
