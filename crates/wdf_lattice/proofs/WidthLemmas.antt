-- Where a plan fits, no port's number is too wide, and so no ratio that it sums is.
use Rattle.std.proofs.Common.{◌≡◌, ℕ, ◌-◌, ◌^◌, ◌≤◌, Bool, true, false, nat_le, if◌then◌else◌, List, [], ◌∷◌, ◌++◌, Option, None, Some, refl, ap, ◌∙◌, arith}
use Rattle.std.specs.Prelude.{All, IsTrue}
use Rattle.std.specs.Option.{option_or}
use Rattle.std.proofs.lemmas.Bool.{le-leb, leb-true}
use Rattle.std.proofs.lemmas.List.Elements.{All-nil, All-cons, All-head, All-tail}
use Rattle.wdf_law.specs.Trees.{AdaptorTree, leaf, series, parallel, first_of}
use Rattle.wdf_law.specs.Network.{Network, unit_of, has_leaf, source_numbers}
use Rattle.wdf_bounds.specs.Plans.{PlanOf}
use Rattle.wdf_bounds.specs.WordBound.{Fits}
use Rattle.wdf_quant.specs.declared.port_ratio.PortRatio.{PortRatio}
use Rattle.wdf_quant.specs.PortBound.{PortNumbers, end, fork, own, NetworkNumbers, carried, beneath, reached, around, ratios_from, zeros, summed, with_ratios, port_numbers, listed, outwards, walk_from, walk, EachPort, HasWholeWalk, first_wide, first_wide_from, wide_of}

-- ---- numbers in the shape of a tree

abbrev IsFitted : AdaptorTree → PortNumbers → Type 0
IsFitted (leaf i k flip) (end p) = Unit {0}
IsFitted (leaf i k flip) (fork p wl wr) = ⊥
IsFitted (series m l r) (end p) = ⊥
IsFitted (series m l r) (fork p wl wr) = IsFitted l wl × IsFitted r wr
IsFitted (parallel m l r) (end p) = ⊥
IsFitted (parallel m l r) (fork p wl wr) = IsFitted l wl × IsFitted r wr

fitted-either : (b : Bool) (t : AdaptorTree) (v w : PortNumbers) → IsFitted t v → IsFitted t w → IsFitted t (if b then v else w)
fitted-either true t v w f g = f
fitted-either false t v w f g = g

zeros-fitted : (t : AdaptorTree) → IsFitted t (zeros t)
zeros-fitted (leaf i k flip) = tt
zeros-fitted (series m l r) = (zeros-fitted l, zeros-fitted r)
zeros-fitted (parallel m l r) = (zeros-fitted l, zeros-fitted r)

beneath-fitted : (q : ℕ) (t : AdaptorTree) (p : ℕ) → IsFitted t (beneath q t p)
beneath-fitted q (leaf i k flip) p = tt
beneath-fitted q (series m l r) p = (beneath-fitted q l _, beneath-fitted q r _)
beneath-fitted q (parallel m l r) p = (beneath-fitted q l _, beneath-fitted q r _)

around-fitted : (q i : ℕ) (t : AdaptorTree) → IsFitted t (around q i t)
around-fitted q i (leaf j k flip) = tt
around-fitted q i (series m l r) =
    (fitted-either (has_leaf l i) l _ _ (around-fitted q i l) (beneath-fitted q l _), fitted-either (has_leaf l i) r _ _ (beneath-fitted q r _) (around-fitted q i r))
around-fitted q i (parallel m l r) =
    (fitted-either (has_leaf l i) l _ _ (around-fitted q i l) (beneath-fitted q l _), fitted-either (has_leaf l i) r _ _ (beneath-fitted q r _) (around-fitted q i r))

summed-fitted : (t : AdaptorTree) (v w : PortNumbers) → IsFitted t v → IsFitted t w → IsFitted t (summed v w)
summed-fitted (leaf i k flip) (end p) w f g = tt
summed-fitted (leaf i k flip) (fork p l r) w f g = absurd f
summed-fitted (series m tl tr) (end p) w f g = absurd f
summed-fitted (series m tl tr) (fork p l r) (end s) f g = absurd g
summed-fitted (series m tl tr) (fork p l r) (fork s wl wr) f g = (summed-fitted tl l wl f.0 g.0, summed-fitted tr r wr f.1 g.1)
summed-fitted (parallel m tl tr) (end p) w f g = absurd f
summed-fitted (parallel m tl tr) (fork p l r) (end s) f g = absurd g
summed-fitted (parallel m tl tr) (fork p l r) (fork s wl wr) f g = (summed-fitted tl l wl f.0 g.0, summed-fitted tr r wr f.1 g.1)

record AreFitted (n : Network) (w : NetworkNumbers) : Type 0 where
  left : IsFitted n.left w.left
  right : IsFitted n.right w.right

ratios-fitted : (n : Network) (i : ℕ) → AreFitted n (ratios_from n i)
ratios-fitted n i = by (has_leaf n.left i)
  where
    by : (b : Bool) → AreFitted n (if b
        then record { left = around (unit_of n) i n.left; right = beneath (unit_of n) n.right (carried (reached (unit_of n) i n.left) n.m (unit_of n - n.m)) }
        else record { left = beneath (unit_of n) n.left (carried (reached (unit_of n) i n.right) (unit_of n - n.m) n.m); right = around (unit_of n) i n.right })
    by true = record { left = around-fitted (unit_of n) i n.left; right = beneath-fitted (unit_of n) n.right _ }
    by false = record { left = beneath-fitted (unit_of n) n.left _; right = around-fitted (unit_of n) i n.right }

-- ---- numbers that are not too wide

abbrev IsNarrow : PortNumbers → Type 0
IsNarrow (end p) = p ≤ 2 ^ 62
IsNarrow (fork p l r) = (p ≤ 2 ^ 62) × IsNarrow l × IsNarrow r

record AreNarrow (w : NetworkNumbers) : Type 0 where
  left : IsNarrow w.left
  right : IsNarrow w.right

narrow-each : (w : PortNumbers) → EachPort (λ (p : ℕ). nat_le p (2 ^ 62)) w → IsNarrow w
narrow-each (end p) h = leb-true p (2 ^ 62) h
narrow-each (fork p l r) h = (leb-true p (2 ^ 62) h.0, narrow-each l h.1, narrow-each r h.2)

narrow-own : (w : PortNumbers) → IsNarrow w → own w ≤ 2 ^ 62
narrow-own (end p) h = h
narrow-own (fork p l r) h = h.0

-- where a sum is narrow, so are its parts
narrow-parts : (t : AdaptorTree) (v w : PortNumbers) → IsFitted t v → IsFitted t w → IsNarrow (summed v w) → IsNarrow v × IsNarrow w
narrow-parts (leaf i k flip) (end p) (end s) f g h = (omega arith, omega arith)
narrow-parts (leaf i k flip) (end p) (fork s wl wr) f g h = absurd g
narrow-parts (leaf i k flip) (fork p l r) w f g h = absurd f
narrow-parts (series m tl tr) (end p) w f g h = absurd f
narrow-parts (series m tl tr) (fork p l r) (end s) f g h = absurd g
narrow-parts (series m tl tr) (fork p l r) (fork s wl wr) f g h =
    let sum = h.0 in
    let first = narrow-parts tl l wl f.0 g.0 h.1 in
    let second = narrow-parts tr r wr f.1 g.1 h.2 in
    ((omega arith, first.0, second.0), (omega arith, first.1, second.1))
narrow-parts (parallel m tl tr) (end p) w f g h = absurd f
narrow-parts (parallel m tl tr) (fork p l r) (end s) f g h = absurd g
narrow-parts (parallel m tl tr) (fork p l r) (fork s wl wr) f g h =
    let sum = h.0 in
    let first = narrow-parts tl l wl f.0 g.0 h.1 in
    let second = narrow-parts tr r wr f.1 g.1 h.2 in
    ((omega arith, first.0, second.0), (omega arith, first.1, second.1))

-- ---- lists of narrow ports

narrow-more : (x : PortRatio) (xs : List PortRatio) → x.ratio ≤ 2 ^ 62 → first_wide xs ≡ None → first_wide (x ∷ xs) ≡ None
narrow-more x xs small none = ap (λ (b : Bool). if b then first_wide xs else Some (x.elem, x.ratio)) (le-leb x.ratio (2 ^ 62) small) ∙ none

narrow-all : (xs : List PortRatio) → All (λ (x : PortRatio). x.ratio ≤ 2 ^ 62) xs → first_wide xs ≡ None
narrow-all [] h = refl
narrow-all (x ∷ xs) h =
    narrow-more x xs (All-head (λ (y : PortRatio). y.ratio ≤ 2 ^ 62) x xs h) (narrow-all xs (All-tail (λ (y : PortRatio). y.ratio ≤ 2 ^ 62) x xs h))

narrow-behind : (xs ys : List PortRatio) → first_wide xs ≡ None → first_wide ys ≡ None → first_wide (xs ++ ys) ≡ None
narrow-behind [] ys h k = k
narrow-behind (x ∷ xs) ys h k = by (nat_le x.ratio (2 ^ 62)) (narrow-behind xs ys) h
  where
    by : (b : Bool) → (first_wide xs ≡ None → first_wide ys ≡ None → first_wide (xs ++ ys) ≡ None) → (if b then first_wide xs else Some (x.elem, x.ratio)) ≡ None
        → (if b then first_wide (xs ++ ys) else Some (x.elem, x.ratio)) ≡ None
    by true rest none = rest none k
    by false rest none = absurd (cc)

either-none : (b : Bool) (xs ys : List PortRatio) → first_wide xs ≡ None → first_wide ys ≡ None → first_wide (if b then xs else ys) ≡ None
either-none true xs ys h k = h
either-none false xs ys h k = k

narrow-list : (t : AdaptorTree) (w : PortNumbers) → IsNarrow w → first_wide (listed t w) ≡ None
narrow-list (leaf j k flip) w h = narrow-more (record { elem = j; leaf = true; ratio = own w }) [] (narrow-own w h) refl
narrow-list (series m l r) (end p) h = refl
narrow-list (series m l r) (fork p wl wr) h =
    narrow-more (record { elem = first_of l; leaf = false; ratio = p }) (listed l wl ++ listed r wr) h.0 (narrow-behind (listed l wl) (listed r wr) (narrow-list l wl h.1) (narrow-list r wr h.2))
narrow-list (parallel m l r) (end p) h = refl
narrow-list (parallel m l r) (fork p wl wr) h =
    narrow-more (record { elem = first_of l; leaf = false; ratio = p }) (listed l wl ++ listed r wr) h.0 (narrow-behind (listed l wl) (listed r wr) (narrow-list l wl h.1) (narrow-list r wr h.2))

narrow-outwards : (i : ℕ) (t : AdaptorTree) (w : PortNumbers) (beyond : List PortRatio) → IsNarrow w → first_wide beyond ≡ None → first_wide (outwards i t w beyond) ≡ None
narrow-outwards i (leaf j k flip) w beyond h none = narrow-more (record { elem = j; leaf = true; ratio = own w }) beyond (narrow-own w h) none
narrow-outwards i (series m l r) (end p) beyond h none = none
narrow-outwards i (series m l r) (fork p wl wr) beyond h none =
    let x : PortRatio = record { elem = first_of l; leaf = false; ratio = p } in
    either-none (has_leaf l i) _ _
    (narrow-outwards i l wl (x ∷ beyond ++ listed r wr) h.1 (narrow-more x (beyond ++ listed r wr) h.0 (narrow-behind beyond (listed r wr) none (narrow-list r wr h.2))))
    (narrow-outwards i r wr (x ∷ beyond ++ listed l wl) h.2 (narrow-more x (beyond ++ listed l wl) h.0 (narrow-behind beyond (listed l wl) none (narrow-list l wl h.1))))
narrow-outwards i (parallel m l r) (end p) beyond h none = none
narrow-outwards i (parallel m l r) (fork p wl wr) beyond h none =
    let x : PortRatio = record { elem = first_of l; leaf = false; ratio = p } in
    either-none (has_leaf l i) _ _
    (narrow-outwards i l wl (x ∷ beyond ++ listed r wr) h.1 (narrow-more x (beyond ++ listed r wr) h.0 (narrow-behind beyond (listed r wr) none (narrow-list r wr h.2))))
    (narrow-outwards i r wr (x ∷ beyond ++ listed l wl) h.2 (narrow-more x (beyond ++ listed l wl) h.0 (narrow-behind beyond (listed l wl) none (narrow-list l wl h.1))))

narrow-walk : (n : Network) (i : ℕ) (w : NetworkNumbers) → AreNarrow w → first_wide (walk_from n i w) ≡ None
narrow-walk n i w h =
    either-none (has_leaf n.left i) _ _ (narrow-outwards i n.left w.left (listed n.right w.right) h.left (narrow-list n.right w.right h.right))
    (narrow-outwards i n.right w.right (listed n.left w.left) h.right (narrow-list n.left w.left h.left))

-- ---- over the sources

-- where the sums over these sources and the numbers w are narrow, w is, and no ratio seen from one of them is too wide
narrow-sources : (n : Network) (is : List ℕ) (w : NetworkNumbers) → AreFitted n w → AreNarrow (with_ratios n is w) → AreNarrow w × (first_wide_from n is ≡ None)
narrow-sources n [] w fit h = (h, refl)
narrow-sources n (i ∷ is) w fit h =
    let from = ratios_from n i in
    let seen = ratios-fitted n i in
    let sums : NetworkNumbers = record { left = summed w.left from.left; right = summed w.right from.right } in
    let rest = narrow-sources n is sums (record { left = summed-fitted n.left w.left from.left fit.left seen.left; right = summed-fitted n.right w.right from.right fit.right seen.right }) h in
    let left = narrow-parts n.left w.left from.left fit.left seen.left rest.0.left in
    let right = narrow-parts n.right w.right from.right fit.right seen.right rest.0.right in (
      record { left = left.0; right = right.0 },
      ap (λ (x : Option (ℕ × ℕ)). option_or x (first_wide_from n is)) (narrow-walk n i from (record { left = left.1; right = right.1 })) ∙ rest.1,
    )

tests-all : (xs : List PortRatio) → All (λ (x : PortRatio). x.ratio ≤ 2 ^ 62) xs → All (λ (x : PortRatio). IsTrue (nat_le x.ratio (2 ^ 62))) xs
tests-all [] h = All-nil (λ (y : PortRatio). IsTrue (nat_le y.ratio (2 ^ 62)))
tests-all (x ∷ xs) h =
    All-cons (λ (y : PortRatio). IsTrue (nat_le y.ratio (2 ^ 62))) x xs (le-leb x.ratio (2 ^ 62) (All-head (λ (y : PortRatio). y.ratio ≤ 2 ^ 62) x xs h))
    (tests-all xs (All-tail (λ (y : PortRatio). y.ratio ≤ 2 ^ 62) x xs h))

none_wide : (n : Network) (plan : PlanOf) → HasWholeWalk n → Fits n plan → wide_of n ≡ None
none_wide n plan whole fits =
    let each = whole (λ (p : ℕ). nat_le p (2 ^ 62)) (tests-all (walk n) fits.numbers) in
    let silent : NetworkNumbers = record { left = zeros n.left; right = zeros n.right } in
    let single = narrow-sources n (source_numbers n) silent (record { left = zeros-fitted n.left; right = zeros-fitted n.right })
    (record { left = narrow-each (port_numbers n).left each.0; right = narrow-each (port_numbers n).right each.1 }) in
    ap (λ (x : Option (ℕ × ℕ)). option_or x (first_wide (walk n))) single.1 ∙ narrow-all (walk n) fits.numbers

-- so none is named
pub never_wide : (n : Network) (plan : PlanOf) (element need : ℕ) → HasWholeWalk n → Fits n plan → wide_of n ≡ Some (element, need) → ⊥
never_wide n plan element need whole fits found = let none : wide_of n ≡ None = none_wide n plan whole fits in cc
