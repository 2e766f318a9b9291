-- A walk in the order in which the program visits it: from the source up to the tree's own port, then what lies beyond
-- it, then what lies beside the way, from the own port back to the source.
use Rattle.std.proofs.Common.{◌≡◌, ℕ, ◌-◌, Bool, true, false, if◌then◌else◌, List, [], ◌∷◌, ◌++◌, refl, ap, sym, ◌∙◌, arith, append_assoc}
use Rattle.std.proofs.lemmas.List.{append-nil}
use Rattle.std.proofs.lemmas.Bool.Decides.{nat_tests}
use Rattle.wdf_law.specs.Trees.{AdaptorTree, leaf, series, parallel, first_of}
use Rattle.wdf_law.specs.Network.{has_leaf}
use Rattle.wdf_quant.specs.declared.port_ratio.PortRatio.{PortRatio}
use Rattle.wdf_quant.specs.declared.ratio_tree.RatioTree.{RatioTree, Leaf, Series', Parallel'}
use Rattle.wdf_quant.specs.PortBound.{PortNumbers, end, fork, NetworkNumbers, carried, beneath, reached, around, ratios_between, zeros, summed, listed, outwards, walk_between}
use Rattle.wdf_quant.specs.RatioTrees.{tree_of, sums_in, chained, beside}
use Rattle.wdf_quant.proofs.Listings.{first_wide_append}

-- ---- numbers in the shape of a tree

abbrev pub IsFitted : AdaptorTree → PortNumbers → Type 0
IsFitted (leaf i k flip) (end p) = Unit {0}
IsFitted (leaf i k flip) (fork p wl wr) = ⊥
IsFitted (series m l r) (end p) = ⊥
IsFitted (series m l r) (fork p wl wr) = IsFitted l wl × IsFitted r wr
IsFitted (parallel m l r) (end p) = ⊥
IsFitted (parallel m l r) (fork p wl wr) = IsFitted l wl × IsFitted r wr

pub beneath-fitted : (q : ℕ) (t : AdaptorTree) (p : ℕ) → IsFitted t (beneath q t p)
beneath-fitted q (leaf i k flip) p = tt
beneath-fitted q (series m l r) p = (beneath-fitted q l (carried p m q), beneath-fitted q r (carried p (q - m) q))
beneath-fitted q (parallel m l r) p = (beneath-fitted q l (carried p q m), beneath-fitted q r (carried p q (q - m)))

either : (b : Bool) (t : AdaptorTree) (w v : PortNumbers) → IsFitted t w → IsFitted t v → IsFitted t (if b then w else v)
either true t w v first second = first
either false t w v first second = second

pub around-fitted : (q i : ℕ) (t : AdaptorTree) → IsFitted t (around q i t)
around-fitted q i (leaf j k flip) = tt
around-fitted q i (series m l r) =
    let p = reached q i (series m l r) in (
      either (has_leaf l i) l (around q i l) (beneath q l (carried p m q)) (around-fitted q i l) (beneath-fitted q l (carried p m q)),
      either (has_leaf l i) r (beneath q r (carried p (q - m) q)) (around q i r) (beneath-fitted q r (carried p (q - m) q)) (around-fitted q i r),
    )
around-fitted q i (parallel m l r) =
    let p = reached q i (parallel m l r) in (
      either (has_leaf l i) l (around q i l) (beneath q l (carried p q m)) (around-fitted q i l) (beneath-fitted q l (carried p q m)),
      either (has_leaf l i) r (beneath q r (carried p q (q - m))) (around q i r) (beneath-fitted q r (carried p q (q - m))) (around-fitted q i r),
    )

pub zeros-fitted : (t : AdaptorTree) → IsFitted t (zeros t)
zeros-fitted (leaf i k flip) = tt
zeros-fitted (series m l r) = (zeros-fitted l, zeros-fitted r)
zeros-fitted (parallel m l r) = (zeros-fitted l, zeros-fitted r)

pub summed-fitted : (t : AdaptorTree) (w v : PortNumbers) → IsFitted t w → IsFitted t v → IsFitted t (summed w v)
summed-fitted (leaf i k flip) (end p) v first second = tt
summed-fitted (leaf i k flip) (fork p wl wr) v first second = absurd first
summed-fitted (series m l r) (end p) v first second = absurd first
summed-fitted (series m l r) (fork p wl wr) (end s) first second = absurd second
summed-fitted (series m l r) (fork p wl wr) (fork s vl vr) first second = (summed-fitted l wl vl first.0 second.0, summed-fitted r wr vr first.1 second.1)
summed-fitted (parallel m l r) (end p) v first second = absurd first
summed-fitted (parallel m l r) (fork p wl wr) (end s) first second = absurd second
summed-fitted (parallel m l r) (fork p wl wr) (fork s vl vr) first second = (summed-fitted l wl vl first.0 second.0, summed-fitted r wr vr first.1 second.1)

sums_in-fitted : (t : RatioTree) → IsFitted (tree_of t) (sums_in t)
sums_in-fitted (Leaf _ _ _ port) = tt
sums_in-fitted (Series' m port p l q r) = (sums_in-fitted l, sums_in-fitted r)
sums_in-fitted (Parallel' m port p l q r) = (sums_in-fitted l, sums_in-fitted r)

-- ---- the order

regroup : (first : List PortRatio) (x : PortRatio) (beyond others last : List PortRatio)
    → first ++ (x ∷ beyond ++ others) ++ last ≡ first ++ x ∷ [] ++ beyond ++ (others ++ last)
regroup first x beyond others last = simp append_assoc

split : (b : Bool) (x : PortRatio) (chain_l chain_r beyond all_l all_r beside_l beside_r out_l out_r : List PortRatio)
    → out_l ≡ chain_l ++ (x ∷ beyond ++ all_r) ++ beside_l → out_r ≡ chain_r ++ (x ∷ beyond ++ all_l) ++ beside_r
    → (if b then out_l else out_r)
    ≡ (if b then chain_l else chain_r) ++ x ∷ [] ++ beyond ++ (if b then all_r ++ beside_l else all_l ++ beside_r)
split true x chain_l chain_r beyond all_l all_r beside_l beside_r out_l out_r first second = first ∙ regroup chain_l x beyond all_r beside_l
split false x chain_l chain_r beyond all_l all_r beside_l beside_r out_l out_r first second = second ∙ regroup chain_r x beyond all_l beside_r

pub outwards-split : (i : ℕ) (t : AdaptorTree) (w : PortNumbers) (beyond : List PortRatio) → IsFitted t w
    → outwards i t w beyond ≡ chained i t w ++ beyond ++ beside i t w
outwards-split i (leaf j k flip) (end p) beyond fit = sym (append-nil _)
outwards-split i (leaf j k flip) (fork p wl wr) beyond fit = absurd fit
outwards-split i (series m l r) (end p) beyond fit = absurd fit
outwards-split i (series m l r) (fork p wl wr) beyond fit =
    let x : PortRatio = record { elem = first_of l; leaf = false; ratio = p } in
    split (has_leaf l i) x (chained i l wl) (chained i r wr) beyond (listed l wl) (listed r wr) (beside i l wl) (beside i r wr) _ _
    (outwards-split i l wl (x ∷ beyond ++ listed r wr) fit.0) (outwards-split i r wr (x ∷ beyond ++ listed l wl) fit.1)
outwards-split i (parallel m l r) (end p) beyond fit = absurd fit
outwards-split i (parallel m l r) (fork p wl wr) beyond fit =
    let x : PortRatio = record { elem = first_of l; leaf = false; ratio = p } in
    split (has_leaf l i) x (chained i l wl) (chained i r wr) beyond (listed l wl) (listed r wr) (beside i l wl) (beside i r wr) _ _
    (outwards-split i l wl (x ∷ beyond ++ listed r wr) fit.0) (outwards-split i r wr (x ∷ beyond ++ listed l wl) fit.1)

-- ---- two trees

-- the ratios of two trees, seen from a source of the left one
pub ratios_left : (q m i : ℕ) (left right : AdaptorTree) → has_leaf left i ≡ true
    → ratios_between q m left right i ≡ record { left = around q i left; right = beneath q right (carried (reached q i left) m (q - m)) }
ratios_left q m i left right e =
    ap (λ (b : Bool). if b
    then (let w : NetworkNumbers = record { left = around q i left; right = beneath q right (carried (reached q i left) m (q - m)) } in w)
    else (let w : NetworkNumbers = record { left = beneath q left (carried (reached q i right) (q - m) m); right = around q i right } in w)) e

-- and of the right one
pub ratios_right : (q m i : ℕ) (left right : AdaptorTree) → has_leaf left i ≡ false
    → ratios_between q m left right i ≡ record { left = beneath q left (carried (reached q i right) (q - m) m); right = around q i right }
ratios_right q m i left right e =
    ap (λ (b : Bool). if b
    then (let w : NetworkNumbers = record { left = around q i left; right = beneath q right (carried (reached q i left) m (q - m)) } in w)
    else (let w : NetworkNumbers = record { left = beneath q left (carried (reached q i right) (q - m) m); right = around q i right } in w)) e

pub walk_left : (i : ℕ) (left right : AdaptorTree) (w v : PortNumbers) → has_leaf left i ≡ true → IsFitted left w
    → walk_between left right i (record { left = w; right = v }) ≡ chained i left w ++ listed right v ++ beside i left w
walk_left i left right w v e fit =
    ap (λ (b : Bool). if b then outwards i left w (listed right v) else outwards i right v (listed left w)) e ∙ outwards-split i left w (listed right v) fit

pub walk_right : (i : ℕ) (left right : AdaptorTree) (w v : PortNumbers) → has_leaf left i ≡ false → IsFitted right v
    → walk_between left right i (record { left = w; right = v }) ≡ chained i right v ++ listed left w ++ beside i right v
walk_right i left right w v e fit =
    ap (λ (b : Bool). if b then outwards i left w (listed right v) else outwards i right v (listed left w)) e ∙ outwards-split i right v (listed left w) fit

-- the walk over the ratios themselves
pub ratio_walk_left : (q m i : ℕ) (left right : AdaptorTree) → has_leaf left i ≡ true
    → walk_between left right i (ratios_between q m left right i)
    ≡ chained i left (around q i left) ++ listed right (beneath q right (carried (reached q i left) m (q - m))) ++ beside i left (around q i left)
ratio_walk_left q m i left right e =
    ap (walk_between left right i) (ratios_left q m i left right e)
    ∙ walk_left i left right (around q i left) (beneath q right (carried (reached q i left) m (q - m))) e (around-fitted q i left)

pub ratio_walk_right : (q m i : ℕ) (left right : AdaptorTree) → has_leaf left i ≡ false
    → walk_between left right i (ratios_between q m left right i)
    ≡ chained i right (around q i right) ++ listed left (beneath q left (carried (reached q i right) (q - m) m)) ++ beside i right (around q i right)
ratio_walk_right q m i left right e =
    ap (walk_between left right i) (ratios_right q m i left right e)
    ∙ walk_right i left right (beneath q left (carried (reached q i right) (q - m) m)) (around q i right) e (around-fitted q i right)

-- and over the sums
pub sum_walk_left : (i : ℕ) (left right : RatioTree) → has_leaf (tree_of left) i ≡ true
    → walk_between (tree_of left) (tree_of right) i (record { left = sums_in left; right = sums_in right })
    ≡ chained i (tree_of left) (sums_in left) ++ listed (tree_of right) (sums_in right) ++ beside i (tree_of left) (sums_in left)
sum_walk_left i left right e = walk_left i (tree_of left) (tree_of right) (sums_in left) (sums_in right) e (sums_in-fitted left)

pub sum_walk_right : (i : ℕ) (left right : RatioTree) → has_leaf (tree_of left) i ≡ false
    → walk_between (tree_of left) (tree_of right) i (record { left = sums_in left; right = sums_in right })
    ≡ chained i (tree_of right) (sums_in right) ++ listed (tree_of left) (sums_in left) ++ beside i (tree_of right) (sums_in right)
sum_walk_right i left right e = walk_right i (tree_of left) (tree_of right) (sums_in left) (sums_in right) e (sums_in-fitted right)

pub ruleset walks = (ratios_left, ratios_right, ratio_walk_left, ratio_walk_right, sum_walk_left, sum_walk_right, first_wide_append, append_assoc, nat_tests)
