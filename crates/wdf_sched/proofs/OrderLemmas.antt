-- The operations of a network are in order, and their slots are few.
use Rattle.std.proofs.Common.{◌≡◌, ℕ, ◌+◌, ◌*◌, ◌<◌, ◌≤◌, Bool, true, false, if◌then◌else◌, [], ◌∷◌, ◌++◌, length, refl, subst, arith, length-append}
use Rattle.wdf_law.specs.Trees.{AdaptorTree, leaf, series, parallel, elements_of}
use Rattle.wdf_law.specs.Network.{has_leaf}
use Rattle.wdf_sched.specs.declared.op.Op.TheVariants.{UpSeries, UpParallel, Root}
use Rattle.wdf_sched.specs.Operations.{InOrder}
use Rattle.wdf_sched.specs.Compiled.{IsBelow, rise, up_slot, up_ops, fall, down_ops, leaf_slot, root_slot, all_ops, all_slots, down_slot}
use Rattle.wdf_sched.proofs.ListLemmas.{in_order}

-- the slot of the wave that a tree reflects is below those that are written after its way up
pub up_slot-below : (t : AdaptorTree) (count next : ℕ) → IsBelow count t → count ≤ next → up_slot t next < next + rise t
up_slot-below (leaf i k flip) count next below h = omega (arith, below)
up_slot-below (series m l r) count next below h = omega arith
up_slot-below (parallel m l r) count next below h = omega arith

pub up-order : (t : AdaptorTree) (count next : ℕ) → IsBelow count t → count ≤ next → InOrder next (up_ops t next) (next + rise t)
up-order (leaf i k flip) count next below h = let e : next ≡ next + 0 = omega arith in e
up-order (series m l r) count next below h =
    let first = up_slot-below l count next below.0 h in
    let second = up_slot-below r count (next + rise l) below.1 (omega arith) in
    let end : next + rise l + rise r + 1 ≡ next + (rise l + rise r + 1) = omega arith in
    in_order (up_ops l next ++ up_ops r (next + rise l)) (UpSeries (up_slot l next) (up_slot r (next + rise l)) (next + rise l + rise r) ∷ [])
    next (next + rise l + rise r) (next + (rise l + rise r + 1))
    (in_order (up_ops l next) (up_ops r (next + rise l)) next (next + rise l) (next + rise l + rise r)
    (up-order l count next below.0 h) (up-order r count (next + rise l) below.1 (omega arith)))
    ((omega arith, omega arith), refl, end)
up-order (parallel m l r) count next below h =
    let first = up_slot-below l count next below.0 h in
    let second = up_slot-below r count (next + rise l) below.1 (omega arith) in
    let end : next + rise l + rise r + 2 ≡ next + (rise l + rise r + 2) = omega arith in
    in_order (up_ops l next ++ up_ops r (next + rise l))
    (UpParallel (up_slot l next) (up_slot r (next + rise l)) m (next + rise l + rise r) (next + rise l + rise r + 1) ∷ [])
    next (next + rise l + rise r) (next + (rise l + rise r + 2))
    (in_order (up_ops l next) (up_ops r (next + rise l)) next (next + rise l) (next + rise l + rise r)
    (up-order l count next below.0 h) (up-order r count (next + rise l) below.1 (omega arith)))
    ((omega arith, omega arith), (refl, refl), end)

pub down-order : (t : AdaptorTree) (count base d next : ℕ) → IsBelow count t → count ≤ base → base + rise t ≤ next → d < next
    → InOrder next (down_ops t base d next) (next + fall t)
down-order (leaf i k flip) count base d next below h room sent = let e : next ≡ next + 0 = omega arith in e
down-order (series m l r) count base d next below h room sent =
    let first = up_slot-below l count base below.0 h in
    let second = up_slot-below r count (base + rise l) below.1 (omega arith) in
    let end : next + 2 + fall r + fall l ≡ next + (fall l + fall r + 2) = omega arith in (
      (omega arith, omega arith, sent),
      (refl, refl),
      subst (InOrder (next + 2) (down_ops r (base + rise l) (next + 1) (next + 2) ++ down_ops l base next (next + 2 + fall r))) end
          (in_order (down_ops r (base + rise l) (next + 1) (next + 2)) (down_ops l base next (next + 2 + fall r)) (next + 2) (next + 2 + fall r) (next + 2 + fall r + fall l)
          (down-order r count (base + rise l) (next + 1) (next + 2) below.1 (omega arith) (omega arith) (omega arith))
          (down-order l count base next (next + 2 + fall r) below.0 h (omega arith) (omega arith))),
    )
down-order (parallel m l r) count base d next below h room sent =
    let first = up_slot-below l count base below.0 h in
    let second = up_slot-below r count (base + rise l) below.1 (omega arith) in
    let end : next + 2 + fall r + fall l ≡ next + (fall l + fall r + 2) = omega arith in (
      (omega arith, omega arith, sent, omega arith),
      (refl, refl),
      subst (InOrder (next + 2) (down_ops r (base + rise l) (next + 1) (next + 2) ++ down_ops l base next (next + 2 + fall r))) end
          (in_order (down_ops r (base + rise l) (next + 1) (next + 2)) (down_ops l base next (next + 2 + fall r)) (next + 2) (next + 2 + fall r) (next + 2 + fall r + fall l)
          (down-order r count (base + rise l) (next + 1) (next + 2) below.1 (omega arith) (omega arith) (omega arith))
          (down-order l count base next (next + 2 + fall r) below.0 h (omega arith) (omega arith))),
    )

-- the whole list
pub all-order : (m : ℕ) (l r : AdaptorTree) (count : ℕ) → IsBelow count l → IsBelow count r → InOrder count (all_ops m l r count) (all_slots l r count)
all-order m l r count left right =
    let first = up_slot-below l count count left (omega arith) in
    let second = up_slot-below r count (count + rise l) right (omega arith) in
    let root = root_slot l r count in
    let ups = up_ops l count ++ up_ops r (count + rise l) in
    let own = Root (up_slot l count) (up_slot r (count + rise l)) m root (root + 1) ∷ [] in
    let end : root + 2 ≡ root + 2 = refl in
    in_order (ups ++ own ++ down_ops r (count + rise l) (root + 1) (root + 2)) (down_ops l count root (root + 2 + fall r)) count (root + 2 + fall r) (root + 2 + fall r + fall l)
    (in_order (ups ++ own) (down_ops r (count + rise l) (root + 1) (root + 2)) count (root + 2) (root + 2 + fall r)
    (in_order ups own count root (root + 2)
    (in_order (up_ops l count) (up_ops r (count + rise l)) count (count + rise l) (count + rise l + rise r)
    (up-order l count count left (omega arith)) (up-order r count (count + rise l) right (omega arith)))
    ((omega arith, omega arith), (refl, refl), end))
    (down-order r count (count + rise l) (root + 1) (root + 2) right (omega arith) (omega arith) (omega arith)))
    (down-order l count count root (root + 2 + fall r) left (omega arith) (omega arith) (omega arith))

-- ---- down slots

leaf_slot-below : (t : AdaptorTree) (d next i : ℕ) → d < next → leaf_slot t d next i < next + fall t
leaf_slot-below (leaf j k flip) d next i h = omega arith
leaf_slot-below (series m l r) d next i h =
    either (has_leaf l i) _ _ _ (let first = leaf_slot-below l next (next + 2 + fall r) i (omega arith) in omega arith)
    (let second = leaf_slot-below r (next + 1) (next + 2) i (omega arith) in omega arith)
  where
    either : (b : Bool) (x y limit : ℕ) → x < limit → y < limit → (if b then x else y) < limit
    either true x y limit h k = h
    either false x y limit h k = k
leaf_slot-below (parallel m l r) d next i h =
    either (has_leaf l i) _ _ _ (let first = leaf_slot-below l next (next + 2 + fall r) i (omega arith) in omega arith)
    (let second = leaf_slot-below r (next + 1) (next + 2) i (omega arith) in omega arith)
  where
    either : (b : Bool) (x y limit : ℕ) → x < limit → y < limit → (if b then x else y) < limit
    either true x y limit h k = h
    either false x y limit h k = k

pub down_slot-below : (l r : AdaptorTree) (count i : ℕ) → down_slot l r count i < all_slots l r count
down_slot-below l r count i =
    let root = root_slot l r count in
    either (has_leaf l i) (leaf_slot l root (root + 2 + fall r) i) (leaf_slot r (root + 1) (root + 2) i) (all_slots l r count)
    (leaf_slot-below l root (root + 2 + fall r) i (omega arith))
    (let second = leaf_slot-below r (root + 1) (root + 2) i (omega arith) in omega arith)
  where
    either : (b : Bool) (x y limit : ℕ) → x < limit → y < limit → (if b then x else y) < limit
    either true x y limit h k = h
    either false x y limit h k = k

-- ---- how many slots

-- at most two a leaf
rise-few : (t : AdaptorTree) → rise t + 2 ≤ 2 * length (elements_of t)
rise-few (leaf i k flip) = omega arith
rise-few (series m l r) = omega (arith, rise-few l, rise-few r, length-append (elements_of l) (elements_of r))
rise-few (parallel m l r) = omega (arith, rise-few l, rise-few r, length-append (elements_of l) (elements_of r))

fall-few : (t : AdaptorTree) → fall t + 2 ≤ 2 * length (elements_of t)
fall-few (leaf i k flip) = omega arith
fall-few (series m l r) = omega (arith, fall-few l, fall-few r, length-append (elements_of l) (elements_of r))
fall-few (parallel m l r) = omega (arith, fall-few l, fall-few r, length-append (elements_of l) (elements_of r))

pub slots-few : (l r : AdaptorTree) (count : ℕ) → count ≡ length (elements_of l ++ elements_of r) → count ≤ 128 → all_slots l r count ≤ 1024
slots-few l r count same few =
    omega (arith, rise-few l, rise-few r, fall-few l, fall-few r, length-append (elements_of l) (elements_of r))
