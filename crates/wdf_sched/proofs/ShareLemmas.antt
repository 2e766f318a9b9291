-- The operations of a network have its multipliers.
use Rattle.std.proofs.Common.{ℕ, ◌+◌, ◌<◌, ◌≤◌, [], ◌∷◌, ◌++◌}
use Rattle.wdf_law.specs.Trees.{AdaptorTree, leaf, series, parallel}
use Rattle.wdf_law.specs.TreeRules.{IsSound}
use Rattle.wdf_sched.specs.declared.op.Op.TheVariants.{UpSeries, UpParallel, Root}
use Rattle.wdf_sched.specs.Operations.{Each, HasShare}
use Rattle.wdf_sched.specs.Compiled.{rise, up_slot, up_ops, fall, down_ops, root_slot, all_ops}
use Rattle.wdf_sched.proofs.ListLemmas.{both, behind}

up-shares : (q : ℕ) (t : AdaptorTree) (next : ℕ) → IsSound q t → Each (HasShare q) (up_ops t next)
up-shares q (leaf i k flip) next s = tt
up-shares q (series m l r) next s =
    behind (HasShare q) (up_ops l next) (up_ops r (next + rise l)) (UpSeries (up_slot l next) (up_slot r (next + rise l)) (next + rise l + rise r))
    (up-shares q l next s.2) (up-shares q r (next + rise l) s.3) tt
up-shares q (parallel m l r) next s =
    behind (HasShare q) (up_ops l next) (up_ops r (next + rise l))
    (UpParallel (up_slot l next) (up_slot r (next + rise l)) m (next + rise l + rise r) (next + rise l + rise r + 1))
    (up-shares q l next s.2) (up-shares q r (next + rise l) s.3) (s.0, s.1)

down-shares : (q : ℕ) (t : AdaptorTree) (base d next : ℕ) → IsSound q t → Each (HasShare q) (down_ops t base d next)
down-shares q (leaf i k flip) base d next s = tt
down-shares q (series m l r) base d next s = (
  (s.0, s.1),
  both (HasShare q) (down_ops r (base + rise l) (next + 1) (next + 2)) (down_ops l base next (next + 2 + fall r))
      (down-shares q r (base + rise l) (next + 1) (next + 2) s.3) (down-shares q l base next (next + 2 + fall r) s.2),
)
down-shares q (parallel m l r) base d next s = (
  tt,
  both (HasShare q) (down_ops r (base + rise l) (next + 1) (next + 2)) (down_ops l base next (next + 2 + fall r))
      (down-shares q r (base + rise l) (next + 1) (next + 2) s.3) (down-shares q l base next (next + 2 + fall r) s.2),
)

pub all-shares : (q m : ℕ) (l r : AdaptorTree) (count : ℕ) → 1 ≤ m → m < q → IsSound q l → IsSound q r → Each (HasShare q) (all_ops m l r count)
all-shares q m l r count some few left right =
    let root = root_slot l r count in
    let ups = up_ops l count ++ up_ops r (count + rise l) in
    let own = Root (up_slot l count) (up_slot r (count + rise l)) m root (root + 1) ∷ [] in
    both (HasShare q) (ups ++ own ++ down_ops r (count + rise l) (root + 1) (root + 2)) (down_ops l count root (root + 2 + fall r))
    (both (HasShare q) (ups ++ own) (down_ops r (count + rise l) (root + 1) (root + 2))
    (behind (HasShare q) (up_ops l count) (up_ops r (count + rise l)) (Root (up_slot l count) (up_slot r (count + rise l)) m root (root + 1))
    (up-shares q l count left) (up-shares q r (count + rise l) right) (some, few))
    (down-shares q r (count + rise l) (root + 1) (root + 2) right))
    (down-shares q l count root (root + 2 + fall r) left)
