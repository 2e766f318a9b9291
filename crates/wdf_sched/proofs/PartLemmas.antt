-- Each element and each junction of a network is a part of one junction or of the root.
use Rattle.std.proofs.Common.{◌≡◌, ℕ, ◌+◌, ◌==◌, if◌then◌else◌, List, [], ◌∷◌, ◌++◌, map, refl, ap, ◌∙◌, arith}
use Rattle.std.proofs.lemmas.List.{map-append}
use Rattle.wdf_law.specs.Trees.{AdaptorTree, leaf, series, parallel, LeafElement, elements_of}
use Rattle.wdf_law.specs.Network.{numbers_of, times_in}
use Rattle.wdf_sched.specs.declared.op.Op.{Op}
use Rattle.wdf_sched.specs.declared.op.Op.TheVariants.{UpSeries, UpParallel, Root, DownSeries, DownParallel}
use Rattle.wdf_sched.specs.Operations.{part_slots, own_slots}
use Rattle.wdf_sched.specs.Compiled.{rise, up_slot, up_ops, fall, down_ops, root_slot, all_ops}

-- how often a number is among the parts of some operations, and among their own slots
abbrev parts : List Op → ℕ → ℕ
parts ops i = times_in (part_slots ops) i

abbrev owns : List Op → ℕ → ℕ
owns ops i = times_in (own_slots ops) i

abbrev once : ℕ → ℕ → ℕ
once j i = if j == i then 1 else 0

times-append : (xs ys : List ℕ) (i : ℕ) → times_in (xs ++ ys) i ≡ times_in xs i + times_in ys i
times-append [] ys i = omega arith
times-append (x ∷ xs) ys i = omega (arith, times-append xs ys i)

parts-append : (xs ys : List Op) (i : ℕ) → parts (xs ++ ys) i ≡ parts xs i + parts ys i
parts-append [] ys i = omega arith
parts-append (UpSeries a b out ∷ xs) ys i = omega (arith, parts-append xs ys i)
parts-append (UpParallel a b m raw out ∷ xs) ys i = omega (arith, parts-append xs ys i)
parts-append (Root a b m x y ∷ xs) ys i = omega (arith, parts-append xs ys i)
parts-append (DownSeries a b d m x y ∷ xs) ys i = parts-append xs ys i
parts-append (DownParallel a b d raw x y ∷ xs) ys i = parts-append xs ys i

owns-append : (xs ys : List Op) (i : ℕ) → owns (xs ++ ys) i ≡ owns xs i + owns ys i
owns-append [] ys i = omega arith
owns-append (UpSeries a b out ∷ xs) ys i = omega (arith, owns-append xs ys i)
owns-append (UpParallel a b m raw out ∷ xs) ys i = omega (arith, owns-append xs ys i)
owns-append (Root a b m x y ∷ xs) ys i = owns-append xs ys i
owns-append (DownSeries a b d m x y ∷ xs) ys i = owns-append xs ys i
owns-append (DownParallel a b d raw x y ∷ xs) ys i = owns-append xs ys i

numbers-both : (l r : AdaptorTree) (i : ℕ)
    → times_in (map (λ (x : LeafElement). x.number) (elements_of l ++ elements_of r)) i ≡ times_in (numbers_of l) i + times_in (numbers_of r) i
numbers-both l r i =
    ap (λ (ks : List ℕ). times_in ks i) (map-append (λ (x : LeafElement). x.number) (elements_of l) (elements_of r))
    ∙ times-append (numbers_of l) (numbers_of r) i

-- up a tree: what is no part yet is the tree itself
tree-parts : (t : AdaptorTree) (next i : ℕ) → parts (up_ops t next) i + once (up_slot t next) i ≡ times_in (numbers_of t) i + owns (up_ops t next) i
tree-parts (leaf j _ _) next i = omega arith
tree-parts (series m l r) next i =
    let ls = up_ops l next in
    let rs = up_ops r (next + rise l) in
    let own = UpSeries (up_slot l next) (up_slot r (next + rise l)) (next + rise l + rise r) ∷ [] in
    omega (
      arith,
      tree-parts l next i,
      tree-parts r (next + rise l) i,
      numbers-both l r i,
      parts-append (ls ++ rs) own i,
      parts-append ls rs i,
      owns-append (ls ++ rs) own i,
      owns-append ls rs i,
    )
tree-parts (parallel m l r) next i =
    let ls = up_ops l next in
    let rs = up_ops r (next + rise l) in
    let own = UpParallel (up_slot l next) (up_slot r (next + rise l)) m (next + rise l + rise r) (next + rise l + rise r + 1) ∷ [] in
    omega (
      arith,
      tree-parts l next i,
      tree-parts r (next + rise l) i,
      numbers-both l r i,
      parts-append (ls ++ rs) own i,
      parts-append ls rs i,
      owns-append (ls ++ rs) own i,
      owns-append ls rs i,
    )

-- the way down has none
no-parts : (t : AdaptorTree) (base d next i : ℕ) → parts (down_ops t base d next) i ≡ 0
no-parts (leaf j _ _) base d next i = refl
no-parts (series m l r) base d next i =
    omega (
      arith,
      no-parts l base next (next + 2 + fall r) i,
      no-parts r (base + rise l) (next + 1) (next + 2) i,
      parts-append (down_ops r (base + rise l) (next + 1) (next + 2)) (down_ops l base next (next + 2 + fall r)) i,
    )
no-parts (parallel m l r) base d next i =
    omega (
      arith,
      no-parts l base next (next + 2 + fall r) i,
      no-parts r (base + rise l) (next + 1) (next + 2) i,
      parts-append (down_ops r (base + rise l) (next + 1) (next + 2)) (down_ops l base next (next + 2 + fall r)) i,
    )

no-owns : (t : AdaptorTree) (base d next i : ℕ) → owns (down_ops t base d next) i ≡ 0
no-owns (leaf j _ _) base d next i = refl
no-owns (series m l r) base d next i =
    omega (
      arith,
      no-owns l base next (next + 2 + fall r) i,
      no-owns r (base + rise l) (next + 1) (next + 2) i,
      owns-append (down_ops r (base + rise l) (next + 1) (next + 2)) (down_ops l base next (next + 2 + fall r)) i,
    )
no-owns (parallel m l r) base d next i =
    omega (
      arith,
      no-owns l base next (next + 2 + fall r) i,
      no-owns r (base + rise l) (next + 1) (next + 2) i,
      owns-append (down_ops r (base + rise l) (next + 1) (next + 2)) (down_ops l base next (next + 2 + fall r)) i,
    )

pub all-parts : (m : ℕ) (l r : AdaptorTree) (count i : ℕ)
    → parts (all_ops m l r count) i ≡ times_in (map (λ (x : LeafElement). x.number) (elements_of l ++ elements_of r)) i + owns (all_ops m l r count) i
all-parts m l r count i =
    let root = root_slot l r count in
    let ls = up_ops l count in
    let rs = up_ops r (count + rise l) in
    let op = Root (up_slot l count) (up_slot r (count + rise l)) m root (root + 1) ∷ [] in
    let dr = down_ops r (count + rise l) (root + 1) (root + 2) in
    let dl = down_ops l count root (root + 2 + fall r) in
    omega (
      arith,
      tree-parts l count i,
      tree-parts r (count + rise l) i,
      numbers-both l r i,
      parts-append (ls ++ rs ++ op ++ dr) dl i,
      parts-append (ls ++ rs ++ op) dr i,
      parts-append (ls ++ rs) op i,
      parts-append ls rs i,
      owns-append (ls ++ rs ++ op ++ dr) dl i,
      owns-append (ls ++ rs ++ op) dr i,
      owns-append (ls ++ rs) op i,
      owns-append ls rs i,
      no-parts r (count + rise l) (root + 1) (root + 2) i,
      no-parts l count root (root + 2 + fall r) i,
      no-owns r (count + rise l) (root + 1) (root + 2) i,
      no-owns l count root (root + 2 + fall r) i,
    )
