-- The operations of a network are those of its junctions, up and down again.
use Rattle.std.proofs.Common.{◌≡◌, ℕ, ◌+◌, ◌<◌, Bool, true, if◌then◌else◌, List, [], ◌∷◌, ◌++◌, length, map, refl, ap, sym, ◌∙◌, subst}
use Rattle.std.specs.Prelude.{reverse}
use mathlib.Core.Logic.{inl, inr}
use Rattle.std.proofs.lemmas.List.{append_assoc, map-append, reverse-append}
use Rattle.wdf_law.specs.Trees.{AdaptorTree, leaf, elements_of}
use Rattle.wdf_law.specs.Trees as trees
use Rattle.wdf_law.specs.Network.{has_element, has_leaf}
use Rattle.wdf_law.specs.TreeRules.{AreDisjoint, HasDistinctLeaves}
use Rattle.wdf_sched.specs.declared.op.Op.{Op}
use Rattle.wdf_sched.specs.declared.op.Op.TheVariants.{Root}
use Rattle.wdf_sched.specs.Junctions.{Junction, series, parallel, up_op, down_op, Branch, branch, first_part, second_part, own_branch, IsTaken, Join, IsJoined}
use Rattle.wdf_sched.specs.Compiled.{rise, up_slot, up_ops, fall, down_ops, leaf_slot, root_slot, all_ops, down_slot}
use Rattle.wdf_sched.specs.Meaning.{slot_at}
use Rattle.wdf_sched.proofs.LeafLemmas.{own_leaf, in_first, in_second}

-- the junctions of a tree, each behind its parts
abbrev pub junctions_of : AdaptorTree → ℕ → ℕ → ℕ → List Junction
junctions_of (leaf _ _ _) base d next = []
junctions_of (trees.series m l r) base d next =
    junctions_of l base next (next + 2 + fall r) ++ junctions_of r (base + rise l) (next + 1) (next + 2)
    ++ series m (up_slot l base) (up_slot r (base + rise l)) (base + rise l + rise r) d next (next + 1) ∷ []
junctions_of (trees.parallel m l r) base d next =
    junctions_of l base next (next + 2 + fall r) ++ junctions_of r (base + rise l) (next + 1) (next + 2)
    ++ parallel m (up_slot l base) (up_slot r (base + rise l)) (base + rise l + rise r) (base + rise l + rise r + 1) d next (next + 1) ∷ []

-- ---- the two lists

two_maps : (f : Junction → Op) (xs ys : List Junction) (j : Junction) → map f (xs ++ ys ++ j ∷ []) ≡ map f xs ++ map f ys ++ f j ∷ []
two_maps f xs ys j = map-append f (xs ++ ys) (j ∷ []) ∙ ap (λ (zs : List Op). zs ++ f j ∷ []) (map-append f xs ys)

reversed_maps : (f : Junction → Op) (xs ys : List Junction) (j : Junction)
    → reverse (map f (xs ++ ys ++ j ∷ [])) ≡ f j ∷ (reverse (map f ys) ++ reverse (map f xs))
reversed_maps f xs ys j =
    ap reverse (two_maps f xs ys j)
    ∙ (reverse-append (map f xs ++ map f ys) (f j ∷ []) ∙ ap (λ (zs : List Op). f j ∷ zs) (reverse-append (map f xs) (map f ys)))

ups-are : (t : AdaptorTree) (base d next : ℕ) → map up_op (junctions_of t base d next) ≡ up_ops t base
ups-are (leaf i k flip) base d next = refl
ups-are (trees.series m l r) base d next =
    let left = ups-are l base next (next + 2 + fall r) in
    let right = ups-are r (base + rise l) (next + 1) (next + 2) in
    two_maps up_op (junctions_of l base next (next + 2 + fall r)) (junctions_of r (base + rise l) (next + 1) (next + 2))
    (series m (up_slot l base) (up_slot r (base + rise l)) (base + rise l + rise r) d next (next + 1))
    ∙ (λ i. left i ++ right i ++ up_op (series m (up_slot l base) (up_slot r (base + rise l)) (base + rise l + rise r) d next (next + 1)) ∷ [])
ups-are (trees.parallel m l r) base d next =
    let left = ups-are l base next (next + 2 + fall r) in
    let right = ups-are r (base + rise l) (next + 1) (next + 2) in
    let own = parallel m (up_slot l base) (up_slot r (base + rise l)) (base + rise l + rise r) (base + rise l + rise r + 1) d next (next + 1) in
    two_maps up_op (junctions_of l base next (next + 2 + fall r)) (junctions_of r (base + rise l) (next + 1) (next + 2)) own
    ∙ (λ i. left i ++ right i ++ up_op own ∷ [])

downs-are : (t : AdaptorTree) (base d next : ℕ) → reverse (map down_op (junctions_of t base d next)) ≡ down_ops t base d next
downs-are (leaf i k flip) base d next = refl
downs-are (trees.series m l r) base d next =
    let left = downs-are l base next (next + 2 + fall r) in
    let right = downs-are r (base + rise l) (next + 1) (next + 2) in
    let own = series m (up_slot l base) (up_slot r (base + rise l)) (base + rise l + rise r) d next (next + 1) in
    reversed_maps down_op (junctions_of l base next (next + 2 + fall r)) (junctions_of r (base + rise l) (next + 1) (next + 2)) own
    ∙ (λ i. down_op own ∷ (right i ++ left i))
downs-are (trees.parallel m l r) base d next =
    let left = downs-are l base next (next + 2 + fall r) in
    let right = downs-are r (base + rise l) (next + 1) (next + 2) in
    let own = parallel m (up_slot l base) (up_slot r (base + rise l)) (base + rise l + rise r) (base + rise l + rise r + 1) d next (next + 1) in
    reversed_maps down_op (junctions_of l base next (next + 2 + fall r)) (junctions_of r (base + rise l) (next + 1) (next + 2)) own
    ∙ (λ i. down_op own ∷ (right i ++ left i))

-- ---- the stack

-- a tree that was walked stands on the stack, if it is no element
abbrev pub pushed : AdaptorTree → ℕ → ℕ → List Branch → List Branch
pushed (leaf _ _ _) base d stack = stack
pushed (trees.series m l r) base d stack = branch (up_slot (trees.series m l r) base) d ∷ stack
pushed (trees.parallel m l r) base d stack = branch (up_slot (trees.parallel m l r) base) d ∷ stack

-- the list of down slots has those of a tree's leaves
abbrev pub HasDownSlots : List ℕ → AdaptorTree → ℕ → ℕ → Type 0
HasDownSlots slots t d next = (i : ℕ) → has_leaf t i ≡ true → (i < length slots) × (leaf_slot t d next i ≡ slot_at slots i)

-- and so those of its parts
of_first : (slots : List ℕ) (l r : AdaptorTree) (x y n1 n2 : ℕ)
    → ((i : ℕ) → has_element (elements_of l ++ elements_of r) i ≡ true
    → (i < length slots) × ((if has_leaf l i then leaf_slot l x n1 i else leaf_slot r y n2 i) ≡ slot_at slots i))
    → HasDownSlots slots l x n1
of_first slots l r x y n1 n2 h i some =
    let whole = h i (in_first l r i some) in
    (whole.0, sym (ap (λ (b : Bool). if b then leaf_slot l x n1 i else leaf_slot r y n2 i) some) ∙ whole.1)

of_second : (slots : List ℕ) (l r : AdaptorTree) (x y n1 n2 : ℕ) → AreDisjoint l r
    → ((i : ℕ) → has_element (elements_of l ++ elements_of r) i ≡ true
    → (i < length slots) × ((if has_leaf l i then leaf_slot l x n1 i else leaf_slot r y n2 i) ≡ slot_at slots i))
    → HasDownSlots slots r y n2
of_second slots l r x y n1 n2 apart h i some =
    let whole = h i (in_second l r i some) in
    (whole.0, sym (ap (λ (b : Bool). if b then leaf_slot l x n1 i else leaf_slot r y n2 i) (apart i some)) ∙ whole.1)

taken : (slots : List ℕ) (t : AdaptorTree) (base d next : ℕ) (stack : List Branch) → HasDownSlots slots t d next
    → IsTaken slots (branch (up_slot t base) d) (pushed t base d stack) stack
taken slots (leaf j k flip) base d next stack h =
    let own = h j (own_leaf j) in
    inl (own.0, own.1, refl)
taken slots (trees.series m l r) base d next stack h = inr refl
taken slots (trees.parallel m l r) base d next stack h = inr refl

join_more : (slots : List ℕ) (xs ys : List Junction) (s m e : List Branch) → Join slots s xs m → Join slots m ys e → Join slots s (xs ++ ys) e
join_more slots [] ys s m e h k = subst (λ (z : List Branch). Join slots z ys e) (sym h) k
join_more slots (x ∷ xs) ys s m e h k = (h.0, h.1, h.2, h.3, join_more slots xs ys (own_branch x ∷ h.1) m e h.4 k)

-- a junction behind its parts
join_own : (slots : List ℕ) (l r : AdaptorTree) (base next : ℕ) (stack : List Branch) (left right : List Junction) (own : Junction)
    → HasDownSlots slots l next (next + 2 + fall r) → HasDownSlots slots r (next + 1) (next + 2)
    → first_part own ≡ branch (up_slot l base) next → second_part own ≡ branch (up_slot r (base + rise l)) (next + 1)
    → Join slots stack left (pushed l base next stack)
    → Join slots (pushed l base next stack) right (pushed r (base + rise l) (next + 1) (pushed l base next stack))
    → Join slots stack (left ++ right ++ own ∷ []) (own_branch own ∷ stack)
join_own slots l r base next stack left right own hl hr first second jl jr =
    let s1 = pushed l base next stack in
    let s2 = pushed r (base + rise l) (next + 1) s1 in
    join_more slots (left ++ right) (own ∷ []) stack s2 (own_branch own ∷ stack)
    (join_more slots left right stack s1 s2 jl jr) (
      s1,
      stack,
      subst (λ (p : Branch). IsTaken slots p s2 s1) (sym second) (taken slots r (base + rise l) (next + 1) (next + 2) s1 hr),
      subst (λ (p : Branch). IsTaken slots p s1 stack) (sym first) (taken slots l base next (next + 2 + fall r) stack hl),
      refl,
    )

tree-joins : (slots : List ℕ) (t : AdaptorTree) (base d next : ℕ) (stack : List Branch) → HasDistinctLeaves t → HasDownSlots slots t d next
    → Join slots stack (junctions_of t base d next) (pushed t base d stack)
tree-joins slots (leaf i k flip) base d next stack apart h = refl
tree-joins slots (trees.series m l r) base d next stack apart h =
    let hl = of_first slots l r next (next + 1) (next + 2 + fall r) (next + 2) h in
    let hr = of_second slots l r next (next + 1) (next + 2 + fall r) (next + 2) apart.0 h in
    join_own slots l r base next stack (junctions_of l base next (next + 2 + fall r)) (junctions_of r (base + rise l) (next + 1) (next + 2))
    (series m (up_slot l base) (up_slot r (base + rise l)) (base + rise l + rise r) d next (next + 1)) hl hr refl refl
    (tree-joins slots l base next (next + 2 + fall r) stack apart.1 hl)
    (tree-joins slots r (base + rise l) (next + 1) (next + 2) (pushed l base next stack) apart.2 hr)
tree-joins slots (trees.parallel m l r) base d next stack apart h =
    let hl = of_first slots l r next (next + 1) (next + 2 + fall r) (next + 2) h in
    let hr = of_second slots l r next (next + 1) (next + 2 + fall r) (next + 2) apart.0 h in
    join_own slots l r base next stack (junctions_of l base next (next + 2 + fall r)) (junctions_of r (base + rise l) (next + 1) (next + 2))
    (parallel m (up_slot l base) (up_slot r (base + rise l)) (base + rise l + rise r) (base + rise l + rise r + 1) d next (next + 1)) hl hr refl refl
    (tree-joins slots l base next (next + 2 + fall r) stack apart.1 hl)
    (tree-joins slots r (base + rise l) (next + 1) (next + 2) (pushed l base next stack) apart.2 hr)

-- ---- the whole list

pub all-joined : (slots : List ℕ) (m : ℕ) (l r : AdaptorTree) (count : ℕ) → AreDisjoint l r → HasDistinctLeaves l → HasDistinctLeaves r
    → ((i : ℕ) → has_element (elements_of l ++ elements_of r) i ≡ true → (i < length slots) × (down_slot l r count i ≡ slot_at slots i))
    → IsJoined (all_ops m l r count) slots
all-joined slots m l r count apart left right h =
    let root = root_slot l r count in
    let jl = junctions_of l count root (root + 2 + fall r) in
    let jr = junctions_of r (count + rise l) (root + 1) (root + 2) in
    let x = up_ops l count ++ up_ops r (count + rise l) in
    let op = Root (up_slot l count) (up_slot r (count + rise l)) m root (root + 1) in
    let dr = down_ops r (count + rise l) (root + 1) (root + 2) in
    let dl = down_ops l count root (root + 2 + fall r) in
    let up : map up_op (jl ++ jr) ≡ x =
    map-append up_op jl jr ∙ (λ i. ups-are l count root (root + 2 + fall r) i ++ ups-are r (count + rise l) (root + 1) (root + 2) i) in
    let down : reverse (map down_op (jl ++ jr)) ≡ dr ++ dl =
    ap reverse (map-append down_op jl jr)
    ∙ (reverse-append (map down_op jl) (map down_op jr)
    ∙ (λ i. downs-are r (count + rise l) (root + 1) (root + 2) i ++ downs-are l count root (root + 2 + fall r) i)) in
    let s1 = pushed l count root [] in
    let s2 = pushed r (count + rise l) (root + 1) s1 in
    let hl = of_first slots l r root (root + 1) (root + 2 + fall r) (root + 2) h in
    let hr = of_second slots l r root (root + 1) (root + 2 + fall r) (root + 2) apart h in
    record {
      junctions = jl ++ jr;
      m = m;
      left = branch (up_slot l count) root;
      right = branch (up_slot r (count + rise l)) (root + 1);
      list = append_assoc (x ++ op ∷ []) dr dl ∙ (append_assoc x (op ∷ []) (dr ++ dl) ∙ (λ i. sym up i ++ op ∷ sym down i));
      stack = s2;
      middle = s1;
      join = join_more slots jl jr [] s1 s2
          (tree-joins slots l count root (root + 2 + fall r) [] left hl) (tree-joins slots r (count + rise l) (root + 1) (root + 2) s1 right hr);
      takes_right = taken slots r (count + rise l) (root + 1) (root + 2) s1 hr;
      takes_left = taken slots l count root (root + 2 + fall r) [] hl;
    }
