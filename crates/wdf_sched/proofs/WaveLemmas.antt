-- Where the slots hold what the operations of a tree write, they hold the solved waves of the step.
use Rattle.std.proofs.Common.{◌≡◌, ℕ, ◌+◌, ◌-◌, ◌<◌, Bool, true, false, ◌||◌, ◌==◌, if◌then◌else◌, [], ◌∷◌, ◌++◌, refl, ap, sym, ◌∙◌}
use Rattle.std.specs.Prelude.{ℤ, pos, ◌+ℤ◌}
use Rattle.wdf_algebra.specs.JunctionValues.{series_value, series_part, parallel_value, parallel_part, root_value}
use Rattle.wdf_algebra.specs.Truncation.{trunc}
use Rattle.wdf_algebra.proofs.Truncations.{exact-trunc}
use Rattle.wdf_law.specs.Trees.{AdaptorTree, leaf, series, parallel, elements_of}
use Rattle.wdf_law.specs.Network.{has_element, has_leaf}
use Rattle.wdf_law.specs.Step.{sent}
use Rattle.wdf_law.specs.Solved.{ups, waves}
use Rattle.wdf_sched.specs.declared.op.Op.{Op}
use Rattle.wdf_sched.specs.declared.op.Op.TheVariants.{Root}
use Rattle.wdf_sched.specs.Operations.{Slots, Holds, HoldAll, parallel_rest}
use Rattle.wdf_sched.specs.Meaning.{Reflects}
use Rattle.wdf_sched.specs.Compiled.{rise, up_slot, up_ops, fall, down_ops, leaf_slot, root_slot, all_ops, down_slot}
use Rattle.wdf_sched.proofs.ListLemmas.{front, back}
use Rattle.wdf_sched.proofs.LeafLemmas.{leaf_either}

-- ---- up

-- the way up a junction, by its parts
pub record PartsUp (q : ℕ) (v : Slots) (l r : AdaptorTree) (next : ℕ) (op : Op) : Type 0 where
  pub left : HoldAll q v (up_ops l next)
  pub right : HoldAll q v (up_ops r (next + rise l))
  pub own : Holds q v op

pub parts_up : (q : ℕ) (v : Slots) (l r : AdaptorTree) (next : ℕ) (op : Op) → HoldAll q v (up_ops l next ++ up_ops r (next + rise l) ++ op ∷ []) → PartsUp q v l r next op
parts_up q v l r next op h =
    let parts = front (Holds q v) (up_ops l next ++ up_ops r (next + rise l)) (op ∷ []) h in
    record {
      left = front (Holds q v) (up_ops l next) (up_ops r (next + rise l)) parts;
      right = back (Holds q v) (up_ops l next) (up_ops r (next + rise l)) parts;
      own = (back (Holds q v) (up_ops l next ++ up_ops r (next + rise l)) (op ∷ []) h).0;
    }

-- the slot of a tree's up wave holds it
pub up-shown : (q : ℕ) (x e : ℕ → ℤ) (v : Slots) (t : AdaptorTree) (next : ℕ) → 0 < q → HoldAll q v (up_ops t next) → Reflects x e v t
    → v (up_slot t next) ≡ ups q x e t
up-shown q x e v (leaf i k flip) next unit h st = st
up-shown q x e v (series m l r) next unit h st =
    let p = parts_up q v l r next _ h in
    let left = up-shown q x e v l next unit p.left st.0 in
    let right = up-shown q x e v r (next + rise l) unit p.right st.1 in
    p.own ∙ ((λ i. left i +ℤ right i) ∙ sym (exact-trunc (series_value q (ups q x e l) (ups q x e r)) (ups q x e l +ℤ ups q x e r) q unit refl))
up-shown q x e v (parallel m l r) next unit h st =
    let p = parts_up q v l r next _ h in
    let left = up-shown q x e v l next unit p.left st.0 in
    let right = up-shown q x e v r (next + rise l) unit p.right st.1 in
    p.own.1 ∙ ap (λ (z : ℤ). trunc z q) (p.own.0 ∙ (λ i. parallel_value m (q - m) (left i) (right i)))

-- ---- down

-- The two ways at a junction that is sent z, by its parts: the slots of the waves that they reflect and of those that they are sent, z1
-- and z2, hold these.
pub record Parts (q : ℕ) (x e : ℕ → ℤ) (v : Slots) (l r : AdaptorTree) (base next : ℕ) (z1 z2 : ℤ) : Type 0 where
  pub left_up : HoldAll q v (up_ops l base)
  pub right_up : HoldAll q v (up_ops r (base + rise l))
  pub left_down : HoldAll q v (down_ops l base next (next + 2 + fall r))
  pub right_down : HoldAll q v (down_ops r (base + rise l) (next + 1) (next + 2))
  pub left : v (up_slot l base) ≡ ups q x e l
  pub right : v (up_slot r (base + rise l)) ≡ ups q x e r
  pub first : v next ≡ z1
  pub second : v (next + 1) ≡ z2

-- what a series junction sends to its parts, and a parallel one
abbrev pub series_first_down : ℕ → (ℕ → ℤ) → (ℕ → ℤ) → ℕ → AdaptorTree → AdaptorTree → ℤ → ℤ
series_first_down q x e m l r z = trunc (series_part q m (ups q x e l) (ups q x e r) z (ups q x e l)) q

abbrev pub series_second_down : ℕ → (ℕ → ℤ) → (ℕ → ℤ) → ℕ → AdaptorTree → AdaptorTree → ℤ → ℤ
series_second_down q x e m l r z = trunc (series_part q (q - m) (ups q x e l) (ups q x e r) z (ups q x e r)) q

abbrev pub parallel_first_down : ℕ → (ℕ → ℤ) → (ℕ → ℤ) → ℕ → AdaptorTree → AdaptorTree → ℤ → ℤ
parallel_first_down q x e m l r z = trunc (parallel_part q m (q - m) (ups q x e l) (ups q x e r) z (ups q x e l)) q

abbrev pub parallel_second_down : ℕ → (ℕ → ℤ) → (ℕ → ℤ) → ℕ → AdaptorTree → AdaptorTree → ℤ → ℤ
parallel_second_down q x e m l r z = trunc (parallel_part q m (q - m) (ups q x e l) (ups q x e r) z (ups q x e r)) q

pub series_parts : (q : ℕ) (x e : ℕ → ℤ) (v : Slots) (m : ℕ) (l r : AdaptorTree) (base d next : ℕ) (z : ℤ) → 0 < q → HoldAll q v (up_ops (series m l r) base)
    → HoldAll q v (down_ops (series m l r) base d next) → Reflects x e v (series m l r) → v d ≡ z
    → Parts q x e v l r base next (series_first_down q x e m l r z) (series_second_down q x e m l r z)
series_parts q x e v m l r base d next z unit up down st at =
    let p = parts_up q v l r base _ up in
    let left = up-shown q x e v l base unit p.left st.0 in
    let right = up-shown q x e v r (base + rise l) unit p.right st.1 in
    record {
      left_up = p.left;
      right_up = p.right;
      left_down = back (Holds q v) (down_ops r (base + rise l) (next + 1) (next + 2)) (down_ops l base next (next + 2 + fall r)) down.1;
      right_down = front (Holds q v) (down_ops r (base + rise l) (next + 1) (next + 2)) (down_ops l base next (next + 2 + fall r)) down.1;
      left = left;
      right = right;
      first = down.0.0 ∙ (λ i. trunc (series_part q m (left i) (right i) (at i) (left i)) q);
      second = down.0.1 ∙ (λ i. trunc (series_part q (q - m) (left i) (right i) (at i) (right i)) q);
    }

pub parallel_parts : (q : ℕ) (x e : ℕ → ℤ) (v : Slots) (m : ℕ) (l r : AdaptorTree) (base d next : ℕ) (z : ℤ) → 0 < q → HoldAll q v (up_ops (parallel m l r) base)
    → HoldAll q v (down_ops (parallel m l r) base d next) → Reflects x e v (parallel m l r) → v d ≡ z
    → Parts q x e v l r base next (parallel_first_down q x e m l r z) (parallel_second_down q x e m l r z)
parallel_parts q x e v m l r base d next z unit up down st at =
    let p = parts_up q v l r base _ up in
    let left = up-shown q x e v l base unit p.left st.0 in
    let right = up-shown q x e v r (base + rise l) unit p.right st.1 in
    let raw : v (base + rise l + rise r) ≡ parallel_value m (q - m) (ups q x e l) (ups q x e r) = p.own.0 ∙ (λ i. parallel_value m (q - m) (left i) (right i)) in
    record {
      left_up = p.left;
      right_up = p.right;
      left_down = back (Holds q v) (down_ops r (base + rise l) (next + 1) (next + 2)) (down_ops l base next (next + 2 + fall r)) down.1;
      right_down = front (Holds q v) (down_ops r (base + rise l) (next + 1) (next + 2)) (down_ops l base next (next + 2 + fall r)) down.1;
      left = left;
      right = right;
      first = down.0.0 ∙ (λ i. trunc (parallel_rest q (raw i) (at i) (left i)) q);
      second = down.0.1 ∙ (λ i. trunc (parallel_rest q (raw i) (at i) (right i)) q);
    }

-- the slot and the wave of a leaf are those of the part that has it
pub of_part : (v : Slots) (a b : Bool) (s1 s2 : ℕ) (z1 z2 : ℤ) → (a || b) ≡ true → (a ≡ true → v s1 ≡ z1) → (b ≡ true → v s2 ≡ z2)
    → v (if a then s1 else s2) ≡ (if a then z1 else z2)
of_part v true b s1 s2 z1 z2 some first second = first refl
of_part v false b s1 s2 z1 z2 some first second = second some

-- a leaf's down slot holds the wave that it is sent
pub leaf-sent : (q : ℕ) (x e : ℕ → ℤ) (v : Slots) (t : AdaptorTree) (base d next : ℕ) (z : ℤ) (i : ℕ) → 0 < q → HoldAll q v (up_ops t base)
    → HoldAll q v (down_ops t base d next) → Reflects x e v t → v d ≡ z → has_leaf t i ≡ true
    → v (leaf_slot t d next i) ≡ sent t (waves q x e t z) i
leaf-sent q x e v (leaf j k flip) base d next z i unit up down st at some = at ∙ sym (ap (λ (b : Bool). if b then z else pos 0) (only (j == i) some))
  where
    only : (b : Bool) → (b || false) ≡ true → b ≡ true
    only true h = refl
    only false h = h
leaf-sent q x e v (series m l r) base d next z i unit up down st at some =
    let p = series_parts q x e v m l r base d next z unit up down st at in
    of_part v (has_leaf l i) (has_leaf r i) _ _ _ _ (sym (leaf_either l r i) ∙ some)
    (λ h. leaf-sent q x e v l base next (next + 2 + fall r) (series_first_down q x e m l r z) i unit p.left_up p.left_down st.0 p.first h)
    (λ h. leaf-sent q x e v r (base + rise l) (next + 1) (next + 2) (series_second_down q x e m l r z) i unit p.right_up p.right_down st.1 p.second h)
leaf-sent q x e v (parallel m l r) base d next z i unit up down st at some =
    let p = parallel_parts q x e v m l r base d next z unit up down st at in
    of_part v (has_leaf l i) (has_leaf r i) _ _ _ _ (sym (leaf_either l r i) ∙ some)
    (λ h. leaf-sent q x e v l base next (next + 2 + fall r) (parallel_first_down q x e m l r z) i unit p.left_up p.left_down st.0 p.first h)
    (λ h. leaf-sent q x e v r (base + rise l) (next + 1) (next + 2) (parallel_second_down q x e m l r z) i unit p.right_up p.right_down st.1 p.second h)

-- ---- the whole list

-- what the root sends to the tree whose wave is u
abbrev pub root_down : ℕ → (ℕ → ℤ) → (ℕ → ℤ) → ℕ → AdaptorTree → AdaptorTree → ℤ → ℤ
root_down q x e m l r u = trunc (root_value q m (q - m) (ups q x e l) (ups q x e r) u) q

-- two trees joined at the root, by their ways
pub record Halves (q : ℕ) (x e : ℕ → ℤ) (v : Slots) (m : ℕ) (l r : AdaptorTree) (count : ℕ) : Type 0 where
  pub left_up : HoldAll q v (up_ops l count)
  pub right_up : HoldAll q v (up_ops r (count + rise l))
  pub left_down : HoldAll q v (down_ops l count (root_slot l r count) (root_slot l r count + 2 + fall r))
  pub right_down : HoldAll q v (down_ops r (count + rise l) (root_slot l r count + 1) (root_slot l r count + 2))
  pub left : v (up_slot l count) ≡ ups q x e l
  pub right : v (up_slot r (count + rise l)) ≡ ups q x e r
  pub first : v (root_slot l r count) ≡ root_down q x e m l r (ups q x e l)
  pub second : v (root_slot l r count + 1) ≡ root_down q x e m l r (ups q x e r)

pub halves : (q : ℕ) (x e : ℕ → ℤ) (v : Slots) (m : ℕ) (l r : AdaptorTree) (count : ℕ) → 0 < q → HoldAll q v (all_ops m l r count) → Reflects x e v l → Reflects x e v r
    → Halves q x e v m l r count
halves q x e v m l r count unit h sl sr =
    let root = root_slot l r count in
    let op = Root (up_slot l count) (up_slot r (count + rise l)) m root (root + 1) in
    let ups_root = up_ops l count ++ up_ops r (count + rise l) ++ op ∷ [] in
    let dr = down_ops r (count + rise l) (root + 1) (root + 2) in
    let dl = down_ops l count root (root + 2 + fall r) in
    let before = front (Holds q v) (ups_root ++ dr) dl h in
    let p = parts_up q v l r count op (front (Holds q v) ups_root dr before) in
    let left = up-shown q x e v l count unit p.left sl in
    let right = up-shown q x e v r (count + rise l) unit p.right sr in
    record {
      left_up = p.left;
      right_up = p.right;
      left_down = back (Holds q v) (ups_root ++ dr) dl h;
      right_down = back (Holds q v) ups_root dr before;
      left = left;
      right = right;
      first = p.own.0 ∙ (λ i. trunc (root_value q m (q - m) (left i) (right i) (left i)) q);
      second = p.own.1 ∙ (λ i. trunc (root_value q m (q - m) (left i) (right i) (right i)) q);
    }

pub all-sent : (q : ℕ) (x e : ℕ → ℤ) (v : Slots) (m : ℕ) (l r : AdaptorTree) (count i : ℕ) → 0 < q → HoldAll q v (all_ops m l r count) → Reflects x e v l → Reflects x e v r
    → has_element (elements_of l ++ elements_of r) i ≡ true
    → v (down_slot l r count i)
    ≡ (if has_leaf l i then sent l (waves q x e l (root_down q x e m l r (ups q x e l))) i else sent r (waves q x e r (root_down q x e m l r (ups q x e r))) i)
all-sent q x e v m l r count i unit h sl sr some =
    let root = root_slot l r count in
    let p = halves q x e v m l r count unit h sl sr in
    of_part v (has_leaf l i) (has_leaf r i) _ _ _ _ (sym (leaf_either l r i) ∙ some)
    (λ k. leaf-sent q x e v l count root (root + 2 + fall r) _ i unit p.left_up p.left_down sl p.first k)
    (λ k. leaf-sent q x e v r (count + rise l) (root + 1) (root + 2) _ i unit p.right_up p.right_down sr p.second k)
