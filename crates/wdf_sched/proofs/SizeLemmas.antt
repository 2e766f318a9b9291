-- Where no wave of a step exceeds a limit, no slot of an operation does.
use Rattle.std.proofs.Common.{◌≡◌, ℕ, ◌+◌, ◌-◌, ◌*◌, ◌<◌, ◌≤◌, [], ◌∷◌, ◌++◌, sym, ◌∙◌, subst, arith}
use Rattle.std.specs.Prelude.{ℤ, pos, ◌+ℤ◌, ◌*ℤ◌, unsigned_abs}
use Rattle.std.proofs.Math.Nat.{mul-le-mul_left}
use Rattle.std.proofs.lemmas.Int.{unsigned_abs-mul}
use borrow.Author.Differences.{ints}
use Rattle.wdf_algebra.specs.JunctionValues.{parallel_value}
use Rattle.wdf_law.specs.Trees.{AdaptorTree, leaf, series, parallel}
use Rattle.wdf_law.specs.TreeRules.{IsSound}
use Rattle.wdf_law.specs.Solved.{ups, waves}
use Rattle.wdf_sched.specs.declared.op.Op.TheVariants.{UpSeries, UpParallel, Root}
use Rattle.wdf_sched.specs.Operations.{Slots, HoldAll, IsAtMost, IsWithin, AreWithin}
use Rattle.wdf_sched.specs.Meaning.{Reflects, HasWavesWithin}
use Rattle.wdf_sched.specs.Compiled.{rise, up_slot, up_ops, fall, down_ops, root_slot, all_ops}
use Rattle.wdf_sched.proofs.ListLemmas.{both, behind}
use Rattle.wdf_sched.proofs.WaveLemmas.{up-shown, parts_up, series_parts, parallel_parts, series_first_down, series_second_down, parallel_first_down, parallel_second_down, halves, root_down}

pub sum-abs : (a b : ℤ) → unsigned_abs (a +ℤ b) ≤ unsigned_abs a + unsigned_abs b
sum-abs a b = omega (arith, ints)

-- two shares that make up q, of waves within the limit
pub shares-abs : (q m limit : ℕ) (u1 u2 : ℤ) → m ≤ q → IsAtMost limit u1 → IsAtMost limit u2 → IsAtMost (q * limit) (parallel_value m (q - m) u1 u2)
shares-abs q m limit u1 u2 few h1 h2 =
    let whole : m + (q - m) ≡ q = omega arith in
    subst (λ (p : ℕ). IsAtMost (p * limit) (parallel_value m (q - m) u1 u2)) whole (parts m (q - m))
  where
    parts : (m n : ℕ) → IsAtMost ((m + n) * limit) (parallel_value m n u1 u2)
    parts m n =
        let first : m * unsigned_abs u1 ≤ m * limit = mul-le-mul_left m h1 in
        let second : n * unsigned_abs u2 ≤ n * limit = mul-le-mul_left n h2 in
        let one : unsigned_abs (pos m *ℤ u1) ≡ m * unsigned_abs u1 = unsigned_abs-mul (pos m) u1 in
        let two : unsigned_abs (pos n *ℤ u2) ≡ n * unsigned_abs u2 = unsigned_abs-mul (pos n) u2 in
        omega (arith, sum-abs (pos m *ℤ u1) (pos n *ℤ u2))

-- the waves at a tree's own port
own_up : (q limit : ℕ) (x e : ℕ → ℤ) (t : AdaptorTree) (z : ℤ) → HasWavesWithin limit (waves q x e t z) → IsAtMost limit (ups q x e t)
own_up q limit x e (leaf i k flip) z h = h.0
own_up q limit x e (series m l r) z h = h.0
own_up q limit x e (parallel m l r) z h = h.0

own_down : (q limit : ℕ) (x e : ℕ → ℤ) (t : AdaptorTree) (z : ℤ) → HasWavesWithin limit (waves q x e t z) → IsAtMost limit z
own_down q limit x e (leaf i k flip) z h = h.1
own_down q limit x e (series m l r) z h = h.1
own_down q limit x e (parallel m l r) z h = h.1

-- a slot that holds a value is no larger
of_value : (limit : ℕ) (y z : ℤ) → y ≡ z → IsAtMost limit z → IsAtMost limit y
of_value limit y z same h = subst (IsAtMost limit) (sym same) h

up-within : (q limit : ℕ) (x e : ℕ → ℤ) (v : Slots) (t : AdaptorTree) (next : ℕ) (z : ℤ) → 0 < q → IsSound q t → HoldAll q v (up_ops t next) → Reflects x e v t
    → HasWavesWithin limit (waves q x e t z) → AreWithin q limit v (up_ops t next)
up-within q limit x e v (leaf i k flip) next z unit s h st w = tt
up-within q limit x e v (series m l r) next z unit s h st w =
    let p = parts_up q v l r next _ h in
    behind (IsWithin q limit v) (up_ops l next) (up_ops r (next + rise l)) (UpSeries (up_slot l next) (up_slot r (next + rise l)) (next + rise l + rise r))
    (up-within q limit x e v l next (series_first_down q x e m l r z) unit s.2 p.left st.0 w.2)
    (up-within q limit x e v r (next + rise l) (series_second_down q x e m l r z) unit s.3 p.right st.1 w.3) (
      of_value limit _ _ (up-shown q x e v l next unit p.left st.0) (own_up q limit x e l (series_first_down q x e m l r z) w.2),
      of_value limit _ _ (up-shown q x e v r (next + rise l) unit p.right st.1) (own_up q limit x e r (series_second_down q x e m l r z) w.3),
      of_value limit _ _ (up-shown q x e v (series m l r) next unit h st) w.0,
    )
up-within q limit x e v (parallel m l r) next z unit s h st w =
    let p = parts_up q v l r next _ h in
    let left = up-shown q x e v l next unit p.left st.0 in
    let right = up-shown q x e v r (next + rise l) unit p.right st.1 in
    let u1 = own_up q limit x e l (parallel_first_down q x e m l r z) w.2 in
    let u2 = own_up q limit x e r (parallel_second_down q x e m l r z) w.3 in
    let few : m < q = s.1 in
    behind (IsWithin q limit v) (up_ops l next) (up_ops r (next + rise l))
    (UpParallel (up_slot l next) (up_slot r (next + rise l)) m (next + rise l + rise r) (next + rise l + rise r + 1))
    (up-within q limit x e v l next (parallel_first_down q x e m l r z) unit s.2 p.left st.0 w.2)
    (up-within q limit x e v r (next + rise l) (parallel_second_down q x e m l r z) unit s.3 p.right st.1 w.3) (
      of_value limit _ _ left u1,
      of_value limit _ _ right u2,
      of_value (q * limit) _ _ (p.own.0 ∙ (λ i. parallel_value m (q - m) (left i) (right i))) (shares-abs q m limit _ _ (omega arith) u1 u2),
      of_value limit _ _ (up-shown q x e v (parallel m l r) next unit h st) w.0,
    )

down-within : (q limit : ℕ) (x e : ℕ → ℤ) (v : Slots) (t : AdaptorTree) (base d next : ℕ) (z : ℤ) → 0 < q → IsSound q t → HoldAll q v (up_ops t base)
    → HoldAll q v (down_ops t base d next) → Reflects x e v t → v d ≡ z → HasWavesWithin limit (waves q x e t z) → AreWithin q limit v (down_ops t base d next)
down-within q limit x e v (leaf i k flip) base d next z unit s up down st at w = tt
down-within q limit x e v (series m l r) base d next z unit s up down st at w =
    let p = series_parts q x e v m l r base d next z unit up down st at in
    let z1 = series_first_down q x e m l r z in
    let z2 = series_second_down q x e m l r z in (
      (
        of_value limit _ _ p.left (own_up q limit x e l z1 w.2),
        of_value limit _ _ p.right (own_up q limit x e r z2 w.3),
        of_value limit _ _ at w.1,
        of_value limit _ _ p.first (own_down q limit x e l z1 w.2),
        of_value limit _ _ p.second (own_down q limit x e r z2 w.3),
      ),
      both (IsWithin q limit v) (down_ops r (base + rise l) (next + 1) (next + 2)) (down_ops l base next (next + 2 + fall r))
          (down-within q limit x e v r (base + rise l) (next + 1) (next + 2) z2 unit s.3 p.right_up p.right_down st.1 p.second w.3)
          (down-within q limit x e v l base next (next + 2 + fall r) z1 unit s.2 p.left_up p.left_down st.0 p.first w.2),
    )
down-within q limit x e v (parallel m l r) base d next z unit s up down st at w =
    let p = parallel_parts q x e v m l r base d next z unit up down st at in
    let z1 = parallel_first_down q x e m l r z in
    let z2 = parallel_second_down q x e m l r z in
    let u1 = own_up q limit x e l z1 w.2 in
    let u2 = own_up q limit x e r z2 w.3 in
    let own = parts_up q v l r base _ up in
    let few : m < q = s.1 in (
      (
        of_value limit _ _ p.left u1,
        of_value limit _ _ p.right u2,
        of_value limit _ _ at w.1,
        of_value (q * limit) _ _ (own.own.0 ∙ (λ i. parallel_value m (q - m) (p.left i) (p.right i))) (shares-abs q m limit _ _ (omega arith) u1 u2),
        of_value limit _ _ p.first (own_down q limit x e l z1 w.2),
        of_value limit _ _ p.second (own_down q limit x e r z2 w.3),
      ),
      both (IsWithin q limit v) (down_ops r (base + rise l) (next + 1) (next + 2)) (down_ops l base next (next + 2 + fall r))
          (down-within q limit x e v r (base + rise l) (next + 1) (next + 2) z2 unit s.3 p.right_up p.right_down st.1 p.second w.3)
          (down-within q limit x e v l base next (next + 2 + fall r) z1 unit s.2 p.left_up p.left_down st.0 p.first w.2),
    )

pub all-within : (q limit : ℕ) (x e : ℕ → ℤ) (v : Slots) (m : ℕ) (l r : AdaptorTree) (count : ℕ) → 0 < q → IsSound q l → IsSound q r
    → HoldAll q v (all_ops m l r count) → Reflects x e v l → Reflects x e v r
    → HasWavesWithin limit (waves q x e l (root_down q x e m l r (ups q x e l))) → HasWavesWithin limit (waves q x e r (root_down q x e m l r (ups q x e r)))
    → AreWithin q limit v (all_ops m l r count)
all-within q limit x e v m l r count unit soundl soundr h sl sr wl wr =
    let root = root_slot l r count in
    let op = Root (up_slot l count) (up_slot r (count + rise l)) m root (root + 1) in
    let ups_root = up_ops l count ++ up_ops r (count + rise l) ++ op ∷ [] in
    let dr = down_ops r (count + rise l) (root + 1) (root + 2) in
    let dl = down_ops l count root (root + 2 + fall r) in
    let p = halves q x e v m l r count unit h sl sr in
    let z1 = root_down q x e m l r (ups q x e l) in
    let z2 = root_down q x e m l r (ups q x e r) in
    both (IsWithin q limit v) (ups_root ++ dr) dl
    (both (IsWithin q limit v) ups_root dr
    (behind (IsWithin q limit v) (up_ops l count) (up_ops r (count + rise l)) op
    (up-within q limit x e v l count z1 unit soundl p.left_up sl wl)
    (up-within q limit x e v r (count + rise l) z2 unit soundr p.right_up sr wr) (
      of_value limit _ _ p.left (own_up q limit x e l z1 wl),
      of_value limit _ _ p.right (own_up q limit x e r z2 wr),
      of_value limit _ _ p.first (own_down q limit x e l z1 wl),
      of_value limit _ _ p.second (own_down q limit x e r z2 wr),
    ))
    (down-within q limit x e v r (count + rise l) (root + 1) (root + 2) z2 unit soundr p.right_up p.right_down sr p.second wr))
    (down-within q limit x e v l count root (root + 2 + fall r) z1 unit soundl p.left_up p.left_down sl p.first wl)
