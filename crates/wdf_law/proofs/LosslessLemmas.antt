-- Equal energies leave no loss: where what is stored after a step and what was absorbed are all that was stored and
-- came in, q divides every outgoing value.
use Rattle.std.proofs.Common.{◌≡◌, ℕ, ◌+◌, ◌*◌, ◌<◌, ◌≤◌, List, ap, subst, sym, ◌∙◌, refl, arith}
use Rattle.std.proofs.Math.Nat.{mul-le-mul_left}
use lib.IntN.{ℤ, pos}
use Rattle.wdf_algebra.specs.Squares.{square}
use Rattle.wdf_algebra.specs.Truncation.{trunc}
use Rattle.wdf_algebra.proofs.Cancelling.{cancel_nat}
use Rattle.wdf_algebra.proofs.Truncations.{trunc-loses, trunc-exact}
use Rattle.wdf_law.specs.Trees.{AdaptorTree, leaf, series, parallel}
use Rattle.wdf_law.specs.Network.{Network, IsNetwork, unit_of}
use Rattle.wdf_law.specs.Junction.{Truncates}
use Rattle.wdf_law.specs.Conductance.{conductance, series_first, series_second, parallel_first, parallel_second, left_factor, right_factor}
use Rattle.wdf_law.specs.Step.{Waves, ends, forks, up_wave, down_wave, Follows, Frame, IsStep, after}
use Rattle.wdf_law.specs.Run.{states}
use Rattle.wdf_law.specs.Energy.{stored_in, incident_in, absorbed_in, stored, incident, absorbed}
use Rattle.wdf_law.specs.Laws.{IsExact, AreExact, IsLossless}
use Rattle.wdf_law.specs.TreeRules.{IsSound, HasSoundTrees}
use Rattle.wdf_law.proofs.ConductanceLemmas.{sound_trees, conductance-pos, series_first-pos, series_second-pos, parallel_first-pos, parallel_second-pos, left_factor-pos, right_factor-pos}
use Rattle.wdf_law.proofs.Losses.{Conserves, parallel_conserves, series_conserves, root_conserves, loses}
use Rattle.wdf_law.proofs.BalanceLemmas.{kept_in, goes, comes, joint_goes, joint_comes, kept, balance, held}
use Rattle.wdf_law.proofs.StateLemmas.{stored-after}

-- ---- over natural numbers

record AreEqual (x1 y1 x2 y2 x y : ℕ) : Type 0 where
  first : x1 ≡ y1
  second : x2 ≡ y2
  own : x ≡ y

-- three numbers that are at most three others, with the same sum
three_equal : (x1 y1 x2 y2 x y : ℕ) → x1 ≤ y1 → x2 ≤ y2 → x ≤ y → x1 + x2 + x ≡ y1 + y2 + y → AreEqual x1 y1 x2 y2 x y
three_equal x1 y1 x2 y2 x y h1 h2 h e = record { first = omega arith; second = omega arith; own = omega arith }

-- the balances of a junction's parts and its own, where its whole balance is exact
parted : (k1 a1 s1 i1 k2 a2 s2 i2 up1 up2 own1 down1 down2 own2 : ℕ)
    → k1 + a1 + up1 ≤ s1 + i1 + down1 → k2 + a2 + up2 ≤ s2 + i2 + down2 → down1 + down2 + own1 ≤ up1 + up2 + own2
    → (k1 + k2) + (a1 + a2) + own1 ≡ (s1 + s2) + (i1 + i2) + own2
    → AreEqual (k1 + a1 + up1) (s1 + i1 + down1) (k2 + a2 + up2) (s2 + i2 + down2) (down1 + down2 + own1) (up1 + up2 + own2)
parted k1 a1 s1 i1 k2 a2 s2 i2 up1 up2 own1 down1 down2 own2 h1 h2 h e = record { first = omega arith; second = omega arith; own = omega arith }

-- ---- a junction

-- a weighed value that lost nothing is exact
exact_value : (q g : ℕ) (b d : ℤ) → 0 < g → d ≡ trunc b q → g * (q * q * square d) ≡ g * square b → IsExact q b
exact_value q g b d some cut e =
    trunc-exact b q (sym (ap (λ (z : ℤ). q * q * square z) cut) ∙ cancel_nat g (q * q * square d) (square b) some e)

record HasExactValues (q g : ℕ) (b1 b2 b : ℤ) : Type 0 where
  first : IsExact q b1
  second : IsExact q b2
  own : 0 < g → IsExact q b

exact_values : (q g1 g2 g : ℕ) (u1 u2 d b1 b2 b u d1 d2 : ℤ) → 0 < g1 → 0 < g2 → Conserves q g1 g2 g u1 u2 d b1 b2 b → Truncates q u d1 d2 b1 b2 b
    → g1 * square d1 + g2 * square d2 + g * square u ≡ g1 * square u1 + g2 * square u2 + g * square d → HasExactValues q g b1 b2 b
exact_values q g1 g2 g u1 u2 d b1 b2 b u d1 d2 some1 some2 keeps cut same =
    let h1 : q * q * square d1 ≤ square b1 = subst (λ (z : ℤ). q * q * square z ≤ square b1) (sym cut.first) (trunc-loses b1 q) in
    let h2 : q * q * square d2 ≤ square b2 = subst (λ (z : ℤ). q * q * square z ≤ square b2) (sym cut.second) (trunc-loses b2 q) in
    let h : q * q * square u ≤ square b = subst (λ (z : ℤ). q * q * square z ≤ square b) (sym cut.up) (trunc-loses b q) in
    let all = ap (λ (n : ℕ). q * q * n) same in
    let each = three_equal (g1 * (q * q * square d1)) (g1 * square b1) (g2 * (q * q * square d2)) (g2 * square b2) (g * (q * q * square u)) (g * square b)
    (mul-le-mul_left g1 h1) (mul-le-mul_left g2 h2) (mul-le-mul_left g h) (omega arith) in
    record {
      first = exact_value q g1 b1 d1 some1 cut.first each.first;
      second = exact_value q g2 b2 d2 some2 cut.second each.second;
      own = λ some. exact_value q g b u some cut.up each.own;
    }

-- ---- a tree

-- the balance of a tree is exact
abbrev IsBalanced : ℕ → ℕ → (ℕ → ℤ) → (ℕ → ℤ) → AdaptorTree → Waves → Type 0
IsBalanced q f x e t w = goes q f t w ≡ comes q f x e t w

record HasExactParts (q g : ℕ) (b1 b2 b : ℤ) (wl wr : Waves) : Type 0 where
  values : HasExactValues q g b1 b2 b
  left : AreExact q wl
  right : AreExact q wr

-- a junction whose parts have the factors f1 and f2
exact_parts : (q f1 f2 g : ℕ) (x e : ℕ → ℤ) (l r : AdaptorTree) (u d b1 b2 b : ℤ) (wl wr : Waves) → 0 < q → 0 < f1 → 0 < f2 → IsSound q l → IsSound q r
    → Conserves q (conductance q f1 l) (conductance q f2 r) g (up_wave wl) (up_wave wr) d b1 b2 b → Truncates q u (down_wave wl) (down_wave wr) b1 b2 b
    → Follows q x e f1 l wl → Follows q x e f2 r wr → (IsBalanced q f1 x e l wl → AreExact q wl) → (IsBalanced q f2 x e r wr → AreExact q wr)
    → joint_goes q f1 f2 g l r u wl wr ≡ joint_comes q f1 f2 g x e l r d → HasExactParts q g b1 b2 b wl wr
exact_parts q f1 f2 g x e l r u d b1 b2 b wl wr unit some1 some2 sl sr keeps cut hl hr left right same =
    let g1 = conductance q f1 l in
    let g2 = conductance q f2 r in
    let parts = parted (kept_in q f1 l wl) (absorbed_in q f1 l wl) (stored_in q x f1 l) (incident_in q e f1 l)
    (kept_in q f2 r wr) (absorbed_in q f2 r wr) (stored_in q x f2 r) (incident_in q e f2 r)
    (g1 * square (up_wave wl)) (g2 * square (up_wave wr)) (g * square u) (g1 * square (down_wave wl)) (g2 * square (down_wave wr)) (g * square d)
    (balance q f1 x e l wl unit hl) (balance q f2 x e r wr unit hr) (loses q g1 g2 g (up_wave wl) (up_wave wr) d b1 b2 b u (down_wave wl) (down_wave wr) unit keeps cut) same in
    record {
      values = exact_values q g1 g2 g (up_wave wl) (up_wave wr) d b1 b2 b u (down_wave wl) (down_wave wr) (conductance-pos q f1 l unit some1 sl) (conductance-pos q f2 r unit some2 sr) keeps cut parts.own;
      left = left parts.first;
      right = right parts.second;
    }

-- all values of a junction's waves, its own port having a positive conductance
all_exact : (q g : ℕ) (u d b1 b2 b : ℤ) (wl wr : Waves) → 0 < g → HasExactParts q g b1 b2 b wl wr → AreExact q (forks u d b1 b2 b wl wr)
all_exact q g u d b1 b2 b wl wr some is = (is.values.first, is.values.second, is.values.own some, is.left, is.right)

only_exact : (q f : ℕ) (x e : ℕ → ℤ) (t : AdaptorTree) (w : Waves) → 0 < q → 0 < f → IsSound q t → Follows q x e f t w → IsBalanced q f x e t w → AreExact q w
only_exact q f x e (leaf i k flip) (ends u d) unit some s h same = tt
only_exact q f x e (leaf i k flip) (forks u d b1 b2 b wl wr) unit some s h same = absurd h
only_exact q f x e (series m l r) (ends u d) unit some s h same = absurd h
only_exact q f x e (series m l r) (forks u d b1 b2 b wl wr) unit some s h same =
    let first = series_first-pos q f m r unit some s.1 s.3 in
    let second = series_second-pos q f m l unit some s.0 s.2 in
    all_exact q (conductance q f (series m l r)) u d b1 b2 b wl wr (conductance-pos q f (series m l r) unit some s)
    (exact_parts q (series_first q f m r) (series_second q f m l) (conductance q f (series m l r)) x e l r u d b1 b2 b wl wr unit first second s.2 s.3
    (series_conserves q _ _ _ (up_wave wl) (up_wave wr) d b1 b2 b h.0) h.1 h.2 h.3
    (only_exact q (series_first q f m r) x e l wl unit first s.2 h.2) (only_exact q (series_second q f m l) x e r wr unit second s.3 h.3) same)
only_exact q f x e (parallel m l r) (ends u d) unit some s h same = absurd h
only_exact q f x e (parallel m l r) (forks u d b1 b2 b wl wr) unit some s h same =
    let first = parallel_first-pos q f m r unit some s.0 s.3 in
    let second = parallel_second-pos q f m l unit some s.1 s.2 in
    all_exact q (conductance q f (parallel m l r)) u d b1 b2 b wl wr (conductance-pos q f (parallel m l r) unit some s)
    (exact_parts q (parallel_first q f m r) (parallel_second q f m l) (conductance q f (parallel m l r)) x e l r u d b1 b2 b wl wr unit first second s.2 s.3
    (parallel_conserves q _ _ _ (up_wave wl) (up_wave wr) d b1 b2 b h.0) h.1 h.2 h.3
    (only_exact q (parallel_first q f m r) x e l wl unit first s.2 h.2) (only_exact q (parallel_second q f m l) x e r wr unit second s.3 h.3) same)

-- ---- a network

-- the root is a junction whose own port has the conductance 0
exact_step : (n : Network) (x e : ℕ → ℤ) (s : Frame) → HasSoundTrees n → IsStep n x e s → kept n s + absorbed n s ≡ held n x + incident n e → IsLossless n s
exact_step n x e s trees step same =
    let q = unit_of n in
    let some1 = left_factor-pos n trees in
    let some2 = right_factor-pos n trees in
    let is = exact_parts q (left_factor n) (right_factor n) 0 x e n.left n.right (trunc (pos 0) q) (pos 0) s.b1 s.b2 (pos 0) s.left s.right trees.unit some1 some2 trees.left trees.right
    (root_conserves q _ _ (up_wave s.left) (up_wave s.right) s.b1 s.b2 step.root) (record { first = step.to_left; second = step.to_right; up = refl }) step.left step.right
    (only_exact q (left_factor n) x e n.left s.left trees.unit some1 trees.left step.left) (only_exact q (right_factor n) x e n.right s.right trees.unit some2 trees.right step.right)
    (omega arith) in
    record { first = is.values.first; second = is.values.second; left = is.left; right = is.right }

pub equal_is_lossless : (n : Network) → IsNetwork n → (zs : List ℤ) (e : ℕ → ℤ) (s : Frame) → IsStep n (states n zs) e s
    → stored n (after n s) + absorbed n s ≡ stored n zs + incident n e → IsLossless n s
equal_is_lossless n rules zs e s step same =
    let after_is : stored n (after n s) ≡ kept n s = stored-after n (states n zs) e s rules step in
    exact_step n (states n zs) e s (sound_trees n rules) step (sym (ap (λ (k : ℕ). k + absorbed n s) after_is) ∙ same)
