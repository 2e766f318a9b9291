-- Every wave is bounded by the energy at hand: upwards by what the tree itself holds, downwards by all of it.
use Rattle.std.proofs.Common.{◌≡◌, ℕ, ◌+◌, ◌-◌, ◌*◌, ◌<◌, ◌≤◌, refl, ap, sym, ◌∙◌, subst, arith}
use Rattle.std.proofs.Math.Nat.{mul-le-mul_left}
use lib.IntN.{ℤ, pos}
use Rattle.wdf_algebra.specs.Squares.{square}
use Rattle.wdf_algebra.specs.JunctionValues.{series_value, series_part, parallel_value, parallel_part, root_value}
use Rattle.wdf_algebra.specs.Truncation.{trunc}
use Rattle.wdf_algebra.proofs.Truncations.{trunc-loses}
use Rattle.wdf_law.specs.Trees.{AdaptorTree, leaf, series, parallel}
use Rattle.wdf_law.specs.Network.{Network, unit_of}
use Rattle.wdf_law.specs.Conductance.{conductance, series_first, series_second, parallel_first, parallel_second, left_factor, right_factor}
use Rattle.wdf_law.specs.Step.{up_wave, down_wave, Frame, IsStep}
use Rattle.wdf_law.specs.Energy.{stored_in, incident_in, incident}
use Rattle.wdf_law.specs.Solved.{ups, waves, solved}
use Rattle.wdf_law.specs.Laws.{AreBounded, IsFrameBounded}
use Rattle.wdf_law.specs.TreeRules.{IsSound, HasSoundTrees}
use Rattle.wdf_law.proofs.ConductanceLemmas.{conductance-pos, series_first-pos, series_second-pos, parallel_first-pos, parallel_second-pos, left_factor-pos, right_factor-pos, series_law, parallel_law, root_law, whole_of}
use Rattle.wdf_law.proofs.JunctionLemmas.{parallel_solved, series_solved, root_solved}
use Rattle.wdf_law.proofs.StepLemmas.{up_wave-waves, down_wave-waves, follows, step-alone}
use Rattle.wdf_law.proofs.Losses.{Conserves, parallel_conserves, series_conserves, root_conserves, loses}
use Rattle.wdf_law.proofs.BalanceLemmas.{balance, held}

-- what a tree holds and its sources send
abbrev pub at_hand : ℕ → (ℕ → ℤ) → (ℕ → ℤ) → ℕ → AdaptorTree → ℕ
at_hand q x e f t = stored_in q x f t + incident_in q e f t

-- a tree reflects no more than it has: its up wave is the same where it is sent nothing
pub ups_bound : (q f : ℕ) (x e : ℕ → ℤ) (t : AdaptorTree) → 0 < q → 0 < f → IsSound q t → conductance q f t * square (ups q x e t) ≤ at_hand q x e f t
ups_bound q f x e t unit some s =
    let all = balance q f x e t (waves q x e t (pos 0)) unit (follows q f x e t (pos 0) unit some s) in
    let same : conductance q f t * square (up_wave (waves q x e t (pos 0))) ≡ conductance q f t * square (ups q x e t) =
    ap (λ (z : ℤ). conductance q f t * square z) (up_wave-waves q x e t (pos 0)) in
    let none : conductance q f t * square (down_wave (waves q x e t (pos 0))) ≡ conductance q f t * 0 =
    ap (λ (z : ℤ). conductance q f t * square z) (down_wave-waves q x e t (pos 0)) in
    omega arith

-- ---- one junction over natural numbers: the weighted squares s1, s2, s of its values, u1, u2, u of the up waves,
-- d1, d2, d of the down waves; its parts have e1 and e2 at hand, and c is all there is

record Bounds (qq s1 s2 u1 u2 d1 d2 e1 e2 c : ℕ) : Type 0 where
  first : s1 ≤ qq * c
  second : s2 ≤ qq * c
  left : d1 + e1 ≤ c + u1
  right : d2 + e2 ≤ c + u2

inner : (qq s1 s2 s u1 u2 u d1 d2 d e1 e2 c : ℕ) → s1 + s2 + s ≡ qq * (u1 + u2 + d) → qq * u ≤ s → d1 + d2 + u ≤ u1 + u2 + d
    → u1 ≤ e1 → u2 ≤ e2 → d + (e1 + e2) ≤ c + u → Bounds qq s1 s2 u1 u2 d1 d2 e1 e2 c
inner qq s1 s2 s u1 u2 u d1 d2 d e1 e2 c keeps cut lost h1 h2 all =
    let most : qq * (u1 + u2 + d) ≤ qq * (c + u) = mul-le-mul_left qq (omega arith) in
    record { first = omega arith; second = omega arith; left = omega arith; right = omega arith }

-- the value to its own port, where the junction is sent nothing
outward : (qq s1 s2 s u1 u2 e1 e2 c : ℕ) → s1 + s2 + s ≡ qq * (u1 + u2 + 0) → u1 ≤ e1 → u2 ≤ e2 → e1 + e2 ≤ c → s ≤ qq * c
outward qq s1 s2 s u1 u2 e1 e2 c keeps h1 h2 all =
    let most : qq * (u1 + u2 + 0) ≤ qq * c = mul-le-mul_left qq (omega arith) in
    omega arith

weigh : (g qq t s : ℕ) → qq * t ≤ s → qq * (g * t) ≤ g * s
weigh g qq t s h = let m = mul-le-mul_left g h in omega arith

-- ---- a tree

-- what a junction's values and its parts are bounded by
record IsJunctionBounded (q g1 g2 g : ℕ) (u1 u2 b1 b2 b : ℤ) (e1 e2 c : ℕ) : Type 0 where
  first : g1 * square b1 ≤ q * q * c
  second : g2 * square b2 ≤ q * q * c
  own : g * square b ≤ q * q * c
  left : g1 * square (trunc b1 q) + e1 ≤ c + g1 * square u1
  right : g2 * square (trunc b2 q) + e2 ≤ c + g2 * square u2

-- a junction whose parts have e1 and e2 at hand; with a1 and a2 for its parts where it is sent nothing
junction_bounded : (q g1 g2 g : ℕ) (u1 u2 d b1 b2 b a1 a2 : ℤ) (e1 e2 c : ℕ) → 0 < q → g1 * square u1 ≤ e1 → g2 * square u2 ≤ e2
    → Conserves q g1 g2 g u1 u2 d b1 b2 b → Conserves q g1 g2 g u1 u2 (pos 0) a1 a2 b
    → g * square d + (e1 + e2) ≤ c + g * square (trunc b q) → e1 + e2 ≤ c → IsJunctionBounded q g1 g2 g u1 u2 b1 b2 b e1 e2 c
junction_bounded q g1 g2 g u1 u2 d b1 b2 b a1 a2 e1 e2 c unit h1 h2 keeps alone down_h all =
    let lost = loses q g1 g2 g u1 u2 d b1 b2 b (trunc b q) (trunc b1 q) (trunc b2 q) unit keeps (record { first = refl; second = refl; up = refl }) in
    let in_all = inner (q * q) (g1 * square b1) (g2 * square b2) (g * square b) (g1 * square u1) (g2 * square u2) (g * square (trunc b q))
    (g1 * square (trunc b1 q)) (g2 * square (trunc b2 q)) (g * square d) e1 e2 c keeps (weigh g (q * q) (square (trunc b q)) (square b) (trunc-loses b q)) lost h1 h2 down_h in
    let own = outward (q * q) (g1 * square a1) (g2 * square a2) (g * square b) (g1 * square u1) (g2 * square u2) e1 e2 c
    (alone ∙ ap (λ (k : ℕ). q * q * (g1 * square u1 + g2 * square u2 + k)) (omega arith)) h1 h2 all in
    record { first = in_all.first; second = in_all.second; own = own; left = in_all.left; right = in_all.right }

pub bounded : (q c f : ℕ) (x e : ℕ → ℤ) (t : AdaptorTree) (d : ℤ) → 0 < q → 0 < f → IsSound q t
    → conductance q f t * square d + at_hand q x e f t ≤ c + conductance q f t * square (ups q x e t) → at_hand q x e f t ≤ c
    → AreBounded q c f t (waves q x e t d)
bounded q c f x e (leaf i k flip) d unit some s down_h all =
    let up_h = ups_bound q f x e (leaf i k flip) unit some s in
    (omega arith, omega arith)
bounded q c f x e (series m l r) d unit some s down_h all =
    let u1 = ups q x e l in
    let u2 = ups q x e r in
    let b1 = series_part q m u1 u2 d u1 in
    let b2 = series_part q (q - m) u1 u2 d u2 in
    let b = series_value q u1 u2 in
    let g1 = conductance q (series_first q f m r) l in
    let g2 = conductance q (series_second q f m l) r in
    let g = conductance q f (series m l r) in
    let first = series_first-pos q f m r unit some s.1 s.3 in
    let second = series_second-pos q f m l unit some s.0 s.2 in
    let up_h = ups_bound q f x e (series m l r) unit some s in
    let laws = λ (z : ℤ). series_solved q m (q - m) g1 g2 g u1 u2 z (conductance-pos q (series_first q f m r) l unit first s.2) (whole_of q m s.1) (series_law q f m l r s.1) in
    let own = junction_bounded q g1 g2 g u1 u2 d b1 b2 b (series_part q m u1 u2 (pos 0) u1) (series_part q (q - m) u1 u2 (pos 0) u2)
    (at_hand q x e (series_first q f m r) l) (at_hand q x e (series_second q f m l) r) c unit
    (ups_bound q (series_first q f m r) x e l unit first s.2) (ups_bound q (series_second q f m l) x e r unit second s.3)
    (series_conserves q g1 g2 g u1 u2 d b1 b2 b (laws d)) (series_conserves q g1 g2 g u1 u2 (pos 0) _ _ b (laws (pos 0))) (omega arith) (omega arith) in (
      omega arith,
      omega arith,
      own.first,
      own.second,
      own.own,
      bounded q c (series_first q f m r) x e l (trunc b1 q) unit first s.2 own.left (omega arith),
      bounded q c (series_second q f m l) x e r (trunc b2 q) unit second s.3 own.right (omega arith),
    )
bounded q c f x e (parallel m l r) d unit some s down_h all =
    let u1 = ups q x e l in
    let u2 = ups q x e r in
    let b1 = parallel_part q m (q - m) u1 u2 d u1 in
    let b2 = parallel_part q m (q - m) u1 u2 d u2 in
    let b = parallel_value m (q - m) u1 u2 in
    let g1 = conductance q (parallel_first q f m r) l in
    let g2 = conductance q (parallel_second q f m l) r in
    let g = conductance q f (parallel m l r) in
    let first = parallel_first-pos q f m r unit some s.0 s.3 in
    let second = parallel_second-pos q f m l unit some s.1 s.2 in
    let up_h = ups_bound q f x e (parallel m l r) unit some s in
    let laws = λ (z : ℤ). parallel_solved q m (q - m) g1 g2 g u1 u2 z (whole_of q m s.1) (parallel_law q f m l r s.1) in
    let own = junction_bounded q g1 g2 g u1 u2 d b1 b2 b (parallel_part q m (q - m) u1 u2 (pos 0) u1) (parallel_part q m (q - m) u1 u2 (pos 0) u2)
    (at_hand q x e (parallel_first q f m r) l) (at_hand q x e (parallel_second q f m l) r) c unit
    (ups_bound q (parallel_first q f m r) x e l unit first s.2) (ups_bound q (parallel_second q f m l) x e r unit second s.3)
    (parallel_conserves q g1 g2 g u1 u2 d b1 b2 b (laws d)) (parallel_conserves q g1 g2 g u1 u2 (pos 0) _ _ b (laws (pos 0))) (omega arith) (omega arith) in (
      omega arith,
      omega arith,
      own.first,
      own.second,
      own.own,
      bounded q c (parallel_first q f m r) x e l (trunc b1 q) unit first s.2 own.left (omega arith),
      bounded q c (parallel_second q f m l) x e r (trunc b2 q) unit second s.3 own.right (omega arith),
    )

-- ---- a network

pub solved-bounded : (n : Network) (c : ℕ) (x e : ℕ → ℤ) → HasSoundTrees n → held n x + incident n e ≤ c → IsFrameBounded n c (solved n x e)
solved-bounded n c x e s all =
    let q = unit_of n in
    let u1 = ups q x e n.left in
    let u2 = ups q x e n.right in
    let b1 = root_value q n.m (q - n.m) u1 u2 u1 in
    let b2 = root_value q n.m (q - n.m) u1 u2 u2 in
    let g1 = conductance q (left_factor n) n.left in
    let g2 = conductance q (right_factor n) n.right in
    let e1 = at_hand q x e (left_factor n) n.left in
    let e2 = at_hand q x e (right_factor n) n.right in
    let h1 : g1 * square u1 ≤ e1 = ups_bound q (left_factor n) x e n.left s.unit (left_factor-pos n s) s.left in
    let h2 : g2 * square u2 ≤ e2 = ups_bound q (right_factor n) x e n.right s.unit (right_factor-pos n s) s.right in
    let keeps = root_conserves q g1 g2 u1 u2 b1 b2 (root_solved q n.m (q - n.m) g1 g2 u1 u2 (whole_of q n.m s.few) (root_law q n.m n.left n.right s.few)) in
    let lost = loses q g1 g2 0 u1 u2 (pos 0) b1 b2 (pos 0) (trunc (pos 0) q) (trunc b1 q) (trunc b2 q) s.unit keeps (record { first = refl; second = refl; up = refl }) in
    let in_all = inner (q * q) (g1 * square b1) (g2 * square b2) 0 (g1 * square u1) (g2 * square u2) 0
    (g1 * square (trunc b1 q)) (g2 * square (trunc b2 q)) 0 e1 e2 c (omega arith) (omega arith) (omega arith) h1 h2 (omega arith) in
    record {
      first = in_all.first;
      second = in_all.second;
      left = bounded q c (left_factor n) x e n.left (trunc b1 q) s.unit (left_factor-pos n s) s.left in_all.left (omega arith);
      right = bounded q c (right_factor n) x e n.right (trunc b2 q) s.unit (right_factor-pos n s) s.right in_all.right (omega arith);
    }

pub step-bounded : (n : Network) (c : ℕ) (x e : ℕ → ℤ) (f : Frame) → HasSoundTrees n → held n x + incident n e ≤ c → IsStep n x e f → IsFrameBounded n c f
step-bounded n c x e f s all step = subst (IsFrameBounded n c) (sym (step-alone n s x e f step)) (solved-bounded n c x e s all)
