-- The energy of one step: what a tree keeps and absorbs and what it reflects is at most what it had and
-- what it was sent.
use Rattle.std.proofs.Common.{◌≡◌, ℕ, ◌+◌, ◌*◌, ◌<◌, ◌≤◌, refl, ap, ◌∙◌, arith}
use Rattle.std.specs.Prelude.{unsigned_abs, Bool, true, false}
use lib.IntN.{ℤ, pos, negsuc, neg_ℤ}
use borrow.Author.Differences.{ints}
use Rattle.wdf_algebra.specs.Squares.{square}
use Rattle.wdf_algebra.specs.Truncation.{trunc}
use Rattle.wdf_law.specs.declared.kind.Kind.{Kind}
use Rattle.wdf_law.specs.declared.kind.Kind.TheVariants.{Res, Cap, Ind, Src}
use Rattle.wdf_law.specs.Trees.{AdaptorTree, leaf, series, parallel}
use Rattle.wdf_law.specs.Network.{Network, unit_of, is_reactance}
use Rattle.wdf_law.specs.Elements.{signed}
use Rattle.wdf_law.specs.Conductance.{conductance, series_first, series_second, parallel_first, parallel_second, left_factor, right_factor}
use Rattle.wdf_law.specs.Junction.{Truncates}
use Rattle.wdf_law.specs.Step.{Waves, ends, forks, up_wave, down_wave, Follows, Frame, IsStep}
use Rattle.wdf_law.specs.Energy.{sent_energy_in, stored_in, incident_in, absorbed_in, incident, absorbed}
use Rattle.wdf_law.specs.Solved.{reflected}
use Rattle.wdf_law.specs.Laws.{IsExact, AreExact, IsLossless}
use Rattle.wdf_law.proofs.ElementLemmas.{reflects}
use Rattle.wdf_law.proofs.Losses.{Conserves, parallel_conserves, series_conserves, root_conserves, loses, loses_nothing}

-- the sum of g·d² over the reactances, d being the wave that is sent there
abbrev pub kept_in : ℕ → ℕ → AdaptorTree → Waves → ℕ
kept_in q f t w = sent_energy_in is_reactance q f t w

square-neg : (z : ℤ) → square (neg_ℤ z) ≡ square z
square-neg z = let e : unsigned_abs (neg_ℤ z) ≡ unsigned_abs z = size z in ap (λ (n : ℕ). n * n) e
  where
    size : (z : ℤ) → unsigned_abs (neg_ℤ z) ≡ unsigned_abs z
    size (pos n) = omega (arith, ints)
    size (negsuc n) = refl

square-signed : (flip : Bool) (z : ℤ) → square (signed flip z) ≡ square z
square-signed true z = square-neg z
square-signed false z = refl

-- at a leaf nothing is lost
at_leaf : (q f i : ℕ) (x e : ℕ → ℤ) (k : Kind) (flip : Bool) (u d : ℤ) → u ≡ reflected k flip (x i) (e i)
    → kept_in q f (leaf i k flip) (ends u d) + absorbed_in q f (leaf i k flip) (ends u d) + conductance q f (leaf i k flip) * square u
    ≡ stored_in q x f (leaf i k flip) + incident_in q e f (leaf i k flip) + conductance q f (leaf i k flip) * square d
at_leaf q f i x e Res flip u d h =
    let s : square u ≡ 0 = ap square h in
    let g : conductance q f (leaf i Res flip) * square u ≡ conductance q f (leaf i Res flip) * 0 = ap (λ (n : ℕ). conductance q f (leaf i Res flip) * n) s in
    omega arith
at_leaf q f i x e Src flip u d h =
    let s : square u ≡ square (e i) = ap square h ∙ square-signed flip (e i) in
    let g : conductance q f (leaf i Src flip) * square u ≡ conductance q f (leaf i Src flip) * square (e i) = ap (λ (n : ℕ). conductance q f (leaf i Src flip) * n) s in
    omega arith
at_leaf q f i x e Cap flip u d h =
    let s : square u ≡ square (x i) = ap square h in
    let g : conductance q f (leaf i Cap flip) * square u ≡ conductance q f (leaf i Cap flip) * square (x i) = ap (λ (n : ℕ). conductance q f (leaf i Cap flip) * n) s in
    omega arith
at_leaf q f i x e Ind flip u d h =
    let s : square u ≡ square (x i) = ap square h ∙ square-neg (x i) in
    let g : conductance q f (leaf i Ind flip) * square u ≡ conductance q f (leaf i Ind flip) * square (x i) = ap (λ (n : ℕ). conductance q f (leaf i Ind flip) * n) s in
    omega arith

-- what a tree keeps, absorbs and reflects, and what it had and was sent
abbrev pub goes : ℕ → ℕ → AdaptorTree → Waves → ℕ
goes q f t w = kept_in q f t w + absorbed_in q f t w + conductance q f t * square (up_wave w)

abbrev pub comes : ℕ → ℕ → (ℕ → ℤ) → (ℕ → ℤ) → AdaptorTree → Waves → ℕ
comes q f x e t w = stored_in q x f t + incident_in q e f t + conductance q f t * square (down_wave w)

-- a junction whose parts have the factors f1 and f2 and whose own port has the conductance g
abbrev pub joint_goes : ℕ → ℕ → ℕ → ℕ → AdaptorTree → AdaptorTree → ℤ → Waves → Waves → ℕ
joint_goes q f1 f2 g l r u wl wr = (kept_in q f1 l wl + kept_in q f2 r wr) + (absorbed_in q f1 l wl + absorbed_in q f2 r wr) + g * square u

abbrev pub joint_comes : ℕ → ℕ → ℕ → ℕ → (ℕ → ℤ) → (ℕ → ℤ) → AdaptorTree → AdaptorTree → ℤ → ℕ
joint_comes q f1 f2 g x e l r d = (stored_in q x f1 l + stored_in q x f2 r) + (incident_in q e f1 l + incident_in q e f2 r) + g * square d

-- its balance, from those of its parts and from its own loss
junction_balance : (q f1 f2 g : ℕ) (x e : ℕ → ℤ) (l r : AdaptorTree) (u d b1 b2 b : ℤ) (wl wr : Waves) → 0 < q
    → Conserves q (conductance q f1 l) (conductance q f2 r) g (up_wave wl) (up_wave wr) d b1 b2 b → Truncates q u (down_wave wl) (down_wave wr) b1 b2 b
    → goes q f1 l wl ≤ comes q f1 x e l wl → goes q f2 r wr ≤ comes q f2 x e r wr → joint_goes q f1 f2 g l r u wl wr ≤ joint_comes q f1 f2 g x e l r d
junction_balance q f1 f2 g x e l r u d b1 b2 b wl wr unit keeps cut left right =
    let own = loses q (conductance q f1 l) (conductance q f2 r) g (up_wave wl) (up_wave wr) d b1 b2 b u (down_wave wl) (down_wave wr) unit keeps cut in omega arith

pub balance : (q f : ℕ) (x e : ℕ → ℤ) (t : AdaptorTree) (w : Waves) → 0 < q → Follows q x e f t w → goes q f t w ≤ comes q f x e t w
balance q f x e (leaf i k flip) (ends u d) unit h =
    let same = at_leaf q f i x e k flip u d (reflects k flip (x i) (e i) u d h) in omega arith
balance q f x e (leaf i k flip) (forks u d b1 b2 b wl wr) unit h = absurd h
balance q f x e (series m l r) (ends u d) unit h = absurd h
balance q f x e (series m l r) (forks u d b1 b2 b wl wr) unit h =
    junction_balance q (series_first q f m r) (series_second q f m l) (conductance q f (series m l r)) x e l r u d b1 b2 b wl wr unit
    (series_conserves q _ _ _ (up_wave wl) (up_wave wr) d b1 b2 b h.0) h.1
    (balance q (series_first q f m r) x e l wl unit h.2) (balance q (series_second q f m l) x e r wr unit h.3)
balance q f x e (parallel m l r) (ends u d) unit h = absurd h
balance q f x e (parallel m l r) (forks u d b1 b2 b wl wr) unit h =
    junction_balance q (parallel_first q f m r) (parallel_second q f m l) (conductance q f (parallel m l r)) x e l r u d b1 b2 b wl wr unit
    (parallel_conserves q _ _ _ (up_wave wl) (up_wave wr) d b1 b2 b h.0) h.1
    (balance q (parallel_first q f m r) x e l wl unit h.2) (balance q (parallel_second q f m l) x e r wr unit h.3)

-- exactly so where q divides every value
exact_junction : (q f1 f2 g : ℕ) (x e : ℕ → ℤ) (l r : AdaptorTree) (u d b1 b2 b : ℤ) (wl wr : Waves) → 0 < q
    → Conserves q (conductance q f1 l) (conductance q f2 r) g (up_wave wl) (up_wave wr) d b1 b2 b → Truncates q u (down_wave wl) (down_wave wr) b1 b2 b
    → IsExact q b1 → IsExact q b2 → IsExact q b
    → goes q f1 l wl ≡ comes q f1 x e l wl → goes q f2 r wr ≡ comes q f2 x e r wr → joint_goes q f1 f2 g l r u wl wr ≡ joint_comes q f1 f2 g x e l r d
exact_junction q f1 f2 g x e l r u d b1 b2 b wl wr unit keeps cut exact1 exact2 exact left right =
    let own = loses_nothing q (conductance q f1 l) (conductance q f2 r) g (up_wave wl) (up_wave wr) d b1 b2 b u (down_wave wl) (down_wave wr) unit keeps cut exact1 exact2 exact in
    omega arith

pub exact_balance : (q f : ℕ) (x e : ℕ → ℤ) (t : AdaptorTree) (w : Waves) → 0 < q → Follows q x e f t w → AreExact q w → goes q f t w ≡ comes q f x e t w
exact_balance q f x e (leaf i k flip) (ends u d) unit h exact = at_leaf q f i x e k flip u d (reflects k flip (x i) (e i) u d h)
exact_balance q f x e (leaf i k flip) (forks u d b1 b2 b wl wr) unit h exact = absurd h
exact_balance q f x e (series m l r) (ends u d) unit h exact = absurd h
exact_balance q f x e (series m l r) (forks u d b1 b2 b wl wr) unit h exact =
    exact_junction q (series_first q f m r) (series_second q f m l) (conductance q f (series m l r)) x e l r u d b1 b2 b wl wr unit
    (series_conserves q _ _ _ (up_wave wl) (up_wave wr) d b1 b2 b h.0) h.1 exact.0 exact.1 exact.2
    (exact_balance q (series_first q f m r) x e l wl unit h.2 exact.3) (exact_balance q (series_second q f m l) x e r wr unit h.3 exact.4)
exact_balance q f x e (parallel m l r) (ends u d) unit h exact = absurd h
exact_balance q f x e (parallel m l r) (forks u d b1 b2 b wl wr) unit h exact =
    exact_junction q (parallel_first q f m r) (parallel_second q f m l) (conductance q f (parallel m l r)) x e l r u d b1 b2 b wl wr unit
    (parallel_conserves q _ _ _ (up_wave wl) (up_wave wr) d b1 b2 b h.0) h.1 exact.0 exact.1 exact.2
    (exact_balance q (parallel_first q f m r) x e l wl unit h.2 exact.3) (exact_balance q (parallel_second q f m l) x e r wr unit h.3 exact.4)

-- ---- a network

abbrev pub kept : Network → Frame → ℕ
kept n s = kept_in (unit_of n) (left_factor n) n.left s.left + kept_in (unit_of n) (right_factor n) n.right s.right

abbrev pub held : Network → (ℕ → ℤ) → ℕ
held n x = stored_in (unit_of n) x (left_factor n) n.left + stored_in (unit_of n) x (right_factor n) n.right

-- the root is a junction whose own port has the conductance 0
pub step_balance : (n : Network) (x e : ℕ → ℤ) (s : Frame) → 0 < unit_of n → IsStep n x e s → kept n s + absorbed n s ≤ held n x + incident n e
step_balance n x e s unit step =
    let q = unit_of n in
    let all = junction_balance q (left_factor n) (right_factor n) 0 x e n.left n.right (trunc (pos 0) q) (pos 0) s.b1 s.b2 (pos 0) s.left s.right unit
    (root_conserves q _ _ (up_wave s.left) (up_wave s.right) s.b1 s.b2 step.root) (record { first = step.to_left; second = step.to_right; up = refl })
    (balance q (left_factor n) x e n.left s.left unit step.left) (balance q (right_factor n) x e n.right s.right unit step.right) in
    omega arith

exact-zero : (q : ℕ) → IsExact q (pos 0)
exact-zero q = omega (arith, ints)

pub exact_step_balance : (n : Network) (x e : ℕ → ℤ) (s : Frame) → 0 < unit_of n → IsStep n x e s → IsLossless n s
    → kept n s + absorbed n s ≡ held n x + incident n e
exact_step_balance n x e s unit step exact =
    let q = unit_of n in
    let all = exact_junction q (left_factor n) (right_factor n) 0 x e n.left n.right (trunc (pos 0) q) (pos 0) s.b1 s.b2 (pos 0) s.left s.right unit
    (root_conserves q _ _ (up_wave s.left) (up_wave s.right) s.b1 s.b2 step.root) (record { first = step.to_left; second = step.to_right; up = refl })
    exact.first exact.second (exact-zero q)
    (exact_balance q (left_factor n) x e n.left s.left unit step.left exact.left) (exact_balance q (right_factor n) x e n.right s.right unit step.right exact.right) in
    omega arith
