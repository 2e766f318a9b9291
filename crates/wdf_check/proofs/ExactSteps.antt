-- Where nothing is truncated away, a step without input is the residue step modulo P.
use Rattle.std.proofs.Common.{◌≡◌, ℕ, ◌+◌, ◌-◌, ◌*◌, ◌%◌, ◌^◌, ◌<◌, ◌≤◌, Bool, true, false, ◌&&◌, ◌||◌, ◌==◌, if◌then◌else◌, [], ◌∷◌, ◌++◌, refl, sym, ap, ◌∙◌, arith}
use Rattle.std.proofs.lemmas.Bool.{eq-eqb}
use Rattle.std.proofs.lemmas.List.Folds.{list_any-append}
use Rattle.std.proofs.lemmas.Nat.{pow-add}
use lib.IntN.{ℤ, pos, ◌+ℤ◌, ◌-ℤ◌, ◌*ℤ◌, neg_ℤ}
use Rattle.wdf_algebra.specs.Truncation.{trunc}
use Rattle.wdf_algebra.specs.JunctionValues.{series_value, series_part, parallel_value, parallel_part, root_value}
use Rattle.wdf_algebra.proofs.Polynomials.{Ex, con, var, neg, ◌⊕◌, ◌⊖◌, ◌⊗◌}
use Rattle.wdf_algebra.proofs.Congruences.{congruence}
use Rattle.wdf_law.specs.declared.kind.Kind.TheVariants.{Res, Cap, Ind, Src}
use Rattle.wdf_law.specs.Trees.{AdaptorTree, leaf, series, parallel, LeafElement, elements_of}
use Rattle.wdf_law.specs.Network.{Network, unit_of, elements, has_leaf, has_reactance, has_kind, is_reactance}
use Rattle.wdf_law.specs.Solved.{ups, waves, solved}
use Rattle.wdf_law.specs.Step.{sent, sent_in}
use Rattle.wdf_law.specs.Laws.{AreExact, IsLossless}
use Rattle.wdf_residue.specs.Residue.{prime, residue}
use Rattle.wdf_check.specs.ResidueStep.{unit_inverse, mean, series_share, reflects, sends, next}
use Rattle.wdf_check.specs.Returning.{silent}

pub prime-pos : 0 < prime
prime-pos = omega arith

-- h is the inverse of q
abbrev pub IsUnitInverse : ℕ → ℤ → Type 0
IsUnitInverse q h = residue (pos q *ℤ h) ≡ residue (pos 1)

pub unit-inverse : (k : ℕ) → k ≤ 61 → IsUnitInverse (2 ^ k) (unit_inverse k)
unit-inverse k h =
    let whole : k + (61 - k) ≡ 61 = omega arith in
    let split : 2 ^ 61 ≡ 2 ^ k * 2 ^ (61 - k) = ap (λ (n : ℕ). 2 ^ n) (sym whole) ∙ pow-add 2 k (61 - k) in
    ap (λ (n : ℕ). n % prime) (sym split)

-- two states have the same residues at the reactances of a tree
abbrev pub Agree : (ℕ → ℤ) → (ℕ → ℤ) → AdaptorTree → Type 0
Agree x y t = (i : ℕ) → has_reactance (elements_of t) i ≡ true → residue (x i) ≡ residue (y i)

or-left : (a b : Bool) → a ≡ true → (a || b) ≡ true
or-left a b h = ap (λ (c : Bool). c || b) h

or-right : (a b : Bool) → b ≡ true → (a || b) ≡ true
or-right true b h = refl
or-right false b h = h

abbrev reacts : ℕ → LeafElement → Bool
reacts i x = (x.number == i) && is_reactance x.kind

pub agree-first : (x y : ℕ → ℤ) (l r : AdaptorTree) → ((i : ℕ) → has_kind is_reactance (elements_of l ++ elements_of r) i ≡ true → residue (x i) ≡ residue (y i)) → Agree x y l
agree-first x y l r h i e = h i (list_any-append (reacts i) (elements_of l) (elements_of r) ∙ or-left (has_reactance (elements_of l) i) (has_reactance (elements_of r) i) e)

pub agree-second : (x y : ℕ → ℤ) (l r : AdaptorTree) → ((i : ℕ) → has_kind is_reactance (elements_of l ++ elements_of r) i ≡ true → residue (x i) ≡ residue (y i)) → Agree x y r
agree-second x y l r h i e = h i (list_any-append (reacts i) (elements_of l) (elements_of r) ∙ or-right (has_reactance (elements_of l) i) (has_reactance (elements_of r) i) e)

-- ---- one junction: u1, u2 and d are the waves before truncation, v1, v2 and e those of the residue step

-- the variables of a junction's equations, in the order of their values below; what an equation has not is 0
abbrev Q : Ex
Q = var 0

abbrev H : Ex
H = var 1

abbrev M : Ex
M = var 2

abbrev N : Ex
N = var 3

abbrev U1 : Ex
U1 = var 4

abbrev U2 : Ex
U2 = var 5

abbrev D : Ex
D = var 6

abbrev U : Ex
U = var 7

abbrev V1 : Ex
V1 = var 8

abbrev V2 : Ex
V2 = var 9

abbrev E : Ex
E = var 10

abbrev V : Ex
V = var 11

abbrev T : Ex
T = var 12

share-exact : (q : ℕ) (h : ℤ) (m : ℕ) (u1 u2 d u v1 v2 e v t : ℤ) → IsUnitInverse q h → pos q *ℤ t ≡ series_part q m u1 u2 d u
    → residue u1 ≡ residue v1 → residue u2 ≡ residue v2 → residue d ≡ residue e → residue u ≡ residue v
    → residue t ≡ residue (series_share h m v1 v2 e v)
share-exact q h m u1 u2 d u v1 v2 e v t inverse exact s1 s2 sd su =
    congruence prime (pos q ∷ h ∷ pos m ∷ pos 0 ∷ u1 ∷ u2 ∷ d ∷ u ∷ v1 ∷ v2 ∷ e ∷ v ∷ t ∷ [])
    T (V ⊕ M ⊗ (E ⊖ V1 ⊖ V2) ⊗ H)
    (record { by = H; left = Q ⊗ T; right = Q ⊗ U ⊕ M ⊗ (D ⊖ (U1 ⊕ U2)) }
    ∷ record { by = U ⊖ T; left = Q ⊗ H; right = con (pos 1) }
    ∷ record { by = con (pos 1); left = U; right = V }
    ∷ record { by = con (pos 0) ⊖ H ⊗ M; left = U1; right = V1 }
    ∷ record { by = con (pos 0) ⊖ H ⊗ M; left = U2; right = V2 }
    ∷ record { by = H ⊗ M; left = D; right = E }
    ∷ [])
    prime-pos (ap residue exact, (inverse, (su, (s1, (s2, (sd, tt)))))) refl

sum-exact : (q : ℕ) (h u1 u2 v1 v2 t : ℤ) → IsUnitInverse q h → pos q *ℤ t ≡ series_value q u1 u2 → residue u1 ≡ residue v1 → residue u2 ≡ residue v2
    → residue t ≡ residue (v1 +ℤ v2)
sum-exact q h u1 u2 v1 v2 t inverse exact s1 s2 =
    congruence prime (pos q ∷ h ∷ pos 0 ∷ pos 0 ∷ u1 ∷ u2 ∷ pos 0 ∷ pos 0 ∷ v1 ∷ v2 ∷ pos 0 ∷ pos 0 ∷ t ∷ []) T (V1 ⊕ V2)
    (record { by = H; left = Q ⊗ T; right = Q ⊗ (U1 ⊕ U2) }
    ∷ record { by = U1 ⊕ U2 ⊖ T; left = Q ⊗ H; right = con (pos 1) }
    ∷ record { by = con (pos 1); left = U1; right = V1 }
    ∷ record { by = con (pos 1); left = U2; right = V2 }
    ∷ [])
    prime-pos (ap residue exact, (inverse, (s1, (s2, tt)))) refl

mean-exact : (q : ℕ) (h : ℤ) (m : ℕ) (u1 u2 v1 v2 t : ℤ) → IsUnitInverse q h → pos q *ℤ t ≡ parallel_value m (q - m) u1 u2 → residue u1 ≡ residue v1 → residue u2 ≡ residue v2
    → residue t ≡ residue (mean q h m v1 v2)
mean-exact q h m u1 u2 v1 v2 t inverse exact s1 s2 =
    congruence prime (pos q ∷ h ∷ pos m ∷ pos (q - m) ∷ u1 ∷ u2 ∷ pos 0 ∷ pos 0 ∷ v1 ∷ v2 ∷ pos 0 ∷ pos 0 ∷ t ∷ []) T ((M ⊗ V1 ⊕ N ⊗ V2) ⊗ H)
    (record { by = H; left = Q ⊗ T; right = M ⊗ U1 ⊕ N ⊗ U2 }
    ∷ record { by = con (pos 0) ⊖ T; left = Q ⊗ H; right = con (pos 1) }
    ∷ record { by = H ⊗ M; left = U1; right = V1 }
    ∷ record { by = H ⊗ N; left = U2; right = V2 }
    ∷ [])
    prime-pos (ap residue exact, (inverse, (s1, (s2, tt)))) refl

part-exact : (q : ℕ) (h : ℤ) (m : ℕ) (u1 u2 d u v1 v2 e v t : ℤ) → IsUnitInverse q h → pos q *ℤ t ≡ parallel_part q m (q - m) u1 u2 d u
    → residue u1 ≡ residue v1 → residue u2 ≡ residue v2 → residue d ≡ residue e → residue u ≡ residue v
    → residue t ≡ residue (e +ℤ mean q h m v1 v2 -ℤ v)
part-exact q h m u1 u2 d u v1 v2 e v t inverse exact s1 s2 sd su =
    congruence prime (pos q ∷ h ∷ pos m ∷ pos (q - m) ∷ u1 ∷ u2 ∷ d ∷ u ∷ v1 ∷ v2 ∷ e ∷ v ∷ t ∷ [])
    T (E ⊕ (M ⊗ V1 ⊕ N ⊗ V2) ⊗ H ⊖ V)
    (record { by = H; left = Q ⊗ T; right = Q ⊗ D ⊕ (M ⊗ U1 ⊕ N ⊗ U2) ⊖ Q ⊗ U }
    ∷ record { by = D ⊖ U ⊖ T; left = Q ⊗ H; right = con (pos 1) }
    ∷ record { by = con (pos 1); left = D; right = E }
    ∷ record { by = con (pos 0) ⊖ con (pos 1); left = U; right = V }
    ∷ record { by = H ⊗ M; left = U1; right = V1 }
    ∷ record { by = H ⊗ N; left = U2; right = V2 }
    ∷ [])
    prime-pos (ap residue exact, (inverse, (sd, (su, (s1, (s2, tt)))))) refl

root-exact : (q : ℕ) (h : ℤ) (m : ℕ) (u1 u2 u v1 v2 v t : ℤ) → IsUnitInverse q h → pos q *ℤ t ≡ root_value q m (q - m) u1 u2 u
    → residue u1 ≡ residue v1 → residue u2 ≡ residue v2 → residue u ≡ residue v
    → residue t ≡ residue (pos 2 *ℤ mean q h m v1 v2 -ℤ v)
root-exact q h m u1 u2 u v1 v2 v t inverse exact s1 s2 su =
    let two = con (pos 2) in
    congruence prime (pos q ∷ h ∷ pos m ∷ pos (q - m) ∷ u1 ∷ u2 ∷ pos 0 ∷ u ∷ v1 ∷ v2 ∷ pos 0 ∷ v ∷ t ∷ [])
    T (two ⊗ ((M ⊗ V1 ⊕ N ⊗ V2) ⊗ H) ⊖ V)
    (record { by = H; left = Q ⊗ T; right = two ⊗ (M ⊗ U1 ⊕ N ⊗ U2) ⊖ Q ⊗ U }
    ∷ record { by = con (pos 0) ⊖ T ⊖ U; left = Q ⊗ H; right = con (pos 1) }
    ∷ record { by = con (pos 0) ⊖ con (pos 1); left = U; right = V }
    ∷ record { by = two ⊗ H ⊗ M; left = U1; right = V1 }
    ∷ record { by = two ⊗ H ⊗ N; left = U2; right = V2 }
    ∷ [])
    prime-pos (ap residue exact, (inverse, (su, (s1, (s2, tt))))) refl

-- ---- a tree

pub negated : (a b : ℤ) → residue a ≡ residue b → residue (neg_ℤ a) ≡ residue (neg_ℤ b)
negated a b same =
    congruence prime (a ∷ b ∷ []) (neg (var 0)) (neg (var 1)) (record { by = con (pos 0) ⊖ con (pos 1); left = var 0; right = var 1 } ∷ []) prime-pos (same, tt) refl

pub ups-exact : (q : ℕ) (h : ℤ) (x y : ℕ → ℤ) (t : AdaptorTree) (d : ℤ) → IsUnitInverse q h → Agree x y t → AreExact q (waves q x silent t d)
    → residue (ups q x silent t) ≡ residue (reflects q h y t)
ups-exact q h x y (leaf i Res flip) d inverse agree exact = refl
ups-exact q h x y (leaf i Src flip) d inverse agree exact = refl
ups-exact q h x y (leaf i Cap flip) d inverse agree exact = agree i (ap (λ (b : Bool). (b && true) || false) (eq-eqb i i refl))
ups-exact q h x y (leaf i Ind flip) d inverse agree exact =
    negated (x i) (y i) (agree i (ap (λ (b : Bool). (b && true) || false) (eq-eqb i i refl)))
ups-exact q h x y (series m l r) d inverse agree exact =
    sum-exact q h (ups q x silent l) (ups q x silent r) (reflects q h y l) (reflects q h y r) (trunc (series_value q (ups q x silent l) (ups q x silent r)) q) inverse exact.2
    (ups-exact q h x y l (trunc (series_part q m (ups q x silent l) (ups q x silent r) d (ups q x silent l)) q) inverse (agree-first x y l r agree) exact.3)
    (ups-exact q h x y r (trunc (series_part q (q - m) (ups q x silent l) (ups q x silent r) d (ups q x silent r)) q) inverse (agree-second x y l r agree) exact.4)
ups-exact q h x y (parallel m l r) d inverse agree exact =
    mean-exact q h m (ups q x silent l) (ups q x silent r) (reflects q h y l) (reflects q h y r) (trunc (parallel_value m (q - m) (ups q x silent l) (ups q x silent r)) q) inverse exact.2
    (ups-exact q h x y l (trunc (parallel_part q m (q - m) (ups q x silent l) (ups q x silent r) d (ups q x silent l)) q) inverse (agree-first x y l r agree) exact.3)
    (ups-exact q h x y r (trunc (parallel_part q m (q - m) (ups q x silent l) (ups q x silent r) d (ups q x silent r)) q) inverse (agree-second x y l r agree) exact.4)

-- one of two waves, as the number's place has it
pub either-same : (b : Bool) (v1 v2 w1 w2 : ℤ) → residue v1 ≡ residue w1 → residue v2 ≡ residue w2 → residue (if b then v1 else v2) ≡ residue (if b then w1 else w2)
either-same true v1 v2 w1 w2 first second = first
either-same false v1 v2 w1 w2 first second = second

pub sent-exact : (q : ℕ) (h : ℤ) (x y : ℕ → ℤ) (t : AdaptorTree) (d e : ℤ) (i : ℕ) → IsUnitInverse q h → Agree x y t → AreExact q (waves q x silent t d)
    → residue d ≡ residue e → residue (sent t (waves q x silent t d) i) ≡ residue (sends q h y t e i)
sent-exact q h x y (leaf j k flip) d e i inverse agree exact same = either-same (j == i) d (pos 0) e (pos 0) same refl
sent-exact q h x y (series m l r) d e i inverse agree exact same =
    let a1 = ups q x silent l in
    let a2 = ups q x silent r in
    let b1 = reflects q h y l in
    let b2 = reflects q h y r in
    let d1 = trunc (series_part q m (ups q x silent l) (ups q x silent r) d (ups q x silent l)) q in
    let d2 = trunc (series_part q (q - m) (ups q x silent l) (ups q x silent r) d (ups q x silent r)) q in
    let u1 = ups-exact q h x y l d1 inverse (agree-first x y l r agree) exact.3 in
    let u2 = ups-exact q h x y r d2 inverse (agree-second x y l r agree) exact.4 in
    either-same (has_leaf l i) (sent l (waves q x silent l d1) i) (sent r (waves q x silent r d2) i)
    (sends q h y l (series_share h m b1 b2 e b1) i) (sends q h y r (series_share h (q - m) b1 b2 e b2) i)
    (sent-exact q h x y l d1 (series_share h m b1 b2 e b1) i inverse (agree-first x y l r agree) exact.3
    (share-exact q h m a1 a2 d a1 b1 b2 e b1 d1 inverse exact.0 u1 u2 same u1))
    (sent-exact q h x y r d2 (series_share h (q - m) b1 b2 e b2) i inverse (agree-second x y l r agree) exact.4
    (share-exact q h (q - m) a1 a2 d a2 b1 b2 e b2 d2 inverse exact.1 u1 u2 same u2))
sent-exact q h x y (parallel m l r) d e i inverse agree exact same =
    let a1 = ups q x silent l in
    let a2 = ups q x silent r in
    let b1 = reflects q h y l in
    let b2 = reflects q h y r in
    let d1 = trunc (parallel_part q m (q - m) (ups q x silent l) (ups q x silent r) d (ups q x silent l)) q in
    let d2 = trunc (parallel_part q m (q - m) (ups q x silent l) (ups q x silent r) d (ups q x silent r)) q in
    let u1 = ups-exact q h x y l d1 inverse (agree-first x y l r agree) exact.3 in
    let u2 = ups-exact q h x y r d2 inverse (agree-second x y l r agree) exact.4 in
    either-same (has_leaf l i) (sent l (waves q x silent l d1) i) (sent r (waves q x silent r d2) i)
    (sends q h y l (e +ℤ mean q h m b1 b2 -ℤ b1) i) (sends q h y r (e +ℤ mean q h m b1 b2 -ℤ b2) i)
    (sent-exact q h x y l d1 (e +ℤ mean q h m b1 b2 -ℤ b1) i inverse (agree-first x y l r agree) exact.3
    (part-exact q h m a1 a2 d a1 b1 b2 e b1 d1 inverse exact.0 u1 u2 same u1))
    (sent-exact q h x y r d2 (e +ℤ mean q h m b1 b2 -ℤ b2) i inverse (agree-second x y l r agree) exact.4
    (part-exact q h m a1 a2 d a2 b1 b2 e b2 d2 inverse exact.1 u1 u2 same u2))

-- ---- a network

pub next-exact : (n : Network) (x y : ℕ → ℤ) (i : ℕ) → n.k ≤ 61 → ((j : ℕ) → has_reactance (elements n) j ≡ true → residue (x j) ≡ residue (y j))
    → IsLossless n (solved n x silent) → residue (sent_in n (solved n x silent) i) ≡ residue (next n y i)
next-exact n x y i few agree exact =
    let q = unit_of n in
    let h = unit_inverse n.k in
    let m = n.m in
    let inverse = unit-inverse n.k few in
    let a1 = ups q x silent n.left in
    let a2 = ups q x silent n.right in
    let b1 = reflects q h y n.left in
    let b2 = reflects q h y n.right in
    let d1 = trunc (root_value q m (q - m) a1 a2 a1) q in
    let d2 = trunc (root_value q m (q - m) a1 a2 a2) q in
    let first = agree-first x y n.left n.right agree in
    let second = agree-second x y n.left n.right agree in
    let u1 = ups-exact q h x y n.left d1 inverse first exact.left in
    let u2 = ups-exact q h x y n.right d2 inverse second exact.right in
    either-same (has_leaf n.left i) (sent n.left (waves q x silent n.left d1) i) (sent n.right (waves q x silent n.right d2) i)
    (sends q h y n.left (pos 2 *ℤ mean q h m b1 b2 -ℤ b1) i) (sends q h y n.right (pos 2 *ℤ mean q h m b1 b2 -ℤ b2) i)
    (sent-exact q h x y n.left d1 (pos 2 *ℤ mean q h m b1 b2 -ℤ b1) i inverse first exact.left (root-exact q h m a1 a2 a1 b1 b2 b1 d1 inverse exact.first u1 u2 u1))
    (sent-exact q h x y n.right d2 (pos 2 *ℤ mean q h m b1 b2 -ℤ b2) i inverse second exact.right (root-exact q h m a1 a2 a2 b1 b2 b2 d2 inverse exact.second u1 u2 u2))
