-- States with the same residues at the reactances have residue steps with the same residues.
use Rattle.std.proofs.Common.{◌≡◌, ℕ, ◌-◌, Bool, true, false, ◌&&◌, ◌||◌, ◌==◌, [], ◌∷◌, refl, ap}
use Rattle.std.proofs.lemmas.Bool.{eq-eqb}
use lib.IntN.{ℤ, pos, ◌+ℤ◌, ◌-ℤ◌, ◌*ℤ◌}
use Rattle.wdf_algebra.proofs.Polynomials.{con, var, ◌⊕◌, ◌⊖◌, ◌⊗◌}
use Rattle.wdf_algebra.proofs.Congruences.{congruence}
use Rattle.wdf_law.specs.declared.kind.Kind.TheVariants.{Res, Cap, Ind, Src}
use Rattle.wdf_law.specs.Trees.{AdaptorTree, leaf, series, parallel}
use Rattle.wdf_law.specs.Network.{Network, unit_of, elements, has_leaf, has_reactance}
use Rattle.wdf_residue.specs.Residue.{prime, residue}
use Rattle.wdf_check.specs.ResidueStep.{unit_inverse, mean, series_share, reflects, sends, next}
use Rattle.wdf_check.proofs.ExactSteps.{prime-pos, Agree, agree-first, agree-second, negated, either-same}

pub sum-same : (a b c d : ℤ) → residue a ≡ residue c → residue b ≡ residue d → residue (a +ℤ b) ≡ residue (c +ℤ d)
sum-same a b c d s t =
    let A = var 0 in
    let B = var 1 in
    let C = var 2 in
    let D = var 3 in
    congruence prime (a ∷ b ∷ c ∷ d ∷ []) (A ⊕ B) (C ⊕ D)
    (record { by = con (pos 1); left = A; right = C } ∷ record { by = con (pos 1); left = B; right = D } ∷ []) prime-pos (s, (t, tt)) refl

pub difference-same : (a b c d : ℤ) → residue a ≡ residue c → residue b ≡ residue d → residue (a -ℤ b) ≡ residue (c -ℤ d)
difference-same a b c d s t =
    let A = var 0 in
    let B = var 1 in
    let C = var 2 in
    let D = var 3 in
    congruence prime (a ∷ b ∷ c ∷ d ∷ []) (A ⊖ B) (C ⊖ D)
    (record { by = con (pos 1); left = A; right = C } ∷ record { by = con (pos 0) ⊖ con (pos 1); left = B; right = D } ∷ []) prime-pos (s, (t, tt)) refl

pub product-same : (a b c d : ℤ) → residue a ≡ residue c → residue b ≡ residue d → residue (a *ℤ b) ≡ residue (c *ℤ d)
product-same a b c d s t =
    let A = var 0 in
    let B = var 1 in
    let C = var 2 in
    let D = var 3 in
    congruence prime (a ∷ b ∷ c ∷ d ∷ []) (A ⊗ B) (C ⊗ D)
    (record { by = B; left = A; right = C } ∷ record { by = C; left = B; right = D } ∷ []) prime-pos (s, (t, tt)) refl

pub mean-same : (q : ℕ) (h : ℤ) (m : ℕ) (u1 u2 v1 v2 : ℤ) → residue u1 ≡ residue v1 → residue u2 ≡ residue v2 → residue (mean q h m u1 u2) ≡ residue (mean q h m v1 v2)
mean-same q h m u1 u2 v1 v2 s1 s2 =
    product-same (pos m *ℤ u1 +ℤ pos (q - m) *ℤ u2) h (pos m *ℤ v1 +ℤ pos (q - m) *ℤ v2) h
    (sum-same (pos m *ℤ u1) (pos (q - m) *ℤ u2) (pos m *ℤ v1) (pos (q - m) *ℤ v2)
    (product-same (pos m) u1 (pos m) v1 refl s1) (product-same (pos (q - m)) u2 (pos (q - m)) v2 refl s2)) refl

pub share-same : (h : ℤ) (m : ℕ) (u1 u2 d u v1 v2 e v : ℤ) → residue u1 ≡ residue v1 → residue u2 ≡ residue v2 → residue d ≡ residue e → residue u ≡ residue v
    → residue (series_share h m u1 u2 d u) ≡ residue (series_share h m v1 v2 e v)
share-same h m u1 u2 d u v1 v2 e v s1 s2 sd su =
    sum-same u (pos m *ℤ (d -ℤ u1 -ℤ u2) *ℤ h) v (pos m *ℤ (e -ℤ v1 -ℤ v2) *ℤ h) su
    (product-same (pos m *ℤ (d -ℤ u1 -ℤ u2)) h (pos m *ℤ (e -ℤ v1 -ℤ v2)) h
    (product-same (pos m) (d -ℤ u1 -ℤ u2) (pos m) (e -ℤ v1 -ℤ v2) refl
    (difference-same (d -ℤ u1) u2 (e -ℤ v1) v2 (difference-same d u1 e v1 sd s1) s2)) refl)

pub part-same : (u d w v e z : ℤ) → residue d ≡ residue e → residue u ≡ residue v → residue w ≡ residue z → residue (d +ℤ u -ℤ w) ≡ residue (e +ℤ v -ℤ z)
part-same u d w v e z sd su sw = difference-same (d +ℤ u) w (e +ℤ v) z (sum-same d u e v sd su) sw

pub root-same : (u w v z : ℤ) → residue u ≡ residue v → residue w ≡ residue z → residue (pos 2 *ℤ u -ℤ w) ≡ residue (pos 2 *ℤ v -ℤ z)
root-same u w v z su sw = difference-same (pos 2 *ℤ u) w (pos 2 *ℤ v) z (product-same (pos 2) u (pos 2) v refl su) sw

pub reflects-same : (q : ℕ) (h : ℤ) (x y : ℕ → ℤ) (t : AdaptorTree) → Agree x y t → residue (reflects q h x t) ≡ residue (reflects q h y t)
reflects-same q h x y (leaf i Res flip) agree = refl
reflects-same q h x y (leaf i Src flip) agree = refl
reflects-same q h x y (leaf i Cap flip) agree = agree i (ap (λ (b : Bool). (b && true) || false) (eq-eqb i i refl))
reflects-same q h x y (leaf i Ind flip) agree = negated (x i) (y i) (agree i (ap (λ (b : Bool). (b && true) || false) (eq-eqb i i refl)))
reflects-same q h x y (series m l r) agree =
    sum-same (reflects q h x l) (reflects q h x r) (reflects q h y l) (reflects q h y r)
    (reflects-same q h x y l (agree-first x y l r agree)) (reflects-same q h x y r (agree-second x y l r agree))
reflects-same q h x y (parallel m l r) agree =
    mean-same q h m (reflects q h x l) (reflects q h x r) (reflects q h y l) (reflects q h y r)
    (reflects-same q h x y l (agree-first x y l r agree)) (reflects-same q h x y r (agree-second x y l r agree))

pub sends-same : (q : ℕ) (h : ℤ) (x y : ℕ → ℤ) (t : AdaptorTree) (d e : ℤ) (i : ℕ) → Agree x y t → residue d ≡ residue e → residue (sends q h x t d i) ≡ residue (sends q h y t e i)
sends-same q h x y (leaf j k flip) d e i agree same = either-same (j == i) d (pos 0) e (pos 0) same refl
sends-same q h x y (series m l r) d e i agree same =
    let a1 = reflects q h x l in
    let a2 = reflects q h x r in
    let b1 = reflects q h y l in
    let b2 = reflects q h y r in
    let u1 = reflects-same q h x y l (agree-first x y l r agree) in
    let u2 = reflects-same q h x y r (agree-second x y l r agree) in
    either-same (has_leaf l i) (sends q h x l (series_share h m a1 a2 d a1) i) (sends q h x r (series_share h (q - m) a1 a2 d a2) i)
    (sends q h y l (series_share h m b1 b2 e b1) i) (sends q h y r (series_share h (q - m) b1 b2 e b2) i)
    (sends-same q h x y l (series_share h m a1 a2 d a1) (series_share h m b1 b2 e b1) i (agree-first x y l r agree) (share-same h m a1 a2 d a1 b1 b2 e b1 u1 u2 same u1))
    (sends-same q h x y r (series_share h (q - m) a1 a2 d a2) (series_share h (q - m) b1 b2 e b2) i (agree-second x y l r agree) (share-same h (q - m) a1 a2 d a2 b1 b2 e b2 u1 u2 same u2))
sends-same q h x y (parallel m l r) d e i agree same =
    let a1 = reflects q h x l in
    let a2 = reflects q h x r in
    let b1 = reflects q h y l in
    let b2 = reflects q h y r in
    let u1 = reflects-same q h x y l (agree-first x y l r agree) in
    let u2 = reflects-same q h x y r (agree-second x y l r agree) in
    let u = mean-same q h m a1 a2 b1 b2 u1 u2 in
    either-same (has_leaf l i) (sends q h x l (d +ℤ mean q h m a1 a2 -ℤ a1) i) (sends q h x r (d +ℤ mean q h m a1 a2 -ℤ a2) i)
    (sends q h y l (e +ℤ mean q h m b1 b2 -ℤ b1) i) (sends q h y r (e +ℤ mean q h m b1 b2 -ℤ b2) i)
    (sends-same q h x y l (d +ℤ mean q h m a1 a2 -ℤ a1) (e +ℤ mean q h m b1 b2 -ℤ b1) i (agree-first x y l r agree) (part-same (mean q h m a1 a2) d a1 (mean q h m b1 b2) e b1 same u u1))
    (sends-same q h x y r (d +ℤ mean q h m a1 a2 -ℤ a2) (e +ℤ mean q h m b1 b2 -ℤ b2) i (agree-second x y l r agree) (part-same (mean q h m a1 a2) d a2 (mean q h m b1 b2) e b2 same u u2))

pub next-same : (n : Network) (x y : ℕ → ℤ) (i : ℕ) → ((j : ℕ) → has_reactance (elements n) j ≡ true → residue (x j) ≡ residue (y j)) → residue (next n x i) ≡ residue (next n y i)
next-same n x y i agree =
    let q = unit_of n in
    let h = unit_inverse n.k in
    let m = n.m in
    let a1 = reflects q h x n.left in
    let a2 = reflects q h x n.right in
    let b1 = reflects q h y n.left in
    let b2 = reflects q h y n.right in
    let first = agree-first x y n.left n.right agree in
    let second = agree-second x y n.left n.right agree in
    let u1 = reflects-same q h x y n.left first in
    let u2 = reflects-same q h x y n.right second in
    let u = mean-same q h m a1 a2 b1 b2 u1 u2 in
    either-same (has_leaf n.left i) (sends q h x n.left (pos 2 *ℤ mean q h m a1 a2 -ℤ a1) i) (sends q h x n.right (pos 2 *ℤ mean q h m a1 a2 -ℤ a2) i)
    (sends q h y n.left (pos 2 *ℤ mean q h m b1 b2 -ℤ b1) i) (sends q h y n.right (pos 2 *ℤ mean q h m b1 b2 -ℤ b2) i)
    (sends-same q h x y n.left (pos 2 *ℤ mean q h m a1 a2 -ℤ a1) (pos 2 *ℤ mean q h m b1 b2 -ℤ b1) i first (root-same (mean q h m a1 a2) a1 (mean q h m b1 b2) b1 u u1))
    (sends-same q h x y n.right (pos 2 *ℤ mean q h m a1 a2 -ℤ a2) (pos 2 *ℤ mean q h m b1 b2 -ℤ b2) i second (root-same (mean q h m a1 a2) a2 (mean q h m b1 b2) b2 u u2))
