-- The residue step is linear: what it makes of c·x + y is c times what it makes of x, and what it makes of y.
use Rattle.std.proofs.Common.{◌≡◌, ℕ, zero, suc, ◌-◌, Bool, true, false, ◌==◌, if◌then◌else◌, [], ◌∷◌, refl, ap, ◌∙◌, arith}
use lib.IntN.{ℤ, pos, ◌+ℤ◌, ◌-ℤ◌, ◌*ℤ◌, *ℤ_comm}
use Rattle.wdf_algebra.proofs.RingLaws.{linear, one-mul, zero-mul}
use Rattle.wdf_algebra.proofs.Polynomials.{con, var, neg, ◌⊕◌, ◌⊖◌, ◌⊗◌, ring}
use Rattle.wdf_law.specs.declared.kind.Kind.{Kind}
use Rattle.wdf_law.specs.declared.kind.Kind.TheVariants.{Res, Cap, Ind, Src}
use Rattle.wdf_law.specs.Trees.{AdaptorTree, leaf, series, parallel}
use Rattle.wdf_law.specs.Network.{Network, unit_of, has_leaf}
use Rattle.wdf_law.specs.Solved.{reflected}
use Rattle.wdf_check.specs.ResidueStep.{unit_inverse, mean, series_share, reflects, sends, next, steps}

-- c·a + b, and of states c·x + y
abbrev pub join : ℤ → ℤ → ℤ → ℤ
join c a b = c *ℤ a +ℤ b

abbrev pub joined : ℤ → (ℕ → ℤ) → (ℕ → ℤ) → ℕ → ℤ
joined c x y i = join c (x i) (y i)

join-zero : (c : ℤ) → pos 0 ≡ join c (pos 0) (pos 0)
join-zero c = let e = *ℤ_comm c (pos 0) ∙ zero-mul c in omega (arith, linear)

reflected-join : (c : ℤ) (k : Kind) (flip : Bool) (x y : ℤ) → reflected k flip (join c x y) (pos 0) ≡ join c (reflected k flip x (pos 0)) (reflected k flip y (pos 0))
reflected-join c Res flip x y = join-zero c
reflected-join c Src true x y = join-zero c
reflected-join c Src false x y = join-zero c
reflected-join c Cap flip x y = refl
reflected-join c Ind flip x y =
    let C = var 0 in
    let X = var 1 in
    let Y = var 2 in
    ring (c ∷ x ∷ y ∷ []) (neg (C ⊗ X ⊕ Y)) (C ⊗ neg X ⊕ neg Y) refl

mean-join : (q : ℕ) (h : ℤ) (m : ℕ) (c a1 a2 b1 b2 : ℤ) → mean q h m (join c a1 b1) (join c a2 b2) ≡ join c (mean q h m a1 a2) (mean q h m b1 b2)
mean-join q h m c a1 a2 b1 b2 =
    let M = var 0 in
    let N = var 1 in
    let H = var 2 in
    let C = var 3 in
    let A1 = var 4 in
    let A2 = var 5 in
    let B1 = var 6 in
    let B2 = var 7 in
    ring (pos m ∷ pos (q - m) ∷ h ∷ c ∷ a1 ∷ a2 ∷ b1 ∷ b2 ∷ [])
    ((M ⊗ (C ⊗ A1 ⊕ B1) ⊕ N ⊗ (C ⊗ A2 ⊕ B2)) ⊗ H) (C ⊗ ((M ⊗ A1 ⊕ N ⊗ A2) ⊗ H) ⊕ (M ⊗ B1 ⊕ N ⊗ B2) ⊗ H) refl

share-join : (h : ℤ) (m : ℕ) (c a1 a2 d1 v1 b1 b2 d2 v2 : ℤ)
    → series_share h m (join c a1 b1) (join c a2 b2) (join c d1 d2) (join c v1 v2) ≡ join c (series_share h m a1 a2 d1 v1) (series_share h m b1 b2 d2 v2)
share-join h m c a1 a2 d1 v1 b1 b2 d2 v2 =
    let M = var 0 in
    let H = var 1 in
    let C = var 2 in
    let A1 = var 3 in
    let A2 = var 4 in
    let Down1 = var 5 in
    let V1 = var 6 in
    let B1 = var 7 in
    let B2 = var 8 in
    let Down2 = var 9 in
    let V2 = var 10 in
    ring (pos m ∷ h ∷ c ∷ a1 ∷ a2 ∷ d1 ∷ v1 ∷ b1 ∷ b2 ∷ d2 ∷ v2 ∷ [])
    ((C ⊗ V1 ⊕ V2) ⊕ M ⊗ ((C ⊗ Down1 ⊕ Down2) ⊖ (C ⊗ A1 ⊕ B1) ⊖ (C ⊗ A2 ⊕ B2)) ⊗ H)
    (C ⊗ (V1 ⊕ M ⊗ (Down1 ⊖ A1 ⊖ A2) ⊗ H) ⊕ (V2 ⊕ M ⊗ (Down2 ⊖ B1 ⊖ B2) ⊗ H)) refl

part-join : (c d1 u1 v1 d2 u2 v2 : ℤ) → join c d1 d2 +ℤ join c u1 u2 -ℤ join c v1 v2 ≡ join c (d1 +ℤ u1 -ℤ v1) (d2 +ℤ u2 -ℤ v2)
part-join c d1 u1 v1 d2 u2 v2 =
    let C = var 0 in
    let Down1 = var 1 in
    let U1 = var 2 in
    let V1 = var 3 in
    let Down2 = var 4 in
    let U2 = var 5 in
    let V2 = var 6 in
    ring (c ∷ d1 ∷ u1 ∷ v1 ∷ d2 ∷ u2 ∷ v2 ∷ [])
    ((C ⊗ Down1 ⊕ Down2) ⊕ (C ⊗ U1 ⊕ U2) ⊖ (C ⊗ V1 ⊕ V2)) (C ⊗ (Down1 ⊕ U1 ⊖ V1) ⊕ (Down2 ⊕ U2 ⊖ V2)) refl

root-join : (c u1 v1 u2 v2 : ℤ) → pos 2 *ℤ join c u1 u2 -ℤ join c v1 v2 ≡ join c (pos 2 *ℤ u1 -ℤ v1) (pos 2 *ℤ u2 -ℤ v2)
root-join c u1 v1 u2 v2 =
    let C = var 0 in
    let U1 = var 1 in
    let V1 = var 2 in
    let U2 = var 3 in
    let V2 = var 4 in
    ring (c ∷ u1 ∷ v1 ∷ u2 ∷ v2 ∷ [])
    (con (pos 2) ⊗ (C ⊗ U1 ⊕ U2) ⊖ (C ⊗ V1 ⊕ V2)) (C ⊗ (con (pos 2) ⊗ U1 ⊖ V1) ⊕ (con (pos 2) ⊗ U2 ⊖ V2)) refl

pub reflects-join : (q : ℕ) (h c : ℤ) (x y : ℕ → ℤ) (t : AdaptorTree) → reflects q h (joined c x y) t ≡ join c (reflects q h x t) (reflects q h y t)
reflects-join q h c x y (leaf i k flip) = reflected-join c k flip (x i) (y i)
reflects-join q h c x y (series m l r) =
    let C = var 0 in
    let A1 = var 1 in
    let A2 = var 2 in
    let B1 = var 3 in
    let B2 = var 4 in
    (λ j. reflects-join q h c x y l j +ℤ reflects-join q h c x y r j)
    ∙ ring (c ∷ reflects q h x l ∷ reflects q h x r ∷ reflects q h y l ∷ reflects q h y r ∷ []) ((C ⊗ A1 ⊕ B1) ⊕ (C ⊗ A2 ⊕ B2)) (C ⊗ (A1 ⊕ A2) ⊕ (B1 ⊕ B2)) refl
reflects-join q h c x y (parallel m l r) =
    (λ j. mean q h m (reflects-join q h c x y l j) (reflects-join q h c x y r j))
    ∙ mean-join q h m c (reflects q h x l) (reflects q h x r) (reflects q h y l) (reflects q h y r)

-- one of two waves, as the number's place has it
either-join : (b : Bool) (c z1 z2 v1 v2 w1 w2 : ℤ) → z1 ≡ join c v1 w1 → z2 ≡ join c v2 w2 → (if b then z1 else z2) ≡ join c (if b then v1 else v2) (if b then w1 else w2)
either-join true c z1 z2 v1 v2 w1 w2 first second = first
either-join false c z1 z2 v1 v2 w1 w2 first second = second

pub sends-join : (q : ℕ) (h c : ℤ) (x y : ℕ → ℤ) (t : AdaptorTree) (d e : ℤ) (i : ℕ)
    → sends q h (joined c x y) t (join c d e) i ≡ join c (sends q h x t d i) (sends q h y t e i)
sends-join q h c x y (leaf j k flip) d e i = either-join (j == i) c (join c d e) (pos 0) d (pos 0) e (pos 0) refl (join-zero c)
sends-join q h c x y (series m l r) d e i =
    let a1 = reflects q h x l in
    let a2 = reflects q h x r in
    let b1 = reflects q h y l in
    let b2 = reflects q h y r in
    let u1 = reflects-join q h c x y l in
    let u2 = reflects-join q h c x y r in
    either-join (has_leaf l i) c
    (sends q h (joined c x y) l (series_share h m (reflects q h (joined c x y) l) (reflects q h (joined c x y) r) (join c d e) (reflects q h (joined c x y) l)) i)
    (sends q h (joined c x y) r (series_share h (q - m) (reflects q h (joined c x y) l) (reflects q h (joined c x y) r) (join c d e) (reflects q h (joined c x y) r)) i)
    (sends q h x l (series_share h m a1 a2 d a1) i) (sends q h x r (series_share h (q - m) a1 a2 d a2) i)
    (sends q h y l (series_share h m b1 b2 e b1) i) (sends q h y r (series_share h (q - m) b1 b2 e b2) i)
    (ap (λ (v : ℤ). sends q h (joined c x y) l v i) ((λ j. series_share h m (u1 j) (u2 j) (join c d e) (u1 j)) ∙ share-join h m c a1 a2 d a1 b1 b2 e b1)
    ∙ sends-join q h c x y l (series_share h m a1 a2 d a1) (series_share h m b1 b2 e b1) i)
    (ap (λ (v : ℤ). sends q h (joined c x y) r v i) ((λ j. series_share h (q - m) (u1 j) (u2 j) (join c d e) (u2 j)) ∙ share-join h (q - m) c a1 a2 d a2 b1 b2 e b2)
    ∙ sends-join q h c x y r (series_share h (q - m) a1 a2 d a2) (series_share h (q - m) b1 b2 e b2) i)
sends-join q h c x y (parallel m l r) d e i =
    let a1 = reflects q h x l in
    let a2 = reflects q h x r in
    let b1 = reflects q h y l in
    let b2 = reflects q h y r in
    let u1 = reflects-join q h c x y l in
    let u2 = reflects-join q h c x y r in
    let u : mean q h m (reflects q h (joined c x y) l) (reflects q h (joined c x y) r) ≡ join c (mean q h m a1 a2) (mean q h m b1 b2) =
    (λ j. mean q h m (u1 j) (u2 j)) ∙ mean-join q h m c a1 a2 b1 b2 in
    either-join (has_leaf l i) c
    (sends q h (joined c x y) l (join c d e +ℤ mean q h m (reflects q h (joined c x y) l) (reflects q h (joined c x y) r) -ℤ reflects q h (joined c x y) l) i)
    (sends q h (joined c x y) r (join c d e +ℤ mean q h m (reflects q h (joined c x y) l) (reflects q h (joined c x y) r) -ℤ reflects q h (joined c x y) r) i)
    (sends q h x l (d +ℤ mean q h m a1 a2 -ℤ a1) i) (sends q h x r (d +ℤ mean q h m a1 a2 -ℤ a2) i)
    (sends q h y l (e +ℤ mean q h m b1 b2 -ℤ b1) i) (sends q h y r (e +ℤ mean q h m b1 b2 -ℤ b2) i)
    (ap (λ (v : ℤ). sends q h (joined c x y) l v i) ((λ j. join c d e +ℤ u j -ℤ u1 j) ∙ part-join c d (mean q h m a1 a2) a1 e (mean q h m b1 b2) b1)
    ∙ sends-join q h c x y l (d +ℤ mean q h m a1 a2 -ℤ a1) (e +ℤ mean q h m b1 b2 -ℤ b1) i)
    (ap (λ (v : ℤ). sends q h (joined c x y) r v i) ((λ j. join c d e +ℤ u j -ℤ u2 j) ∙ part-join c d (mean q h m a1 a2) a2 e (mean q h m b1 b2) b2)
    ∙ sends-join q h c x y r (d +ℤ mean q h m a1 a2 -ℤ a2) (e +ℤ mean q h m b1 b2 -ℤ b2) i)

pub next-join : (n : Network) (c : ℤ) (x y : ℕ → ℤ) (i : ℕ) → next n (joined c x y) i ≡ join c (next n x i) (next n y i)
next-join n c x y i =
    let q = unit_of n in
    let h = unit_inverse n.k in
    let m = n.m in
    let a1 = reflects q h x n.left in
    let a2 = reflects q h x n.right in
    let b1 = reflects q h y n.left in
    let b2 = reflects q h y n.right in
    let u1 = reflects-join q h c x y n.left in
    let u2 = reflects-join q h c x y n.right in
    let u : mean q h m (reflects q h (joined c x y) n.left) (reflects q h (joined c x y) n.right) ≡ join c (mean q h m a1 a2) (mean q h m b1 b2) =
    (λ j. mean q h m (u1 j) (u2 j)) ∙ mean-join q h m c a1 a2 b1 b2 in
    either-join (has_leaf n.left i) c
    (sends q h (joined c x y) n.left (pos 2 *ℤ mean q h m (reflects q h (joined c x y) n.left) (reflects q h (joined c x y) n.right) -ℤ reflects q h (joined c x y) n.left) i)
    (sends q h (joined c x y) n.right (pos 2 *ℤ mean q h m (reflects q h (joined c x y) n.left) (reflects q h (joined c x y) n.right) -ℤ reflects q h (joined c x y) n.right) i)
    (sends q h x n.left (pos 2 *ℤ mean q h m a1 a2 -ℤ a1) i) (sends q h x n.right (pos 2 *ℤ mean q h m a1 a2 -ℤ a2) i)
    (sends q h y n.left (pos 2 *ℤ mean q h m b1 b2 -ℤ b1) i) (sends q h y n.right (pos 2 *ℤ mean q h m b1 b2 -ℤ b2) i)
    (ap (λ (v : ℤ). sends q h (joined c x y) n.left v i) ((λ j. pos 2 *ℤ u j -ℤ u1 j) ∙ root-join c (mean q h m a1 a2) a1 (mean q h m b1 b2) b1)
    ∙ sends-join q h c x y n.left (pos 2 *ℤ mean q h m a1 a2 -ℤ a1) (pos 2 *ℤ mean q h m b1 b2 -ℤ b1) i)
    (ap (λ (v : ℤ). sends q h (joined c x y) n.right v i) ((λ j. pos 2 *ℤ u j -ℤ u2 j) ∙ root-join c (mean q h m a1 a2) a2 (mean q h m b1 b2) b2)
    ∙ sends-join q h c x y n.right (pos 2 *ℤ mean q h m a1 a2 -ℤ a2) (pos 2 *ℤ mean q h m b1 b2 -ℤ b2) i)

pub steps-join : (n : Network) (t : ℕ) (c : ℤ) (x y : ℕ → ℤ) (i : ℕ) → steps n t (joined c x y) i ≡ join c (steps n t x i) (steps n t y i)
steps-join n zero c x y i = refl
steps-join n (suc t) c x y i =
    ap (λ (z : ℕ → ℤ). next n z i) (λ j k. steps-join n t c x y k j) ∙ next-join n c (steps n t x) (steps n t y) i

-- from rest all stays 0
pub steps-rest : (n : Network) (t i : ℕ) → steps n t (λ k. pos 0) i ≡ pos 0
steps-rest n t i =
    let twice = steps-join n t (pos 1) (λ k. pos 0) (λ k. pos 0) i in
    let once = one-mul (steps n t (λ k. pos 0) i) in
    omega (arith, linear)

-- a step more, at either end
pub steps-next : (n : Network) (t : ℕ) (x : ℕ → ℤ) → steps n t (next n x) ≡ next n (steps n t x)
steps-next n zero x = refl
steps-next n (suc t) x = ap (next n) (steps-next n t x)
