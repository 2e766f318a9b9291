-- What the residue step's code computes, number by number.
use Rattle.std.proofs.Common.{◌≡◌, ℕ, ◌+◌, ◌-◌, ◌*◌, ◌%◌, ◌^◌, ◌<◌, ◌≤◌, Bool, true, false, ◌||◌, ◌==◌, if◌then◌else◌, [], ◌∷◌, ◌++◌, refl, sym, ap, ◌∙◌, arith}
use Rattle.std.specs.List.{list_any}
use Rattle.std.proofs.Math.Nat.{pow-le-pow_right}
use Rattle.std.proofs.lemmas.Nat.{one_shl}
use Rattle.std.proofs.lemmas.List.Folds.{list_any-append}
use lib.IntN.{ℤ, pos, ◌+ℤ◌, ◌-ℤ◌, ◌*ℤ◌}
use Rattle.wdf_algebra.proofs.Polynomials.{con, var, ◌⊕◌, ◌⊖◌, ◌⊗◌}
use Rattle.wdf_algebra.proofs.Congruences.{congruence, residue-residue}
use Rattle.wdf_law.specs.Trees.{AdaptorTree, series, parallel, LeafElement, elements_of}
use Rattle.wdf_law.specs.Network.{has_leaf}
use Rattle.wdf_residue.specs.Residue.{prime, residue}
use Rattle.wdf_check.specs.ResidueStep.{mean, series_share, reflects, sends}
use Rattle.wdf_check.proofs.ExactSteps.{prime-pos, Agree}
use Rattle.wdf_check.proofs.SameSteps.{sum-same, difference-same, mean-same, share-same, sends-same}

-- 1 << (61 - k)
pub shift_fits : (k : ℕ) → 1 ≤ k → 1 * 2 ^ (61 - k) % 2 ^ 64 ≡ 2 ^ (61 - k)
shift_fits k h = one_shl (61 - k) 64 (omega arith)

pub shift_below : (k : ℕ) → 1 ≤ k → 2 ^ (61 - k) < prime
shift_below k h =
    let two : 0 < 2 = omega arith in
    let less : 61 - k ≤ 60 = omega arith in
    let most : 2 ^ (61 - k) ≤ 2 ^ 60 = pow-le-pow_right two less in
    omega arith

pub ruleset shifted = (shift_fits, shift_below)

-- a number below P that is a residue
of : (a : ℕ) (z : ℤ) → a ≡ residue z → residue (pos a) ≡ residue z
of a z e = ap (λ (n : ℕ). residue (pos n)) e ∙ residue-residue prime z prime-pos

pub mean_code : (q m u1 u2 h t1 t2 w r : ℕ) → t1 ≡ (m * u1) % prime → t2 ≡ ((q - m) * u2) % prime → w ≡ (t1 + t2) % prime → r ≡ (w * h) % prime
    → r ≡ residue (mean q (pos h) m (pos u1) (pos u2))
mean_code q m u1 u2 h t1 t2 w r e1 e2 ew er =
    let T1 = var 0 in
    let T2 = var 1 in
    let W = var 2 in
    let H = var 3 in
    let A = var 4 in
    let B = var 5 in
    er ∙ congruence prime (pos t1 ∷ pos t2 ∷ pos w ∷ pos h ∷ pos (m * u1) ∷ pos ((q - m) * u2) ∷ []) (W ⊗ H) ((A ⊕ B) ⊗ H)
    (record { by = H; left = W; right = T1 ⊕ T2 } ∷ record { by = H; left = T1; right = A } ∷ record { by = H; left = T2; right = B } ∷ []) prime-pos
    (of w (pos (t1 + t2)) ew, (of t1 (pos (m * u1)) e1, (of t2 (pos ((q - m) * u2)) e2, tt))) refl

pub share_code : (h m u1 u2 d u x1 x2 s t r : ℕ) → x1 ≡ residue (pos d -ℤ pos u1) → x2 ≡ residue (pos x1 -ℤ pos u2) → s ≡ (m * x2) % prime
    → t ≡ (s * h) % prime → r ≡ (u + t) % prime → r ≡ residue (series_share (pos h) m (pos u1) (pos u2) (pos d) (pos u))
share_code h m u1 u2 d u x1 x2 s t r e1 e2 es et er =
    let H = var 0 in
    let M = var 1 in
    let U1 = var 2 in
    let U2 = var 3 in
    let D = var 4 in
    let U = var 5 in
    let X1 = var 6 in
    let X2 = var 7 in
    let S = var 8 in
    let T = var 9 in
    er ∙ congruence prime (pos h ∷ pos m ∷ pos u1 ∷ pos u2 ∷ pos d ∷ pos u ∷ pos x1 ∷ pos x2 ∷ pos s ∷ pos t ∷ [])
    (U ⊕ T) (U ⊕ M ⊗ (D ⊖ U1 ⊖ U2) ⊗ H)
    (record { by = con (pos 1); left = T; right = S ⊗ H }
    ∷ record { by = H; left = S; right = M ⊗ X2 }
    ∷ record { by = M ⊗ H; left = X2; right = X1 ⊖ U2 }
    ∷ record { by = M ⊗ H; left = X1; right = D ⊖ U1 }
    ∷ []) prime-pos
    (of t (pos (s * h)) et, (of s (pos (m * x2)) es, (of x2 (pos x1 -ℤ pos u2) e2, (of x1 (pos d -ℤ pos u1) e1, tt)))) refl

-- ---- up

pub sum_code : (x y : ℤ) (a b r : ℕ) → a ≡ residue x → b ≡ residue y → r ≡ (a + b) % prime → r ≡ residue (x +ℤ y)
sum_code x y a b r e1 e2 er = er ∙ sum-same (pos a) (pos b) x y (of a x e1) (of b y e2)

pub mean_of : (q : ℕ) (h : ℤ) (m : ℕ) (x y : ℤ) (a b r : ℕ) → a ≡ residue x → b ≡ residue y → r ≡ residue (mean q h m (pos a) (pos b)) → r ≡ residue (mean q h m x y)
mean_of q h m x y a b r e1 e2 er = er ∙ mean-same q h m (pos a) (pos b) x y (of a x e1) (of b y e2)

pub ruleset climbing = (sum_code, mean_of)

-- ---- down

same_state : (x : ℕ → ℤ) (t : AdaptorTree) → Agree x x t
same_state x t i e = refl

-- what was written for the second part and then for the first
either_of : (a b : Bool) (first second old s1 s2 first' second' : ℕ) → s1 ≡ (if b then second else old) → s2 ≡ (if a then first else s1) → first ≡ first' → second ≡ second'
    → s2 ≡ (if (a || b) then (if a then first' else second') else old)
either_of true b first second old s1 s2 first' second' e1 e2 p q = e2 ∙ p
either_of false true first second old s1 s2 first' second' e1 e2 p q = e2 ∙ (e1 ∙ q)
either_of false false first second old s1 s2 first' second' e1 e2 p q = e2 ∙ e1

pushed_if : (a : Bool) (f : ℤ → ℕ) (x y : ℤ) → (if a then f x else f y) ≡ f (if a then x else y)
pushed_if true f x y = refl
pushed_if false f x y = refl

-- the leaves of two parts
leaf_either : (l r : AdaptorTree) (i : ℕ) → list_any (λ (x : LeafElement). x.number == i) (elements_of l ++ elements_of r) ≡ (has_leaf l i || has_leaf r i)
leaf_either l r i = list_any-append (λ (x : LeafElement). x.number == i) (elements_of l) (elements_of r)

joined_writes : (l r : AdaptorTree) (i first second old s1 s2 : ℕ) (x y : ℤ)
    → s1 ≡ (if has_leaf r i then second else old) → s2 ≡ (if has_leaf l i then first else s1) → first ≡ residue x → second ≡ residue y
    → s2 ≡ (if list_any (λ (x : LeafElement). x.number == i) (elements_of l ++ elements_of r) then residue (if has_leaf l i then x else y) else old)
joined_writes l r i first second old s1 s2 x y e1 e2 p q =
    either_of (has_leaf l i) (has_leaf r i) first second old s1 s2 (residue x) (residue y) e1 e2 p q
    ∙ ((λ j. if sym (leaf_either l r i) j then pushed_if (has_leaf l i) residue x y j else old))

pub descend_series : (q : ℕ) (h : ℤ) (x : ℕ → ℤ) (m : ℕ) (l r : AdaptorTree) (u1 u2 d first second i old s1 s2 : ℕ)
    → u1 ≡ residue (reflects q h x l) → u2 ≡ residue (reflects q h x r)
    → first ≡ residue (series_share h m (pos u1) (pos u2) (pos d) (pos u1)) → second ≡ residue (series_share h (q - m) (pos u1) (pos u2) (pos d) (pos u2))
    → s1 ≡ (if has_leaf r i then residue (sends q h x r (pos second) i) else old)
    → s2 ≡ (if has_leaf l i then residue (sends q h x l (pos first) i) else s1)
    → s2 ≡ (if has_leaf (series m l r) i then residue (sends q h x (series m l r) (pos d) i) else old)
descend_series q h x m l r u1 u2 d first second i old s1 s2 e1 e2 ef es w1 w2 =
    let a1 = reflects q h x l in
    let a2 = reflects q h x r in
    let p1 = of u1 (reflects q h x l) e1 in
    let p2 = of u2 (reflects q h x r) e2 in
    let sf = of first (series_share h m (pos u1) (pos u2) (pos d) (pos u1)) ef ∙ share-same h m (pos u1) (pos u2) (pos d) (pos u1) a1 a2 (pos d) a1 p1 p2 refl p1 in
    let ss = of second (series_share h (q - m) (pos u1) (pos u2) (pos d) (pos u2)) es ∙ share-same h (q - m) (pos u1) (pos u2) (pos d) (pos u2) a1 a2 (pos d) a2 p1 p2 refl p2 in
    joined_writes l r i (residue (sends q h x l (pos first) i)) (residue (sends q h x r (pos second) i)) old s1 s2
    (sends q h x l (series_share h m a1 a2 (pos d) a1) i) (sends q h x r (series_share h (q - m) a1 a2 (pos d) a2) i) w1 w2
    (sends-same q h x x l (pos first) (series_share h m a1 a2 (pos d) a1) i (same_state x l) sf)
    (sends-same q h x x r (pos second) (series_share h (q - m) a1 a2 (pos d) a2) i (same_state x r) ss)

pub descend_parallel : (q : ℕ) (h : ℤ) (x : ℕ → ℤ) (m : ℕ) (l r : AdaptorTree) (u1 u2 d u whole first second i old s1 s2 : ℕ)
    → u1 ≡ residue (reflects q h x l) → u2 ≡ residue (reflects q h x r)
    → u ≡ residue (mean q h m (pos u1) (pos u2)) → whole ≡ (d + u) % prime → first ≡ residue (pos whole -ℤ pos u1) → second ≡ residue (pos whole -ℤ pos u2)
    → s1 ≡ (if has_leaf r i then residue (sends q h x r (pos second) i) else old)
    → s2 ≡ (if has_leaf l i then residue (sends q h x l (pos first) i) else s1)
    → s2 ≡ (if has_leaf (parallel m l r) i then residue (sends q h x (parallel m l r) (pos d) i) else old)
descend_parallel q h x m l r u1 u2 d u whole first second i old s1 s2 e1 e2 eu ew ef es w1 w2 =
    let a1 = reflects q h x l in
    let a2 = reflects q h x r in
    let v = mean q h m (reflects q h x l) (reflects q h x r) in
    let p1 = of u1 (reflects q h x l) e1 in
    let p2 = of u2 (reflects q h x r) e2 in
    let pu = of u (mean q h m (pos u1) (pos u2)) eu ∙ mean-same q h m (pos u1) (pos u2) a1 a2 p1 p2 in
    let pw = of whole (pos (d + u)) ew ∙ sum-same (pos d) (pos u) (pos d) v refl pu in
    let sf = of first (pos whole -ℤ pos u1) ef ∙ difference-same (pos whole) (pos u1) (pos d +ℤ v) a1 pw p1 in
    let ss = of second (pos whole -ℤ pos u2) es ∙ difference-same (pos whole) (pos u2) (pos d +ℤ v) a2 pw p2 in
    joined_writes l r i (residue (sends q h x l (pos first) i)) (residue (sends q h x r (pos second) i)) old s1 s2
    (sends q h x l (pos d +ℤ v -ℤ a1) i) (sends q h x r (pos d +ℤ v -ℤ a2) i) w1 w2
    (sends-same q h x x l (pos first) (pos d +ℤ v -ℤ a1) i (same_state x l) sf)
    (sends-same q h x x r (pos second) (pos d +ℤ v -ℤ a2) i (same_state x r) ss)

-- at the root, where each number is one of a leaf
pub step_writes : (q : ℕ) (h : ℤ) (x : ℕ → ℤ) (m : ℕ) (l r : AdaptorTree) (u1 u2 u twice first second i old s1 s2 : ℕ)
    → u1 ≡ residue (reflects q h x l) → u2 ≡ residue (reflects q h x r)
    → u ≡ residue (mean q h m (pos u1) (pos u2)) → twice ≡ (u + u) % prime → first ≡ residue (pos twice -ℤ pos u1) → second ≡ residue (pos twice -ℤ pos u2)
    → s1 ≡ (if has_leaf r i then residue (sends q h x r (pos second) i) else old)
    → s2 ≡ (if has_leaf l i then residue (sends q h x l (pos first) i) else s1)
    → list_any (λ (x : LeafElement). x.number == i) (elements_of l ++ elements_of r) ≡ true
    → s2 ≡ residue (if has_leaf l i then sends q h x l (pos 2 *ℤ mean q h m (reflects q h x l) (reflects q h x r) -ℤ reflects q h x l) i
    else sends q h x r (pos 2 *ℤ mean q h m (reflects q h x l) (reflects q h x r) -ℤ reflects q h x r) i)
step_writes q h x m l r u1 u2 u twice first second i old s1 s2 e1 e2 eu et ef es w1 w2 there =
    let a1 = reflects q h x l in
    let a2 = reflects q h x r in
    let v = mean q h m (reflects q h x l) (reflects q h x r) in
    let p1 = of u1 (reflects q h x l) e1 in
    let p2 = of u2 (reflects q h x r) e2 in
    let pu = of u (mean q h m (pos u1) (pos u2)) eu ∙ mean-same q h m (pos u1) (pos u2) a1 a2 p1 p2 in
    let U = var 0 in
    let V = var 1 in
    let pt = of twice (pos (u + u)) et
    ∙ congruence prime (pos u ∷ v ∷ []) (U ⊕ U) (con (pos 2) ⊗ V) (record { by = con (pos 2); left = U; right = V } ∷ []) prime-pos (pu, tt) refl in
    let sf = of first (pos twice -ℤ pos u1) ef ∙ difference-same (pos twice) (pos u1) (pos 2 *ℤ v) a1 pt p1 in
    let ss = of second (pos twice -ℤ pos u2) es ∙ difference-same (pos twice) (pos u2) (pos 2 *ℤ v) a2 pt p2 in
    joined_writes l r i (residue (sends q h x l (pos first) i)) (residue (sends q h x r (pos second) i)) old s1 s2
    (sends q h x l (pos 2 *ℤ v -ℤ a1) i) (sends q h x r (pos 2 *ℤ v -ℤ a2) i) w1 w2
    (sends-same q h x x l (pos first) (pos 2 *ℤ v -ℤ a1) i (same_state x l) sf)
    (sends-same q h x x r (pos second) (pos 2 *ℤ v -ℤ a2) i (same_state x r) ss)
    ∙ ap (λ (b : Bool). if b then residue (if has_leaf l i then sends q h x l (pos 2 *ℤ v -ℤ a1) i else sends q h x r (pos 2 *ℤ v -ℤ a2) i) else old) there
