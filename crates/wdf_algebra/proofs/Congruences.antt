-- Equality modulo p: two whole numbers have one residue exactly where they differ by a multiple of p. Linear
-- combinations of such equations hold modulo p too.
use Rattle.std.proofs.Common.{◌≡◌, ℕ, zero, suc, ◌+◌, ◌*◌, ◌/◌, ◌%◌, ◌<◌, true, List, [], ◌∷◌, refl, sym, ap, ◌∙◌, arith}
use Rattle.std.proofs.Math.Nat.{mod-lt, mod-add-div, mod-eq_of_lt}
use Rattle.std.specs.Prelude.{unsigned_abs}
use lib.IntN.{ℤ, pos, negsuc, ◌+ℤ◌, ◌-ℤ◌, ◌*ℤ◌}
use borrow.Author.Differences.{ints, same_in, product_is}
use Rattle.wdf_algebra.proofs.RingLaws.{linear}
use Rattle.wdf_algebra.proofs.Polynomials.{Ex, con, var, ◌⊕◌, ◌⊖◌, ◌⊗◌, eval, norm, vanishes, ring}
use Rattle.wdf_algebra.proofs.LinearCombinations.{Fact, combined, linear_combination}
use Rattle.wdf_algebra.specs.Residues.{residue_by}

-- x is y and a multiple of p
pub record Differs (p : ℕ) (x y : ℤ) : Type 0 where
  pub times : ℤ
  pub is : x ≡ y +ℤ pos p *ℤ times

pub residue-lt : (p : ℕ) (z : ℤ) → 0 < p → residue_by p z < p
residue-lt p (pos n) some = mod-lt n some
residue-lt p (negsuc n) some = let r = mod-lt n some in omega arith

-- a number is its residue and a multiple of p
pub residue-differs : (p : ℕ) (z : ℤ) → 0 < p → Differs p z (pos (residue_by p z))
residue-differs p (pos n) some =
    let split : n % p + p * (n / p) ≡ n = mod-add-div n p in
    record { times = pos (n / p); is = ap pos (sym split) }
residue-differs p (negsuc n) some =
    let split : n % p + p * (n / p) ≡ n = mod-add-div n p in
    let small = mod-lt n some in
    record { times = negsuc (n / p); is = same_in _ _ (omega (arith, ints, product_is (pos p) (negsuc (n / p)))) }

-- residues that differ by a multiple of p are equal
below_one : (p a b : ℕ) (k : ℤ) → a < p → b < p → pos a ≡ pos b +ℤ pos p *ℤ k → a ≡ b
below_one p a b (pos zero) small smaller e =
    let whole : a ≡ b + p * 0 = ap unsigned_abs e in omega arith
below_one p a b (pos (suc k)) small smaller e =
    let whole : a ≡ b + p * suc k = ap unsigned_abs e in absurd (omega arith)
below_one p a b (negsuc k) small smaller e =
    let whole : a + p * suc k ≡ b = omega (arith, ints, product_is (pos p) (negsuc k)) in absurd (omega arith)

pub differs-same : (p : ℕ) (x y : ℤ) → 0 < p → Differs p x y → residue_by p x ≡ residue_by p y
differs-same p x y some d =
    let a = residue-differs p x some in
    let b = residue-differs p y some in
    let P = var 0 in
    let X = var 1 in
    let Y = var 2 in
    let K = var 3 in
    let RX = var 4 in
    let RY = var 5 in
    let KX = var 6 in
    let KY = var 7 in
    let e = linear_combination
    (pos p ∷ x ∷ y ∷ d.times ∷ pos (residue_by p x) ∷ pos (residue_by p y) ∷ a.times ∷ b.times ∷ [])
    RX (RY ⊕ P ⊗ (K ⊕ KY ⊖ KX))
    (record { by = con (pos 1); left = X; right = Y ⊕ P ⊗ K }
    ∷ record { by = con (negsuc 0); left = X; right = RX ⊕ P ⊗ KX }
    ∷ record { by = con (pos 1); left = Y; right = RY ⊕ P ⊗ KY }
    ∷ [])
    (d.is, (a.is, (b.is, tt)))
    refl in
    below_one p (residue_by p x) (residue_by p y) (d.times +ℤ b.times -ℤ a.times) (residue-lt p x some) (residue-lt p y some) e

pub same-differs : (p : ℕ) (x y : ℤ) → 0 < p → residue_by p x ≡ residue_by p y → Differs p x y
same-differs p x y some e =
    let a = residue-differs p x some in
    let b = residue-differs p y some in
    let P = var 0 in
    let X = var 1 in
    let Y = var 2 in
    let RX = var 3 in
    let RY = var 4 in
    let KX = var 5 in
    let KY = var 6 in
    record {
      times = a.times -ℤ b.times;
      is = linear_combination
          (pos p ∷ x ∷ y ∷ pos (residue_by p x) ∷ pos (residue_by p y) ∷ a.times ∷ b.times ∷ [])
          X (Y ⊕ P ⊗ (KX ⊖ KY))
          (record { by = con (pos 1); left = X; right = RX ⊕ P ⊗ KX }
          ∷ record { by = con (negsuc 0); left = Y; right = RY ⊕ P ⊗ KY }
          ∷ record { by = con (pos 1); left = RX; right = RY }
          ∷ [])
          (a.is, (b.is, (ap pos e, tt)))
          refl;
    }

-- every equation holds modulo p
abbrev pub HoldModulo : ℕ → List ℤ → List Fact → Type 0
HoldModulo p env [] = Unit {0}
HoldModulo p env (f ∷ fs) = (residue_by p (eval env f.left) ≡ residue_by p (eval env f.right)) × HoldModulo p env fs

combined-multiple : (p : ℕ) (env : List ℤ) (fs : List Fact) → 0 < p → HoldModulo p env fs → Differs p (eval env (combined fs)) (pos 0)
combined-multiple p env [] some h = record { times = pos 0; is = ap pos (omega arith) }
combined-multiple p env (f ∷ fs) some h =
    let a = same-differs p (eval env f.left) (eval env f.right) some h.0 in
    let b = combined-multiple p env fs some h.1 in
    let P = var 0 in
    let BY = var 1 in
    let L = var 2 in
    let R = var 3 in
    let M = var 4 in
    let KA = var 5 in
    let KB = var 6 in
    record {
      times = eval env f.by *ℤ a.times +ℤ b.times;
      is = linear_combination
          (pos p ∷ eval env f.by ∷ eval env f.left ∷ eval env f.right ∷ eval env (combined fs) ∷ a.times ∷ b.times ∷ [])
          (BY ⊗ (L ⊖ R) ⊕ M) (con (pos 0) ⊕ P ⊗ (BY ⊗ KA ⊕ KB))
          (record { by = BY; left = L; right = R ⊕ P ⊗ KA } ∷ record { by = con (pos 1); left = M; right = con (pos 0) ⊕ P ⊗ KB } ∷ [])
          (a.is, (b.is, tt))
          refl;
    }

-- l - r is the sum of the equations' differences, each times its factor, so l and r are equal modulo p
pub congruence : (p : ℕ) (env : List ℤ) (l r : Ex) (fs : List Fact) → 0 < p → HoldModulo p env fs
    → vanishes (norm (l ⊖ r ⊖ combined fs)) ≡ true → residue_by p (eval env l) ≡ residue_by p (eval env r)
congruence p env l r fs some h e =
    let whole : eval env l -ℤ eval env r ≡ eval env (combined fs) = ring env (l ⊖ r) (combined fs) e in
    let m = combined-multiple p env fs some h in
    let multiple = m.is in
    differs-same p (eval env l) (eval env r) some (record { times = m.times; is = omega (arith, linear) })

-- a number that is small and whose residue is 0 is 0
pub small-zero : (p : ℕ) (z : ℤ) → 0 < p → unsigned_abs z < p → residue_by p z ≡ 0 → z ≡ pos 0
small-zero p (pos n) some small e = ap pos (sym (mod-eq_of_lt small) ∙ e)
small-zero p (negsuc n) some small e =
    let less : n < p = omega arith in
    let same : n % p ≡ n = mod-eq_of_lt less in
    absurd (omega arith)

-- the residue of a residue
pub residue-below : (p n : ℕ) → n < p → residue_by p (pos n) ≡ n
residue-below p n small = mod-eq_of_lt small

-- what a residue stands for
pub residue-residue : (p : ℕ) (z : ℤ) → 0 < p → residue_by p (pos (residue_by p z)) ≡ residue_by p z
residue-residue p z some = mod-eq_of_lt (residue-lt p z some)
