-- The quotient by the mask of the sign.
use Rattle.std.proofs.Common.{◌≡◌, ℕ, zero, suc, ◌+◌, ◌-◌, ◌*◌, ◌/◌, ◌%◌, ◌^◌, if◌then◌else◌, ◌<◌, ◌≤◌, Bool, true, false, refl, sym, ap, ◌∙◌, arith}
use Rattle.std.proofs.Math.Nat.{div-eq_of_lt, add-mul-div_right, add-mul-mod_self_left, mod-eq_of_lt, zero-mod}
use Rattle.std.proofs.lemmas.Nat.{pow_pos, pow_below, pow-add, and_mask}
use Rattle.std.specs.Prelude.{unsigned_abs, int_lt}
use Rattle.std.specs.Int.Bits.{bit_and}
use mir.Syntax.{w64}
use mir.Val.{of_z, to_z}
use mir.Facts.{to_z_pos}
use mathlib.Core.Logic.{◌⊎◌, inl, inr}
use Rattle.std.proofs.lemmas.Bool.{cases_lt}
use lib.IntN.{ℤ, pos, negsuc, ◌+ℤ◌, neg_ℤ}
use lib.Signed.{shr_z}
use borrow.Author.Differences.{lt-true, same_in, sum_is_lem}
use Rattle.wdf_algebra.specs.Truncation.{trunc}

-- q - 1 more than a negative number, rounded down
pub mask-truncates : (q a : ℕ) → 0 < q → shr_z (negsuc a +ℤ pos (q - 1)) q ≡ trunc (negsuc a) q
mask-truncates q a h = by_size q a h (cases_lt (suc a) q)
  where
    by_size : (q a : ℕ) → 0 < q → (suc a < q) ⊎ (q ≤ suc a) → shr_z (negsuc a +ℤ pos (q - 1)) q ≡ trunc (negsuc a) q
    by_size q a h (inl less) =
        let sum : negsuc a +ℤ pos (q - 1) ≡ pos (q - 1 - suc a) = same_in _ _ (omega (arith, sum_is_lem (negsuc a) (pos (q - 1)))) in
        let none : (q - 1 - suc a) / q ≡ 0 = div-eq_of_lt (omega arith) in
        let nothing : suc a / q ≡ 0 = div-eq_of_lt less in
        ap (λ (z : ℤ). shr_z z q) sum ∙ ap pos none ∙ sym (ap (λ (n : ℕ). neg_ℤ (pos n)) nothing)
    by_size q a h (inr most) =
        let sum : negsuc a +ℤ pos (q - 1) ≡ negsuc (suc a - q) = same_in _ _ (omega (arith, sum_is_lem (negsuc a) (pos (q - 1)))) in
        let whole : suc a ≡ (suc a - q) + 1 * q = omega arith in
        let quotient : suc a / q ≡ suc ((suc a - q) / q) = ap (λ (n : ℕ). n / q) whole ∙ (add-mul-div_right (suc a - q) 1 h ∙ omega arith) in
        ap (λ (z : ℤ). shr_z z q) sum ∙ sym (ap (λ (n : ℕ). neg_ℤ (pos n)) quotient)

-- a natural number is not below 0
not_below : (a : ℕ) → int_lt (pos a) (pos 0) ≡ false
not_below a = at a (int_lt (pos a) (pos 0)) refl
  where
    at : (a : ℕ) (t : Bool) → int_lt (pos a) (pos 0) ≡ t → t ≡ false
    at a true e = absurd (omega (arith, lt-true (pos a) (pos 0) e))
    at a false e = refl

not_masked : (n a : ℕ) → (if int_lt (pos a) (pos 0) then pos n else pos 0) ≡ pos 0
not_masked n a = ap (λ (t : Bool). if t then pos n else pos 0) (not_below a)

less-one : (p r : ℕ) → 0 < r → p * (r - 1) + p ≡ p * r
less-one p zero h = absurd (omega arith)
less-one p (suc r) h = let e : suc r - 1 ≡ r = omega arith in rw e (omega arith)

-- the mask's bits of a number whose bits are all set
pub ones-mask : (k : ℕ) → k ≤ 20 → bit_and (2 ^ 64 - 1) (2 ^ k - 1) ≡ 2 ^ k - 1
ones-mask k h =
    let some = pow_pos k in
    let above = pow_pos (64 - k) in
    let at : k + (64 - k) ≡ 64 = omega arith in
    let both : 2 ^ 64 ≡ 2 ^ k * 2 ^ (64 - k) = sym (ap (λ (m : ℕ). 2 ^ m) at) ∙ pow-add 2 k (64 - k) in
    let less = less-one (2 ^ k) (2 ^ (64 - k)) above in
    let sum : 2 ^ 64 - 1 ≡ (2 ^ k - 1) + 2 ^ k * (2 ^ (64 - k) - 1) = omega arith in
    and_mask (2 ^ 64 - 1) k ∙ (ap (λ (n : ℕ). n % 2 ^ k) sum ∙ (add-mul-mod_self_left (2 ^ k - 1) (2 ^ k) (2 ^ (64 - k) - 1) ∙ mod-eq_of_lt (omega arith)))

-- the sign's bits within the mask
pub signs-masked : (k : ℕ) (x : ℤ) → k ≤ 20 → unsigned_abs x ≤ 2 ^ 62
    → to_z w64 (bit_and (of_z w64 (shr_z x (2 ^ 63))) (2 ^ k - 1)) ≡ (if int_lt x (pos 0) then pos (2 ^ k - 1) else pos 0)
signs-masked k (pos a) h s =
    let none : a / 2 ^ 63 ≡ 0 = div-eq_of_lt (omega arith) in
    ap (λ (n : ℕ). to_z w64 (bit_and (of_z w64 (pos n)) (2 ^ k - 1))) none ∙ (ap (to_z w64) (and_mask 0 k ∙ zero-mod (2 ^ k)) ∙ sym (not_masked (2 ^ k - 1) a))
signs-masked k (negsuc a) h s =
    let none : a / 2 ^ 63 ≡ 0 = div-eq_of_lt (omega arith) in
    let few = pow_below k 63 (omega arith) in
    ap (λ (n : ℕ). to_z w64 (bit_and (of_z w64 (negsuc n)) (2 ^ k - 1))) none ∙ (ap (to_z w64) (ones-mask k h) ∙ to_z_pos w64 {n = 2 ^ k - 1} (omega arith))

-- the whole quotient
pub masked-truncates : (q : ℕ) (x : ℤ) → 0 < q → shr_z (x +ℤ (if int_lt x (pos 0) then pos (q - 1) else pos 0)) q ≡ trunc x q
masked-truncates q (pos a) h = let e : a + 0 ≡ a = omega arith in ap (λ (z : ℤ). shr_z (pos a +ℤ z) q) (not_masked (q - 1) a) ∙ ap (λ (n : ℕ). pos (n / q)) e
masked-truncates q (negsuc a) h = mask-truncates q a h
