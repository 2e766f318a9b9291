-- The quotient in a lane: its floor, and one more where the number is negative and not whole.
use Rattle.std.proofs.Common.{◌≡◌, ℕ, suc, ◌+◌, ◌-◌, ◌*◌, ◌/◌, ◌%◌, ◌^◌, ◌<◌, ◌≤◌, Bool, true, false, min, refl, sym, ap, ◌∙◌, arith, [], ◌∷◌, SFits, to_z, of_z, w64, pow_mono, unsigned_abs}
use Rattle.std.proofs.Math.Nat.{add-mul-mod_self_left, div-add-mod, div-eq_of_lt, mod-eq_of_lt, mod-lt, mul-add}
use Rattle.std.proofs.lemmas.Nat.{and_le_l, and_mask, pow-add, pow_pos}
use Rattle.std.proofs.lemmas.Nat.Bits.{bit_at_and}
use Rattle.std.specs.Int.{bit_at}
use Rattle.std.proofs.lemmas.Int.{ints, of_z-to_z, to_z-of_z}
use Rattle.std.proofs.lemmas.Bool.{cases_lt}
use Rattle.std.specs.Int.Bits.{bit_and}
use mathlib.Core.Logic.{◌⊎◌, inl, inr}
use lib.IntN.{ℤ, pos, negsuc, ◌+ℤ◌, ◌-ℤ◌, ◌*ℤ◌}
use lib.Signed.{shr_z, lt_z}
use borrow.Author.Differences.{lt-true, product_is, same_in, sum_is_lem}
use Rattle.wdf_algebra.specs.Roundings.{Rounds}
use Rattle.wdf_algebra.specs.Truncation.{trunc}
use Rattle.wdf_algebra.proofs.LinearCombinations.{linear_combination}
use Rattle.wdf_algebra.proofs.Polynomials.{con, var, ◌⊕◌, ◌⊖◌, ◌⊗◌}
use Rattle.wdf_algebra.proofs.RingLaws.{linear}
use Rattle.wdf_algebra.proofs.RoundingLemmas.{rounds-more, small-floor, truncates-down, truncates-up}
use Rattle.wdf_vector.proofs.LaneLemmas.{difference-bits, number-fits, sum-bits}

-- ---- a number that is rounded down, with what is over

exact : (q : ℕ) (z f : ℤ) → 0 < q → z ≡ pos q *ℤ f +ℤ pos 0 → Rounds q z f f
exact q z f h e = record {
  over = 0;
  down = e;
  over_less = h;
  under = 0;
  up = linear_combination (pos q ∷ z ∷ f ∷ [])
      (var 1 ⊕ con (pos 0)) (var 0 ⊗ var 2)
      (record { by = con (pos 1); left = var 1; right = var 0 ⊗ var 2 ⊕ con (pos 0) } ∷ []) (e, tt) refl;
  under_less = h;
}

between : (q : ℕ) (z f : ℤ) (r : ℕ) → 0 < r → r < q → z ≡ pos q *ℤ f +ℤ pos r → Rounds q z f (f +ℤ pos 1)
between q z f r h less e =
    let missing : pos (q - r) ≡ pos q -ℤ pos r = omega (arith, linear) in
    record {
      over = r;
      down = e;
      over_less = less;
      under = q - r;
      up = linear_combination (pos q ∷ z ∷ f ∷ pos r ∷ pos (q - r) ∷ [])
          (var 1 ⊕ var 4) (var 0 ⊗ (var 2 ⊕ con (pos 1)))
          (record { by = con (pos 1); left = var 1; right = var 0 ⊗ var 2 ⊕ var 3 } ∷ record { by = con (pos 1); left = var 4; right = var 0 ⊖ var 3 } ∷ []) (e, (missing, tt)) refl;
      under_less = omega arith;
    }

-- what is over are the low bits
low-bits : (k : ℕ) (z : ℤ) → k ≤ 20 → SFits w64 z → z ≡ pos (2 ^ k) *ℤ shr_z z (2 ^ k) +ℤ pos (of_z w64 z % 2 ^ k)
low-bits k (pos a) h f =
    let q = 2 ^ k in
    same_in _ _ (omega (arith, sum_is_lem (pos q *ℤ pos (a / q)) (pos (a % q)), product_is (pos q) (pos (a / q)), div-add-mod a q))
low-bits k (negsuc a) h f =
    let q = 2 ^ k in
    let p = 2 ^ (64 - k) in
    let some : 0 < q = pow_pos k in
    let part : a % q < q = mod-lt a some in
    let fits : suc a < 2 ^ 63 + 1 = let g : a < 2 ^ 63 = f.sfits in omega arith in
    let all : q * (a / q) + a % q ≡ a = div-add-mod a q in
    let at : k + (64 - k) ≡ 64 = omega arith in
    let both : 2 ^ 64 ≡ q * p = sym (ap (λ (m : ℕ). 2 ^ m) at) ∙ pow-add 2 k (64 - k) in
    let room : a / q < p = below q p (a / q) (omega arith) in
    let rest = p - 1 - a / q in
    let split : p ≡ rest + (1 + a / q) = omega arith in
    let parts : q * p ≡ q * rest + (q * 1 + q * (a / q)) = ap (λ (m : ℕ). q * m) split ∙ (mul-add q rest (1 + a / q) ∙ ap (λ (m : ℕ). q * rest + m) (mul-add q 1 (a / q))) in
    let bits : 2 ^ 64 - suc a ≡ (q - 1 - a % q) + q * rest = omega arith in
    let low : (2 ^ 64 - suc a) % q ≡ q - 1 - a % q = ap (λ (m : ℕ). m % q) bits ∙ (add-mul-mod_self_left (q - 1 - a % q) q rest ∙ mod-eq_of_lt (omega arith)) in
    same_in _ _ (omega (arith, sum_is_lem (pos q *ℤ negsuc (a / q)) (pos (q - 1 - a % q)), product_is (pos q) (negsuc (a / q)), div-add-mod a q))
    ∙ ap (λ (m : ℕ). pos q *ℤ negsuc (a / q) +ℤ pos m) (sym low)
  where
    -- a factor that is too large makes the product too large
    below : (q p d : ℕ) → q * d < q * p → d < p
    below q p d less = by_size q p d less (cases_lt d p)
      where
        by_size : (q p d : ℕ) → q * d < q * p → (d < p) ⊎ (p ≤ d) → d < p
        by_size q p d less (inl h) = h
        by_size q p d less (inr h) =
            let e : q * d ≡ q * p + q * (d - p) = ap (λ (m : ℕ). q * m) (let s : d ≡ p + (d - p) = omega arith in s) ∙ mul-add q p (d - p) in
            absurd (omega arith)

-- ---- a lane

-- the low bits, subtracted from 0
abbrev pub owed_lane : ℕ → ℤ → ℕ
owed_lane m z = (0 + (2 ^ 64 - bit_and (of_z w64 z) m)) % 2 ^ 64

abbrev pub floor_lane : ℕ → ℤ → ℤ → ℕ
floor_lane n w z = (of_z w64 w + of_z w64 (shr_z (to_z w64 (of_z w64 z)) (2 ^ n))) % 2 ^ 64

-- all ones where it is negative, within a mask
abbrev pub late_lane : ℕ → ℕ → ℕ
late_lane y r = of_z w64 (shr_z (to_z w64 (bit_and y r)) (2 ^ 63))

abbrev pub without_late : ℕ → ℕ → ℤ
without_late y r = to_z w64 ((y + (2 ^ 64 - late_lane y r)) % 2 ^ 64)

abbrev pub part_lane : ℕ → ℕ → ℤ → ℤ → ℤ
part_lane m n w z = without_late (floor_lane n w z) (owed_lane m z)

-- where nothing is over the floor is the quotient,
whole : (y : ℤ) → unsigned_abs y < 2 ^ 63 → without_late (of_z w64 y) 0 ≡ y
whole y h =
    let none : bit_and (of_z w64 y) 0 ≡ 0 = and_mask (of_z w64 y) 0 ∙ omega arith in
    ap (λ (b : ℕ). to_z w64 ((of_z w64 y + (2 ^ 64 - of_z w64 (shr_z (to_z w64 b) (2 ^ 63)))) % 2 ^ 64)) none
    ∙ (difference-bits y (pos 0) (omega arith) ∙ omega (arith, ints))

-- and else one more where it is negative
late-above : (a r : ℕ) → a < 2 ^ 63 → late_lane a r ≡ 0
late-above a r h =
    let least : bit_and a r ≤ a = and_le_l a r in
    let value : to_z w64 (bit_and a r) ≡ pos (bit_and a r) = to_z-of_z w64 (pos (bit_and a r)) (record { sfits = omega arith }) in
    let none : bit_and a r / 2 ^ 63 ≡ 0 = div-eq_of_lt (omega arith) in
    ap (λ (z : ℤ). of_z w64 (shr_z z (2 ^ 63))) value ∙ none

late-below : (a r : ℕ) → 2 ^ 63 ≤ a → a < 2 ^ 64 → 2 ^ 63 ≤ r → r < 2 ^ 64 → late_lane a r ≡ 2 ^ 64 - 1
late-below a r ha la hr lr =
    let b = bit_and a r in
    let least : b ≤ a = and_le_l a r in
    let first : a / 2 ^ 63 ≡ 1 = high-bit a ha la in
    let second : r / 2 ^ 63 ≡ 1 = high-bit r hr lr in
    let one : bit_at b 63 ≡ 1 = bit_at_and a r 63 ∙ ((λ i. min (first i % 2) (second i % 2))) in
    let high : 2 ^ 63 ≤ b = with-bit b one in
    let number : b ≡ of_z w64 (negsuc (2 ^ 64 - 1 - b)) = omega arith in
    let value : to_z w64 b ≡ negsuc (2 ^ 64 - 1 - b) = ap (to_z w64) number ∙ to_z-of_z w64 (negsuc (2 ^ 64 - 1 - b)) (record { sfits = omega arith }) in
    let none : (2 ^ 64 - 1 - b) / 2 ^ 63 ≡ 0 = div-eq_of_lt (omega arith) in
    ap (λ (z : ℤ). of_z w64 (shr_z z (2 ^ 63))) value ∙ ap (λ (n : ℕ). of_z w64 (negsuc n)) none
  where
    high-bit : (a : ℕ) → 2 ^ 63 ≤ a → a < 2 ^ 64 → a / 2 ^ 63 ≡ 1
    high-bit a h l =
        let some : 0 < 2 ^ 63 = omega arith in
        let rest : a % 2 ^ 63 < 2 ^ 63 = mod-lt a some in
        omega (arith, div-add-mod a (2 ^ 63))

    with-bit : (b : ℕ) → bit_at b 63 ≡ 1 → 2 ^ 63 ≤ b
    with-bit b e = by_size b e (cases_lt b (2 ^ 63))
      where
        by_size : (b : ℕ) → bit_at b 63 ≡ 1 → (b < 2 ^ 63) ⊎ (2 ^ 63 ≤ b) → 2 ^ 63 ≤ b
        by_size b e (inr h) = h
        by_size b e (inl h) =
            let none : b / 2 ^ 63 ≡ 0 = div-eq_of_lt h in
            let zero : bit_at b 63 ≡ 0 = ap (λ (n : ℕ). n % 2) none in
            absurd (omega arith)

abbrev raised : ℤ → ℤ
raised (pos a) = pos a
raised (negsuc a) = negsuc a +ℤ pos 1

broken : (y : ℤ) (r : ℕ) → unsigned_abs y < 2 ^ 63 - 1 → 2 ^ 63 ≤ r → r < 2 ^ 64 → without_late (of_z w64 y) r ≡ raised y
broken (pos a) r h high less =
    ap (λ (b : ℕ). to_z w64 ((a + (2 ^ 64 - b)) % 2 ^ 64)) (late-above a r (omega arith))
    ∙ (difference-bits (pos a) (pos 0) (omega arith) ∙ omega (arith, ints))
broken (negsuc a) r h high less =
    ap (λ (b : ℕ). to_z w64 ((of_z w64 (negsuc a) + (2 ^ 64 - b)) % 2 ^ 64)) (late-below (of_z w64 (negsuc a)) r (omega arith) (omega arith) high less)
    ∙ (difference-bits (negsuc a) (negsuc 0) (omega arith) ∙ omega (arith, ints))

-- what is rounded both ways to one number is truncated to it
one-way : (q : ℕ) (x y : ℤ) → Rounds q x y y → y ≡ trunc x q
one-way q x y r = by_sign (lt_z y (pos 0)) refl
  where
    by_sign : (t : Bool) → lt_z y (pos 0) ≡ t → y ≡ trunc x q
    by_sign true e = truncates-up q x y y e r
    by_sign false e = truncates-down q x y y e r

-- and else to one of two neighbours
two-ways : (q : ℕ) (x y c : ℤ) → c ≡ y +ℤ pos 1 → Rounds q x y c → raised y ≡ trunc x q
two-ways q x (pos a) c e r = by_sign (lt_z (pos a) (pos 0)) refl
  where
    by_sign : (t : Bool) → lt_z (pos a) (pos 0) ≡ t → pos a ≡ trunc x q
    by_sign true d = absurd (omega (arith, lt-true (pos a) (pos 0) d))
    by_sign false d = truncates-down q x (pos a) c d r
two-ways q x (negsuc a) c e r = sym e ∙ truncates-up q x (negsuc a) c refl r

-- some number is the ceiling
ceiling : (q : ℕ) (z f : ℤ) (r : ℕ) → 0 < q → r < q → z ≡ pos q *ℤ f +ℤ pos r → (0 < r) ⊎ (r ≤ 0) → (c : ℤ) × Rounds q z f c
ceiling q z f r h less e (inl some) = (f +ℤ pos 1, between q z f r some less e)
ceiling q z f r h less e (inr none) = (f, exact q z f h (e ∙ ap (λ (n : ℕ). pos q *ℤ f +ℤ pos n) (let s : r ≡ 0 = omega arith in s)))

-- the quotient where so much is over
with-over : (q : ℕ) (w z f : ℤ) (r : ℕ) → 0 < q → r < q → q ≤ 2 ^ 20 → z ≡ pos q *ℤ f +ℤ pos r → unsigned_abs (w +ℤ f) < 2 ^ 63 - 1 → (0 < r) ⊎ (r ≤ 0)
    → without_late (of_z w64 (w +ℤ f)) ((0 + (2 ^ 64 - r)) % 2 ^ 64) ≡ trunc (pos q *ℤ w +ℤ z) q
with-over q w z f r h less most e size (inr none) =
    let zero : r ≡ 0 = omega arith in
    let nothing : (0 + (2 ^ 64 - r)) % 2 ^ 64 ≡ 0 = ap (λ (n : ℕ). (0 + (2 ^ 64 - n)) % 2 ^ 64) zero in
    ap (without_late (of_z w64 (w +ℤ f))) nothing
    ∙ (whole (w +ℤ f) (omega arith)
    ∙ one-way q (pos q *ℤ w +ℤ z) (w +ℤ f) (rounds-more q w z f f (exact q z f h (e ∙ ap (λ (n : ℕ). pos q *ℤ f +ℤ pos n) zero))))
with-over q w z f r h less most e size (inl some) =
    let owed : (0 + (2 ^ 64 - r)) % 2 ^ 64 ≡ 2 ^ 64 - r = mod-eq_of_lt (omega arith) ∙ omega arith in
    ap (without_late (of_z w64 (w +ℤ f))) owed
    ∙ (broken (w +ℤ f) (2 ^ 64 - r) size (omega arith) (omega arith)
    ∙ two-ways q (pos q *ℤ w +ℤ z) (w +ℤ f) (w +ℤ (f +ℤ pos 1)) (omega (arith, ints)) (rounds-more q w z f (f +ℤ pos 1) (between q z f r some less e)))

pub part_lane-is : (k : ℕ) (w z : ℤ) → k ≤ 20 → unsigned_abs w ≤ 2 ^ 61 → unsigned_abs z ≤ 2 ^ 62 → part_lane (2 ^ k - 1) k w z ≡ trunc (pos (2 ^ k) *ℤ w +ℤ z) (2 ^ k)
part_lane-is k w z h sw sz =
    let q = 2 ^ k in
    let f = shr_z z q in
    let r = of_z w64 z % q in
    let some : 0 < q = pow_pos k in
    let fits : SFits w64 z = number-fits z (omega arith) in
    let less : r < q = mod-lt (of_z w64 z) some in
    let low = low-bits k z h fits in
    let most : q ≤ 2 ^ 20 = pow_mono h in
    let rounded = ceiling q z f r some less low (cases_lt 0 r) in
    let small : unsigned_abs f ≤ unsigned_abs z = small-floor q z f rounded.0 some rounded.1 in
    let size : unsigned_abs (w +ℤ f) ≤ unsigned_abs w + unsigned_abs f = omega (arith, ints) in
    let sum = (of_z w64 w + of_z w64 f) % 2 ^ 64 in
    let bits : sum ≡ of_z w64 (w +ℤ f) = sym (of_z-to_z w64 sum (mod-lt (of_z w64 w + of_z w64 f) (omega arith))) ∙ ap (of_z w64) (sum-bits w f (omega arith)) in
    let floor : floor_lane k w z ≡ of_z w64 (w +ℤ f) = ap (λ (a : ℤ). (of_z w64 w + of_z w64 (shr_z a q)) % 2 ^ 64) (to_z-of_z w64 z fits) ∙ bits in
    (λ i. without_late (floor i) ((0 + (2 ^ 64 - and_mask (of_z w64 z) k i)) % 2 ^ 64))
    ∙ with-over q w z f r some less most low (omega arith) (cases_lt 0 r)
