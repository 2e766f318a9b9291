-- A text writes the number of one quantity alone.
use Rattle.std.proofs.Common.{◌≡◌, ℕ, ◌+◌, ◌-◌, ◌*◌, ◌/◌, ◌%◌, ◌^◌, ◌<◌, pos, Bool, true, false, eqb, List, refl, sym, ap, ◌∙◌, inl, inr, arith, zero-mul}
use Rattle.std.proofs.lemmas.Nat.{pow-add}
use Rattle.std.proofs.lemmas.Int.{ints}
use Rattle.std.proofs.lemmas.Bool.{cases_order, eqb-true}
use Rattle.std.proofs.lemmas.Bool.Decides.{nat_tests}
use Rattle.std.proofs.Math.Nat.{mul-div_cancel, one-le-pow}
use Rattle.wdf_text.specs.DecimalNumber.{DecimalNumber, IsNormal}
use Rattle.wdf_text.specs.Decimals.{IsValueOf}
use Rattle.wdf_text.proofs.SignificanceLemmas.{tens}

cancel : (a b p : ℕ) → 0 < p → a * p ≡ b * p → a ≡ b
cancel a b p some e = sym (mul-div_cancel a some) ∙ ap (λ (n : ℕ). n / p) e ∙ mul-div_cancel b some

-- a number that does not end in 0 has no factor 10 to give
no_more : (d e s j : ℕ) → d * 10 ^ s ≡ e * 10 ^ (s + (j + 1)) → 0 < d % 10 → ⊥
no_more d e s j same last =
    let p = 10 ^ s in
    let m = e * 10 ^ j in
    let power : 10 ^ (s + (j + 1)) ≡ p * (10 ^ j * 10) = pow-add 10 s (j + 1) ∙ ap (λ (t : ℕ). p * t) (tens j) in
    let split : d * p ≡ m * 10 * p = omega (arith, same, ap (λ (t : ℕ). e * t) power) in
    let is : d ≡ m * 10 = cancel d (m * 10) p (one-le-pow s 10 (omega arith)) split in
    let none : m * 10 % 10 ≡ 0 = omega arith in
    omega (arith, ap (λ (n : ℕ). n % 10) is)

one_scale : (d e s t : ℕ) → d * 10 ^ s ≡ e * 10 ^ t → 0 < d % 10 → 0 < e % 10 → s ≡ t
one_scale d e s t same d_last e_last =
    elim (cases_order s t) [
      | inl h ↦ h
      | inr h ↦ elim h [
        | inl less ↦ absurd (no_more d e s (t - s - 1) (same ∙ ap (λ (n : ℕ). e * 10 ^ n) (omega arith)) d_last)
        | inr more ↦ absurd (no_more e d t (s - t - 1) (sym same ∙ ap (λ (n : ℕ). d * 10 ^ n) (omega arith)) e_last)
      ]
    ]

-- only 0 times a power of ten is 0
zero_digits : (d s : ℕ) → d * 10 ^ s ≡ 0 → d ≡ 0
zero_digits d s none = cancel d 0 (10 ^ s) (one-le-pow s 10 (omega arith)) (none ∙ sym (zero-mul (10 ^ s)))

-- a quantity of number 0 is 0 with exponent 0, so two of them are one
pub one_value : (text : List ℕ) (p q : DecimalNumber) → IsNormal p → IsNormal q → IsValueOf text p → IsValueOf text q → p ≡ q
one_value text p q p_normal q_normal v w = by (eqb (p.digits % 10) 0) (eqb (q.digits % 10) 0) refl refl
  where
    same : p.digits * 10 ^ v.scale ≡ q.digits * 10 ^ w.scale
    same = sym v.value ∙ w.value

    one : p.digits ≡ q.digits → p.exp ≡ q.exp → p ≡ q
    one d e i = record { digits = d i; exp = e i }

    by : (t u : Bool) → eqb (p.digits % 10) 0 ≡ t → eqb (q.digits % 10) 0 ≡ u → p ≡ q
    by true u h g =
        let a = p_normal (eqb-true _ _ h) in
        let none : q.digits ≡ 0 = zero_digits q.digits w.scale (sym same ∙ ap (λ (n : ℕ). n * 10 ^ v.scale) a.0 ∙ zero-mul (10 ^ v.scale)) in
        let b = q_normal (ap (λ (n : ℕ). n % 10) none) in
        one (a.0 ∙ sym none) (a.1 ∙ sym b.1)
    by false true h g =
        let b = q_normal (eqb-true _ _ g) in
        let none : p.digits ≡ 0 = zero_digits p.digits v.scale (same ∙ ap (λ (n : ℕ). n * 10 ^ w.scale) b.0 ∙ zero-mul (10 ^ w.scale)) in
        let a = p_normal (ap (λ (n : ℕ). n % 10) none) in
        one (none ∙ sym b.0) (a.1 ∙ sym b.1)
    by false false h g =
        let p_last : 0 < p.digits % 10 = grind (arith, h, nat_tests) in
        let q_last : 0 < q.digits % 10 = grind (arith, g, nat_tests) in
        let scale : v.scale ≡ w.scale = one_scale p.digits q.digits v.scale w.scale same p_last q_last in
        let place : pos v.scale ≡ pos w.scale = ap (λ (n : ℕ). pos n) scale in
        one (cancel p.digits q.digits (10 ^ v.scale) (one-le-pow v.scale 10 (omega arith)) (same ∙ ap (λ (n : ℕ). q.digits * 10 ^ n) (sym scale))) (omega (arith, ints, v.place, w.place))
