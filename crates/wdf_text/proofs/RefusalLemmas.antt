-- The causes for which a decimal is refused exclude each other.
use Rattle.std.proofs.Common.{◌≡◌, ℕ, List, Result, Ok, Err, refl, sym, ap, ◌∙◌, subst, inl, inr, arith}
use Rattle.std.specs.Prelude.{◌↔◌, IsOk, IfOk}
use Rattle.std.proofs.lemmas.Bool.{cases_order, false≢true}
use Rattle.wdf_text.specs.DecimalNumber.{DecimalNumber, IsNormal}
use Rattle.wdf_text.specs.declared.decimal_error.DecimalError.{DecimalError}
use Rattle.wdf_text.specs.declared.decimal_error.DecimalError.TheVariants.{TooLong, BadByte, Empty, TooManyDigits}
use Rattle.wdf_text.specs.Decimals.{Answers, HasNoStray, IsDecimal, IsFirstStray, IsValueOf, RefusesDecimal}
use Rattle.wdf_text.proofs.ValueLemmas.{one_value}

-- a first byte that stands where it may not is one
first_stray : (text : List ℕ) (a b : ℕ) → IsFirstStray text a → IsFirstStray text b → a ≡ b
first_stray text a b s t =
    elim (cases_order a b) [
      | inl same ↦ same
      | inr other ↦ elim other [
        | inl less ↦ absurd (false≢true (sym (t.first a less) ∙ s.stray))
        | inr more ↦ absurd (false≢true (sym (s.first b more) ∙ t.stray))
      ]
    ]

-- where there is one, not all bytes may stand
no_stray : (text : List ℕ) (a : ℕ) → IsFirstStray text a → HasNoStray text → ⊥
no_stray text a s none = false≢true (sym (none a s.within) ∙ s.stray)

one_refusal : (text : List ℕ) (d e : DecimalError) → RefusesDecimal text d → RefusesDecimal text e → d ≡ e
one_refusal text TooLong TooLong h g = refl
one_refusal text TooLong (BadByte b) h g = absurd (omega (arith, g.0))
one_refusal text TooLong Empty h g = absurd (omega (arith, g.0))
one_refusal text TooLong TooManyDigits h g = absurd (omega (arith, g.0))
one_refusal text (BadByte a) TooLong h g = absurd (omega (arith, h.0))
one_refusal text (BadByte a) (BadByte b) h g = ap (λ (n : ℕ). BadByte n) (first_stray text a b h.1 g.1)
one_refusal text (BadByte a) Empty h g = absurd (no_stray text a h.1 g.1)
one_refusal text (BadByte a) TooManyDigits h g = absurd (no_stray text a h.1 g.1)
one_refusal text Empty TooLong h g = absurd (omega (arith, h.0))
one_refusal text Empty (BadByte b) h g = absurd (no_stray text b g.1 h.1)
one_refusal text Empty Empty h g = refl
one_refusal text Empty TooManyDigits h g = absurd (false≢true (sym h.2 ∙ g.2))
one_refusal text TooManyDigits TooLong h g = absurd (omega (arith, h.0))
one_refusal text TooManyDigits (BadByte b) h g = absurd (no_stray text b g.1 h.1)
one_refusal text TooManyDigits Empty h g = absurd (false≢true (sym g.2 ∙ h.2))
one_refusal text TooManyDigits TooManyDigits h g = refl

-- what is read is not refused
pub not_refused : (text : List ℕ) (e : DecimalError) → IsDecimal text → RefusesDecimal text e → ⊥
not_refused text TooLong h g = absurd (omega (arith, h.0))
not_refused text (BadByte b) h g = no_stray text b g.1 h.1
not_refused text Empty h g = false≢true (sym g.2 ∙ h.2)
not_refused text TooManyDigits h g = absurd (omega (arith, h.3, g.3))

-- each refusal comes exactly where its cause is there
pub exactly : (text : List ℕ) (r : Result DecimalNumber DecimalError) → Answers text r → (e : DecimalError) → (r ≡ Err e) ↔ RefusesDecimal text e
exactly text (Ok q) a e = (λ h. absurd (cc), λ g. absurd (not_refused text e a.0 g))
exactly text (Err d) a e = (λ h. let same : d ≡ e = cc in subst (RefusesDecimal text) same a, λ g. ap (λ (x : DecimalError). Err x) (one_refusal text d e a g))

pub accepted : (text : List ℕ) (r : Result DecimalNumber DecimalError) → Answers text r → IsOk r ↔ IsDecimal text
accepted text (Ok q) a = (λ h. a.0, λ g. refl)
accepted text (Err d) a = (λ h. absurd (false≢true h), λ g. absurd (not_refused text d g a))

pub valued : (text : List ℕ) (r : Result DecimalNumber DecimalError) → Answers text r → IfOk r (IsValueOf text)
valued text (Ok q) a = a.1
valued text (Err d) a = tt

pub only : (text : List ℕ) (r : Result DecimalNumber DecimalError) → Answers text r → IfOk r IsNormal → (p : DecimalNumber) → IsNormal p → IsValueOf text p → IfOk r (λ q. p ≡ q)
only text (Ok q) a normal p p_normal v = one_value text p q p_normal normal v a.1
only text (Err d) a normal p p_normal v = tt
