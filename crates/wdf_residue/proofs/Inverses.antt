-- The powers of 37 are all residues but 0, so the power of each residue with the exponent P - 1 is 1.
use Rattle.std.proofs.Common.{◌≡◌, ℕ, ◌+◌, ◌-◌, ◌*◌, ◌%◌, ◌<◌, ◌≤◌, sym, ap, ◌∙◌, arith}
use Rattle.std.proofs.Math.Nat.{mod-eq_of_lt}
use Rattle.std.proofs.lemmas.Bool.{cases_order, cases_eq}
use mathlib.Core.Logic.{inl, inr}
use Rattle.wdf_residue.specs.Residue.{prime}
use Rattle.wdf_residue.specs.Laws.{HasInverse}
use Rattle.wdf_residue.proofs.Powers.{power, power-suc, power-lt, power-add, power-power, one-power}
use Rattle.wdf_residue.proofs.Onto.{onto}
use Rattle.wdf_residue.proofs.Orders.{top, power-top, order_top}

-- no power up to P - 1 is 0
power-some : (e : ℕ) → e < top → 1 ≤ power 37 e
power-some e less = elim (cases_eq (power 37 e) 0) [
  | inl none ↦
      let at : e + (top - e) ≡ top = omega arith in
      let whole : (power 37 e * power 37 (top - e)) % prime ≡ 1 = sym (power-add 37 e (top - e)) ∙ (ap (power 37) at ∙ power-top) in
      let gone : (0 * power 37 (top - e)) % prime ≡ 1 = ap (λ (n : ℕ). (n * power 37 (top - e)) % prime) (sym none) ∙ whole in
      let zero_is : 0 * power 37 (top - e) ≡ 0 = omega arith in
      let nought : 0 % prime ≡ 1 = ap (λ (n : ℕ). n % prime) (sym zero_is) ∙ gone in
      absurd (cc)
  | inr some ↦ omega arith
]

-- two powers below P - 1 are equal only where their exponents are
no_two : (i j : ℕ) → i < j → j < top → power 37 i ≡ power 37 j → ⊥
no_two i j less high e =
    let back : i + (top - i) ≡ top = omega arith in
    let over : j + (top - i) ≡ top + (j - i) = omega arith in
    let one : (power 37 j * power 37 (top - i)) % prime ≡ 1 =
    ap (λ (n : ℕ). (n * power 37 (top - i)) % prime) (sym e) ∙ (sym (power-add 37 i (top - i)) ∙ (ap (power 37) back ∙ power-top)) in
    let far : power 37 (top + (j - i)) ≡ 1 = sym (ap (power 37) over) ∙ (power-add 37 j (top - i) ∙ one) in
    let alone : 1 * power 37 (j - i) ≡ power 37 (j - i) = omega arith in
    let near : power 37 (top + (j - i)) ≡ power 37 (j - i) =
    power-add 37 top (j - i) ∙ (ap (λ (n : ℕ). (n * power 37 (j - i)) % prime) power-top
    ∙ (ap (λ (n : ℕ). n % prime) alone ∙ mod-eq_of_lt (power-lt 37 (j - i)))) in
    order_top (j - i) (omega arith) (omega arith) (sym near ∙ far)

single : (i j : ℕ) → i < top → j < top → power 37 i - 1 ≡ power 37 j - 1 → i ≡ j
single i j hi hj e =
    let pi = power-some i hi in
    let pj = power-some j hj in
    let same : power 37 i ≡ power 37 j = omega arith in
    elim (cases_order i j) [
      | inl at ↦ at
      | inr apart ↦ elim apart [ inl less ↦ absurd (no_two i j less hj same) | inr more ↦ absurd (no_two j i more hi (sym same)) ]
    ]

-- the exponent of which a is the power
logarithm : (a : ℕ) → 0 < a → a < prime → (e : ℕ) × (power 37 e ≡ a)
logarithm a some small =
    let found = onto top (λ e. power 37 e - 1) (λ i h. let few = power-lt 37 i in let p = power-some i h in omega arith) single (a - 1) (omega arith) in
    let p = power-some found.0 found.1 in
    (found.0, omega (arith, found.2))

-- Fermat
pub power-fermat : (a : ℕ) → 0 < a → a < prime → power a top ≡ 1
power-fermat a some small =
    let e = logarithm a some small in
    let turn : e.0 * top ≡ top * e.0 = omega arith in
    ap (λ (n : ℕ). power n top) (sym e.1)
    ∙ (power-power 37 e.0 top ∙ (ap (power 37) turn ∙ (sym (power-power 37 top e.0) ∙ (ap (λ (n : ℕ). power n e.0) power-top ∙ one-power e.0))))

-- P - 2
abbrev pub last_exponent : ℕ
last_exponent = 2305843009213693949

-- so the power with the exponent P - 2 is the inverse
pub power-inverse : (a : ℕ) → 0 < a → a < prime → (a * power a last_exponent) % prime ≡ 1
power-inverse a some small = sym (power-suc a last_exponent) ∙ power-fermat a some small

pub has_inverse : (a : ℕ) → 0 < a → a < prime → HasInverse a
has_inverse a some small = (power a last_exponent, record { below = power-lt a last_exponent; product = power-inverse a some small })
