-- A one-to-one map of the numbers below n into themselves reaches each of them.
use Rattle.std.proofs.Common.{◌≡◌, ℕ, zero, suc, ◌<◌, Bool, true, false, ◌==◌, if◌then◌else◌, refl, sym, ◌∙◌, arith}
use Rattle.std.proofs.lemmas.Bool.{eqb-true, eqb-false, cases_eq}
use mathlib.Core.Logic.{◌⊎◌, inl, inr}

-- the map with the value v in place of n
abbrev instead : ℕ → ℕ → ℕ → ℕ
instead n v m = if m == n then v else m

-- which of the two it is
instead-cases : (n v m : ℕ) → ((m ≡ n) × (instead n v m ≡ v)) ⊎ ((m ≡ n → ⊥) × (instead n v m ≡ m))
instead-cases n v m = by (m == n) refl
  where
    by : (b : Bool) → (m == n) ≡ b → ((m ≡ n) × ((if b then v else m) ≡ v)) ⊎ ((m ≡ n → ⊥) × ((if b then v else m) ≡ m))
    by true t = inl (eqb-true m n t, refl)
    by false t = inr (eqb-false m n t, refl)

pub onto : (n : ℕ) (f : ℕ → ℕ) → ((i : ℕ) → i < n → f i < n) → ((i j : ℕ) → i < n → j < n → f i ≡ f j → i ≡ j)
    → (y : ℕ) → y < n → (i : ℕ) × (i < n) × (f i ≡ y)
onto zero f below single y small = absurd (omega arith)
onto (suc n) f below single y small = by (onto n (λ i. instead n (f n) (f i)) inside alone) (cases_eq y (f n))
  where
    -- the value at n stands in where the map gives n
    inside : (i : ℕ) → i < n → instead n (f n) (f i) < n
    inside i h =
        let some : f i < suc n = below i (omega arith) in
        let last : f n < suc n = below n (omega arith) in
        let apart : f i ≡ f n → ⊥ = λ e. let same = single i n (omega arith) (omega arith) e in absurd (omega arith) in
        elim (instead-cases n (f n) (f i)) [
          | inl c ↦ let is = c.1 in let at = c.0 in let other : f n ≡ n → ⊥ = λ e. apart (at ∙ sym e) in omega arith
          | inr c ↦ let is = c.1 in let other = c.0 in omega arith
        ]

    alone : (i j : ℕ) → i < n → j < n → instead n (f n) (f i) ≡ instead n (f n) (f j) → i ≡ j
    alone i j hi hj e =
        elim (instead-cases n (f n) (f i)) [
          | inl a ↦ elim (instead-cases n (f n) (f j)) [
            | inl b ↦ single i j (omega arith) (omega arith) (a.0 ∙ sym b.0)
            | inr b ↦ let same = single n j (omega arith) (omega arith) (sym a.1 ∙ (e ∙ b.1)) in absurd (omega arith)
          ]
          | inr a ↦ elim (instead-cases n (f n) (f j)) [
            | inl b ↦ let same = single i n (omega arith) (omega arith) (sym a.1 ∙ (e ∙ b.1)) in absurd (omega arith)
            | inr b ↦ single i j (omega arith) (omega arith) (sym a.1 ∙ (e ∙ b.1))
          ]
        ]

    -- y is not the value at n
    other : ((z : ℕ) → z < n → (i : ℕ) × (i < n) × (instead n (f n) (f i) ≡ z)) → (y ≡ f n → ⊥) → (y < n) ⊎ (y ≡ n) → (i : ℕ) × (i < suc n) × (f i ≡ y)
    other rest differs (inl less) =
        let found = rest y less in
        elim (instead-cases n (f n) (f found.0)) [
          | inl c ↦ absurd (differs (sym found.2 ∙ c.1))
          | inr c ↦ (found.0, omega (arith, found.1), sym c.1 ∙ found.2)
        ]
    other rest differs (inr same) =
        let last : f n < suc n = below n (omega arith) in
        let found = rest (f n) (let ne : f n ≡ n → ⊥ = λ e. differs (same ∙ sym e) in omega arith) in
        elim (instead-cases n (f n) (f found.0)) [
          | inl c ↦ (found.0, omega (arith, found.1), c.0 ∙ sym same)
          | inr c ↦ let back = single found.0 n (omega (arith, found.1)) (omega arith) (sym c.1 ∙ found.2) in absurd (omega (arith, found.1))
        ]

    cases : (y < n) ⊎ (y ≡ n)
    cases = elim (cases_eq y n) [ inl e ↦ inr e | inr ne ↦ inl (omega arith) ]

    by : ((z : ℕ) → z < n → (i : ℕ) × (i < n) × (instead n (f n) (f i) ≡ z)) → (y ≡ f n) ⊎ (y ≡ f n → ⊥) → (i : ℕ) × (i < suc n) × (f i ≡ y)
    by rest (inl e) = (n, omega arith, sym e)
    by rest (inr ne) = other rest ne cases
