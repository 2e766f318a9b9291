-- No positive exponent below P - 1 = 2·3²·5²·7·11·13·31·41·61·151·331·1321 makes a power of 37 that is 1 modulo P.
use Rattle.std.proofs.Common.{◌≡◌, ℕ, zero, suc, ◌+◌, ◌-◌, ◌*◌, ◌/◌, ◌%◌, ◌^◌, ◌<◌, ◌≤◌, Bool, true, false, ◌&&◌, not, ◌==◌, List, [], ◌∷◌, refl, sym, ap, ◌∙◌, subst, arith}
use Rattle.std.specs.Int.{IsGcd, ◌∣◌}
use Rattle.std.proofs.Math.Nat.{mod-lt, mod-add-div, mod-eq_of_lt, mul-mod_right, mul-sub}
use Rattle.std.proofs.lemmas.Bool.{cases_eq, cases_lt, eq-eqb}
use Rattle.std.proofs.lemmas.Nat.Gcd.{IsGcd-from_zero, IsGcd-from_mod, dvd_of_mod-eq-zero, mod-eq-zero_of_dvd, le_of_dvd}
use mathlib.Core.Logic.{◌⊎◌, inl, inr}
use Rattle.wdf_algebra.proofs.Cancelling.{cancel_nat}
use Rattle.wdf_residue.specs.Residue.{prime}
use Rattle.wdf_residue.proofs.Powers.{power, power-lt, power-add, power-power, one-power, fast_power, fast_power-is}

-- P - 1
abbrev pub top : ℕ
top = 2305843009213693950

-- m is s times a factor
record Divides (s m : ℕ) : Type 0 where
  factor : ℕ
  is : m ≡ s * factor

divides-dvd : (s m : ℕ) → s ∣ m → Divides s m
divides-dvd s m d =
    let none : m % s ≡ 0 = mod-eq-zero_of_dvd s d in
    let split : m % s + s * (m / s) ≡ m = mod-add-div m s in
    record { factor = m / s; is = omega arith }

divides-le : (s m : ℕ) → 0 < m → Divides s m → s ≤ m
divides-le s m some d = le_of_dvd some (dvd_of_mod-eq-zero s (ap (λ (n : ℕ). n % s) d.is ∙ mul-mod_right s d.factor))

-- what remainders keep holds of the greatest common divisor; `most` is above the second number
euclid : (Q : ℕ → Type 0) → ((a b : ℕ) → Q a → Q b → Q (a % b)) → (most a b : ℕ) → b < most → Q a → Q b → (g : ℕ) × IsGcd a b g × Q g
euclid Q keeps zero a b less qa qb = absurd (omega arith)
euclid Q keeps (suc most) a b less qa qb = by (euclid Q keeps most b (a % b)) (cases_eq b 0)
  where
    by : (a % b < most → Q b → Q (a % b) → (g : ℕ) × IsGcd b (a % b) g × Q g) → (b ≡ 0) ⊎ (b ≡ 0 → ⊥) → (g : ℕ) × IsGcd a b g × Q g
    by rest (inl none) = (a, IsGcd-from_zero a b none, qa)
    by rest (inr some) =
        let small : a % b < b = mod-lt a {m = b} (omega arith) in
        let found = rest (omega arith) qb (keeps a b qa qb) in
        (found.0, IsGcd-from_mod a b found.0 found.1, found.2)

-- ---- divisors of a product of primes

-- a number from 2 on with no divisor but 1 and itself
record IsPrime (f : ℕ) : Type 0 where
  least : 2 ≤ f
  only : (d : ℕ) → Divides d f → (d ≡ 1) ⊎ (d ≡ f)

-- no number from 2 to n + 1 divides f
abbrev no_divisor : ℕ → ℕ → Bool
no_divisor f zero = true
no_divisor f (suc n) = not (f % (n + 2) == 0) && no_divisor f n

none_divides : (f n : ℕ) → no_divisor f n ≡ true → (d : ℕ) → 2 ≤ d → d < n + 2 → f % d ≡ 0 → ⊥
none_divides f zero t d low high none = omega arith
none_divides f (suc n) t d low high none = by (cases_eq d (n + 2)) (f % (n + 2) == 0) refl t (none_divides f n)
  where
    by : (d ≡ n + 2) ⊎ (d ≡ n + 2 → ⊥) → (b : Bool) → (f % (n + 2) == 0) ≡ b → (not b && no_divisor f n) ≡ true
        → (no_divisor f n ≡ true → (e : ℕ) → 2 ≤ e → e < n + 2 → f % e ≡ 0 → ⊥) → ⊥
    by at true e h rest = absurd (cc)
    by (inl at) false e h rest = absurd (cc (eq-eqb (f % (n + 2)) 0 (subst (λ (k : ℕ). f % k ≡ 0) at none)))
    by (inr other) false e h rest = rest h d low (omega arith) none

is_prime : (f : ℕ) → 2 ≤ f → no_divisor f (f - 2) ≡ true → IsPrime f
is_prime f least t = record { least = least; only = λ d h. by d h (cases_lt d 2) (cases_lt d f) }
  where
    by : (d : ℕ) → Divides d f → (d < 2) ⊎ (2 ≤ d) → (d < f) ⊎ (f ≤ d) → (d ≡ 1) ⊎ (d ≡ f)
    by d h (inl low) side = elim (cases_eq d 0) [
      | inl none ↦ let whole : f ≡ 0 * h.factor = h.is ∙ ap (λ (n : ℕ). n * h.factor) none in absurd (omega arith)
      | inr some ↦ inl (omega arith)
    ]
    by d h (inr some) (inl less) =
        absurd (none_divides f (f - 2) t d some (omega arith) (ap (λ (n : ℕ). n % d) h.is ∙ mul-mod_right d h.factor))
    by d h (inr some) (inr more) = let most = divides-le d f (omega arith) h in inr (omega arith)

-- s divides the product of a prime with m: it divides m, or the prime divides it
prime_or_other : (s f m : ℕ) → IsPrime f → Divides s (f * m) → Divides f s ⊎ Divides s m
prime_or_other s f m p d = by (euclid (λ x. Divides s (x * m)) keeps (suc f) s f (omega arith) (record { factor = m; is = refl }) d)
  where
    keeps : (a b : ℕ) → Divides s (a * m) → Divides s (b * m) → Divides s ((a % b) * m)
    keeps a b da db =
        let split : a % b + b * (a / b) ≡ a = mod-add-div a b in
        let ea : a * m ≡ s * da.factor = da.is in
        let eb : b * m ≡ s * db.factor = db.is in
        let spread : (a % b) * m + (b * m) * (a / b) ≡ a * m = omega (arith, ap (λ (n : ℕ). n * m) split) in
        let less : (b * m) * (a / b) ≡ s * (db.factor * (a / b)) = ap (λ (n : ℕ). n * (a / b)) eb ∙ omega arith in
        let apart : s * (da.factor - db.factor * (a / b)) ≡ s * da.factor - s * (db.factor * (a / b)) = mul-sub s da.factor (db.factor * (a / b)) in
        record { factor = da.factor - db.factor * (a / b); is = omega arith }

    by : (g : ℕ) × IsGcd s f g × Divides s (g * m) → Divides f s ⊎ Divides s m
    by found = elim (p.only found.0 (divides-dvd found.0 f found.1.1)) [
      | inl one ↦ let whole = subst (λ (g : ℕ). Divides s (g * m)) one found.2 in
          inr (record { factor = whole.factor; is = let e = whole.is in omega arith })
      | inr all ↦ inl (subst (λ (g : ℕ). Divides g s) all (divides-dvd found.0 s found.1.0))
    ]

-- a prime factor of P - 1, with the power that tells that P - 1 divided by it is no order of 37
record IsFactor (f : ℕ) : Type 0 where
  is_prime : IsPrime f
  whole : f * (top / f) ≡ top
  apart : power 37 (top / f) ≡ 1 → ⊥

abbrev AreFactors : List ℕ → Type 0
AreFactors [] = Unit {0}
AreFactors (f ∷ fs) = IsFactor f × AreFactors fs

abbrev product : List ℕ → ℕ
product [] = 1
product (f ∷ fs) = f * product fs

-- a divisor of their product is 1, or one of them divides it
factored : (fs : List ℕ) → AreFactors fs → (s : ℕ) → Divides s (product fs) → (s ≡ 1) ⊎ ((f : ℕ) × IsFactor f × Divides f s)
factored [] h s d = elim (cases_eq s 0) [
  | inl none ↦ let whole : 1 ≡ 0 * d.factor = d.is ∙ ap (λ (n : ℕ). n * d.factor) none in absurd (omega arith)
  | inr some ↦ let most = divides-le s 1 (omega arith) d in inl (omega arith)
]
factored (f ∷ fs) h s d = elim (prime_or_other s f (product fs) h.0.is_prime d) [
  | inl divides ↦ inr (f, h.0, divides)
  | inr rest ↦ factored fs h.1 s rest
]

-- ---- the table

factor_of : (f : ℕ) → 2 ≤ f → no_divisor f (f - 2) ≡ true → f * (top / f) ≡ top → top / f < 2 ^ 61 → (fast_power 37 61 (top / f) == 1) ≡ false → IsFactor f
factor_of f least t whole few differs = record {
  is_prime = is_prime f least t;
  whole = whole;
  apart = λ e. absurd (cc (ap (λ (n : ℕ). n == 1) (fast_power-is 37 61 (top / f) (omega arith) few ∙ e)));
}

abbrev factors : List ℕ
factors = 2 ∷ 3 ∷ 3 ∷ 5 ∷ 5 ∷ 7 ∷ 11 ∷ 13 ∷ 31 ∷ 41 ∷ 61 ∷ 151 ∷ 331 ∷ 1321 ∷ []

are_factors : AreFactors factors
are_factors =
    let f3 = factor_of 3 (omega arith) refl refl (omega arith) refl in
    let f5 = factor_of 5 (omega arith) refl refl (omega arith) refl in (
      factor_of 2 (omega arith) refl refl (omega arith) refl,
      (
        f3,
        (
          f3,
          (
            f5,
            (
              f5,
              (
                factor_of 7 (omega arith) refl refl (omega arith) refl,
                (
                  factor_of 11 (omega arith) refl refl (omega arith) refl,
                  (
                    factor_of 13 (omega arith) refl refl (omega arith) refl,
                    (
                      factor_of 31 (omega arith) refl refl (omega arith) refl,
                      (
                        factor_of 41 (omega arith) refl refl (omega arith) refl,
                        (
                          factor_of 61 (omega arith) refl refl (omega arith) refl,
                          (
                            factor_of 151 (omega arith) refl refl (omega arith) refl,
                            (
                              factor_of 331 (omega arith) refl refl (omega arith) refl,
                              (factor_of 1321 (omega arith) refl refl (omega arith) refl, tt),
                            ),
                          ),
                        ),
                      ),
                    ),
                  ),
                ),
              ),
            ),
          ),
        ),
      ),
    )

-- ---- the order

pub power-top : power 37 top ≡ 1
power-top = sym (fast_power-is 37 61 top (omega arith) (omega arith))

power-mod : (a b : ℕ) → power 37 a ≡ 1 → power 37 b ≡ 1 → power 37 (a % b) ≡ 1
power-mod a b pa pb =
    let split : a % b + b * (a / b) ≡ a = mod-add-div a b in
    let ones : power 37 (b * (a / b)) ≡ 1 =
    sym (power-power 37 b (a / b)) ∙ (ap (λ (n : ℕ). power n (a / b)) pb ∙ one-power (a / b)) in
    let whole : (power 37 (a % b) * power 37 (b * (a / b))) % prime ≡ 1 =
    sym (power-add 37 (a % b) (b * (a / b))) ∙ (ap (power 37) split ∙ pa) in
    let alone : power 37 (a % b) * power 37 (b * (a / b)) ≡ power 37 (a % b) = ap (λ (n : ℕ). power 37 (a % b) * n) ones ∙ omega arith in
    sym (mod-eq_of_lt (power-lt 37 (a % b))) ∙ (ap (λ (n : ℕ). n % prime) (sym alone) ∙ whole)

pub order_top : (d : ℕ) → 0 < d → d < top → power 37 d ≡ 1 → ⊥
order_top d some less one = by (euclid (λ e. power 37 e ≡ 1) power-mod (suc d) top d (omega arith) power-top one)
  where
    by : (g : ℕ) × IsGcd top d g × (power 37 g ≡ 1) → ⊥
    by found =
        let g = found.0 in
        let of_top = divides-dvd found.0 top found.1.0 in
        let small = divides-le found.0 d some (divides-dvd found.0 d found.1.1) in
        let turned : Divides of_top.factor (product factors) = record { factor = found.0; is = of_top.is ∙ turn found.0 of_top.factor } in
        elim (factored factors are_factors of_top.factor turned) [
          | inl unit ↦ let whole : top ≡ found.0 * 1 = of_top.is ∙ ap (λ (s : ℕ). found.0 * s) unit in absurd (omega arith)
          | inr h ↦ h.1.apart (cancelled h.0 found.0 of_top.factor h.1 found.2 of_top.is h.2)
        ]
      where
        turn : (a b : ℕ) → a * b ≡ b * a
        turn a b = omega arith

        cancelled : (f g s : ℕ) → IsFactor f → power 37 g ≡ 1 → top ≡ g * s → Divides f s → power 37 (top / f) ≡ 1
        cancelled f g s h pg whole d =
            let least = h.is_prime.least in
            let same : f * (top / f) ≡ f * (g * d.factor) = h.whole ∙ (whole ∙ (ap (λ (n : ℕ). g * n) d.is ∙ omega arith)) in
            let at : top / f ≡ g * d.factor = cancel_nat f (top / f) (g * d.factor) (omega arith) same in
            ap (power 37) at ∙ (sym (power-power 37 g d.factor) ∙ (ap (λ (n : ℕ). power n d.factor) pg ∙ one-power d.factor))
