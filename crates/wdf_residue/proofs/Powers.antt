-- Powers modulo P.
use Rattle.std.proofs.Common.{◌≡◌, ℕ, zero, suc, ◌+◌, ◌*◌, ◌/◌, ◌%◌, ◌^◌, ◌<◌, ◌≤◌, Bool, true, false, ◌==◌, if◌then◌else◌, refl, sym, ap, ◌∙◌, arith}
use Rattle.std.proofs.Math.Nat.{mod-lt, mod-eq_of_lt, mod-add-div, pow-suc}
use Rattle.std.proofs.lemmas.Nat.{mul-mod_first, mul-mod_second}
use Rattle.std.proofs.lemmas.Bool.{eqb-true, eqb-false}
use Rattle.wdf_residue.specs.Residue.{prime}

pub prime-pos : 0 < prime
prime-pos = omega arith

-- a to the power of n, a plain definition, so that no large exponent is ever counted down
pub power : ℕ → ℕ → ℕ
power a zero = 1
power a (suc n) = (a * power a n) % prime

pub power-zero : (a : ℕ) → power a 0 ≡ 1
unfolding power
power-zero a = refl

pub power-suc : (a n : ℕ) → power a (suc n) ≡ (a * power a n) % prime
unfolding power
power-suc a n = refl

pub power-lt : (a n : ℕ) → power a n < prime
unfolding power
power-lt a zero = omega arith
power-lt a (suc n) = mod-lt (a * power a n) prime-pos

pub power-one : (a : ℕ) → a < prime → power a 1 ≡ a
power-one a small =
    let e : a * power a 0 ≡ a = ap (λ (n : ℕ). a * n) (power-zero a) ∙ omega arith in
    power-suc a 0 ∙ (ap (λ (n : ℕ). n % prime) e ∙ mod-eq_of_lt small)

-- (a % m) * b and a * b are one modulo m
times-mod : (a b : ℕ) → (a * (b % prime)) % prime ≡ (a * b) % prime
times-mod a b = mul-mod_second a b prime

pub power-add : (a m n : ℕ) → power a (m + n) ≡ (power a m * power a n) % prime
power-add a zero n =
    let at : 0 + n ≡ n = omega arith in
    let e : power a 0 * power a n ≡ power a n = ap (λ (k : ℕ). k * power a n) (power-zero a) ∙ omega arith in
    ap (power a) at ∙ sym (ap (λ (k : ℕ). k % prime) e ∙ mod-eq_of_lt (power-lt a n))
power-add a (suc m) n =
    let at : suc m + n ≡ suc (m + n) = omega arith in
    let s : (a * power a (m + n)) % prime ≡ (a * (power a m * power a n)) % prime =
    ap (λ (k : ℕ). (a * k) % prime) (power-add a m n) ∙ mul-mod_second a (power a m * power a n) prime in
    let t : a * (power a m * power a n) ≡ (a * power a m) * power a n = omega arith in
    let u : ((a * power a m) * power a n) % prime ≡ (power a (suc m) * power a n) % prime =
    sym (mul-mod_first (a * power a m) (power a n) prime) ∙ ap (λ (k : ℕ). (k * power a n) % prime) (sym (power-suc a m)) in
    ap (power a) at ∙ (power-suc a (m + n) ∙ (s ∙ (ap (λ (k : ℕ). k % prime) t ∙ u)))

pub one-power : (n : ℕ) → power 1 n ≡ 1
one-power zero = power-zero 1
one-power (suc n) =
    power-suc 1 n ∙ ap (λ (k : ℕ). (1 * k) % prime) (one-power n)

pub power-power : (a m n : ℕ) → power (power a m) n ≡ power a (m * n)
power-power a m zero =
    let at : m * 0 ≡ 0 = omega arith in
    power-zero (power a m) ∙ sym (ap (power a) at ∙ power-zero a)
power-power a m (suc n) =
    let at : m * suc n ≡ m + m * n = omega arith in
    power-suc (power a m) n
    ∙ (ap (λ (k : ℕ). (power a m * k) % prime) (power-power a m n)
    ∙ (sym (power-add a m (m * n)) ∙ ap (power a) (sym at)))

-- the power by at most k squarings
abbrev pub fast_power : ℕ → ℕ → ℕ → ℕ
fast_power a zero e = 1
fast_power a (suc k) e =
    if e % 2 == 1 then (a * fast_power ((a * a) % prime) k (e / 2)) % prime else fast_power ((a * a) % prime) k (e / 2)

-- the square to half the exponent, and once more a where the exponent is odd
square-half : (a h : ℕ) → a < prime → power ((a * a) % prime) h ≡ power a (2 * h)
square-half a h small =
    let two : power a 2 ≡ (a * a) % prime =
    power-suc a 1 ∙ ap (λ (k : ℕ). (a * k) % prime) (power-one a small) in
    ap (λ (k : ℕ). power k h) (sym two) ∙ power-power a 2 h

pub halved-odd : (a e : ℕ) → a < prime → e % 2 ≡ 1 → (a * power ((a * a) % prime) (e / 2)) % prime ≡ power a e
halved-odd a e small odd =
    let split : e % 2 + 2 * (e / 2) ≡ e = mod-add-div e 2 in
    let at : suc (2 * (e / 2)) ≡ e = omega arith in
    ap (λ (k : ℕ). (a * k) % prime) (square-half a (e / 2) small) ∙ (sym (power-suc a (2 * (e / 2))) ∙ ap (power a) at)

pub halved-even : (a e : ℕ) → a < prime → (e % 2 ≡ 1 → ⊥) → power ((a * a) % prime) (e / 2) ≡ power a e
halved-even a e small even =
    let split : e % 2 + 2 * (e / 2) ≡ e = mod-add-div e 2 in
    let r = mod-lt e {m = 2} (omega arith) in
    let none : (1 ≤ e % 2 → ⊥) = λ more. even (omega arith) in
    let at : 2 * (e / 2) ≡ e = omega arith in
    square-half a (e / 2) small ∙ ap (power a) at

pub fast_power-is : (a k e : ℕ) → a < prime → e < 2 ^ k → fast_power a k e ≡ power a e
fast_power-is a zero e small few =
    let none : e ≡ 0 = omega arith in
    sym (ap (power a) none ∙ power-zero a)
fast_power-is a (suc k) e small few =
    let split : e % 2 + 2 * (e / 2) ≡ e = mod-add-div e 2 in
    let pow : 2 ^ suc k ≡ 2 ^ k * 2 = pow-suc 2 k in
    let half : e / 2 < 2 ^ k = omega arith in
    by (e % 2 == 1) refl (fast_power-is ((a * a) % prime) k (e / 2) (mod-lt (a * a) prime-pos) half)
  where
    by : (b : Bool) → (e % 2 == 1) ≡ b → fast_power ((a * a) % prime) k (e / 2) ≡ power ((a * a) % prime) (e / 2)
        → (if b then (a * fast_power ((a * a) % prime) k (e / 2)) % prime else fast_power ((a * a) % prime) k (e / 2)) ≡ power a e
    by true t rest = ap (λ (h : ℕ). (a * h) % prime) rest ∙ halved-odd a e small (eqb-true (e % 2) 1 t)
    by false t rest = rest ∙ halved-even a e small (eqb-false (e % 2) 1 t)
