-- The power by squarings, step after step.
use Rattle.std.proofs.Common.{◌≡◌, ℕ, ◌*◌, ◌/◌, ◌%◌, ◌<◌, sym, ap, ◌∙◌, arith}
use Rattle.std.proofs.Math.Nat.{mod-eq_of_lt}
use Rattle.std.proofs.lemmas.Nat.{mul-mod_first, mul-mod_second}
use Rattle.wdf_residue.specs.Residue.{prime}
use Rattle.wdf_residue.proofs.Powers.{power, power-zero, power-lt, halved-odd, halved-even}

pub begins : (a e : ℕ) → (1 * power a e) % prime ≡ power a e
begins a e =
    let whole : 1 * power a e ≡ power a e = omega arith in
    ap (λ (n : ℕ). n % prime) whole ∙ mod-eq_of_lt (power-lt a e)

pub step_odd : (p a e : ℕ) → a < prime → e % 2 ≡ 1 → ((p * a) % prime * power ((a * a) % prime) (e / 2)) % prime ≡ (p * power a e) % prime
step_odd p a e small odd =
    let turn : (p * a) * power ((a * a) % prime) (e / 2) ≡ p * (a * power ((a * a) % prime) (e / 2)) = omega arith in
    mul-mod_first (p * a) (power ((a * a) % prime) (e / 2)) prime
    ∙ (ap (λ (n : ℕ). n % prime) turn
    ∙ (sym (mul-mod_second p (a * power ((a * a) % prime) (e / 2)) prime) ∙ ap (λ (n : ℕ). (p * n) % prime) (halved-odd a e small odd)))

pub step_even : (p a e : ℕ) → a < prime → (e % 2 ≡ 1 → ⊥) → (p * power ((a * a) % prime) (e / 2)) % prime ≡ (p * power a e) % prime
step_even p a e small even = ap (λ (n : ℕ). (p * n) % prime) (halved-even a e small even)

pub ends : (p a e : ℕ) → p < prime → e ≡ 0 → (p * power a e) % prime ≡ p
ends p a e small none =
    let one : p * power a e ≡ p = ap (λ (n : ℕ). p * power a n) none ∙ (ap (λ (n : ℕ). p * n) (power-zero a) ∙ omega arith) in
    ap (λ (n : ℕ). n % prime) one ∙ mod-eq_of_lt small
