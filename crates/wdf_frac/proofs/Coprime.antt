-- Numbers whose greatest common divisor is 1.
use Prim.Native.Nat.{◌∣◌}
use Rattle.std.proofs.Common.{◌≡◌, ℕ, zero, suc, ◌+◌, ◌*◌, ◌/◌, ◌%◌, ◌<◌, ◌≤◌, refl, sym, ap, ◌∙◌, subst, arith}
use Rattle.std.specs.Int.{IsGcd}
use Rattle.std.proofs.lemmas.Nat.Gcd.{dvd_refl, dvd-zero, dvd_trans, IsGcd-from_zero, IsGcd-from_mod, IsGcd-swap, same_from_IsGcd}
use Rattle.std.proofs.Math.Nat.{one-dvd, dvd-mul_right, mul-dvd-mul_right, dvd_of_mul-dvd-mul_right, div-mul_cancel, div-add-mod, mul-add-mod_self_left, mod-eq_of_lt, mod-lt, mul-lt-mul_of_pos_right, pos_of_dvd_of_pos}

-- (a·k) % (b·k) = (a % b)·k
mul-mod-mul : (a b k : ℕ) → 0 < b → 0 < k → (a * k) % (b * k) ≡ a % b * k
mul-mod-mul a b k hb hk =
    let e : a * k ≡ b * k * (a / b) + a % b * k = let h = ap (λ (x : ℕ). x * k) (div-add-mod a b) in omega (arith, h) in
    let lt : a % b * k < b * k = mul-lt-mul_of_pos_right (mod-lt a hb) hk in
    ap (λ (x : ℕ). x % (b * k)) e ∙ mul-add-mod_self_left (b * k) (a / b) (a % b * k) ∙ mod-eq_of_lt lt

-- a greatest common divisor of a and b which, times k, is that of a·k and b·k
record Common (a b k : ℕ) : Type 0 where
  g : ℕ
  plain : IsGcd a b g
  times : IsGcd (a * k) (b * k) (g * k)

-- by Euclid's steps, of which there are at most n
common : (n a b k : ℕ) → 0 < k → b ≤ n → Common a b k
common zero a b k hk h =
    let e : b ≡ 0 = omega arith in
    let ek : b * k ≡ 0 = let p = ap (λ (x : ℕ). x * k) e in omega (arith, p) in
    record { g = a; plain = IsGcd-from_zero a b e; times = IsGcd-from_zero (a * k) (b * k) ek }
common (suc n) a zero k hk h =
    record { g = a; plain = IsGcd-from_zero a 0 refl; times = IsGcd-from_zero (a * k) (0 * k) (omega arith) }
common (suc n) a (suc b) k hk h =
    let lt : a % suc b < suc b = mod-lt a (omega arith) in
    let rest = common n (suc b) (a % suc b) k hk (omega arith) in
    let times : IsGcd (suc b * k) ((a * k) % (suc b * k)) (rest.g * k) =
    subst (λ (m : ℕ). IsGcd (suc b * k) m (rest.g * k)) (sym (mul-mod-mul a (suc b) k (omega arith) hk)) rest.times in
    record {
      g = rest.g;
      plain = IsGcd-from_mod a (suc b) rest.g rest.plain;
      times = IsGcd-from_mod (a * k) (suc b * k) (rest.g * k) times;
    }

-- what divides x·y and shares no divisor with x divides y
pub dvd_of_coprime : (d x y : ℕ) → IsGcd d x 1 → d ∣ x * y → d ∣ y
dvd_of_coprime d x zero coprime h = dvd-zero d
dvd_of_coprime d x (suc y) coprime h =
    let all = common x d x (suc y) (omega arith) (omega arith) in
    let one : all.g ≡ 1 = same_from_IsGcd d x all.g 1 all.plain coprime in
    let e : all.g * suc y ≡ suc y = let p = ap (λ (g : ℕ). g * suc y) one in omega (arith, p) in
    subst (λ (m : ℕ). d ∣ m) e (all.times.2 d (dvd-mul_right d (suc y)) h)

-- divisors of two coprime numbers are coprime
pub IsGcd-divisors : (a b c d : ℕ) → c ∣ a → d ∣ b → IsGcd a b 1 → IsGcd c d 1
IsGcd-divisors a b c d ca db coprime =
    (one-dvd c, one-dvd d, λ e ec ed. coprime.2 e (dvd_trans e ec ca) (dvd_trans e ed db))

-- a product is coprime to what both factors are coprime to
pub IsGcd-product : (x y z : ℕ) → IsGcd x z 1 → IsGcd y z 1 → IsGcd (x * y) z 1
IsGcd-product x y z xz yz = (
  one-dvd (x * y),
  one-dvd z,
  λ e exy ez.
      yz.2 e (dvd_of_coprime e x y (IsGcd-swap x e 1 (IsGcd-divisors x z x e (dvd_refl x) ez xz)) exy) ez,
)

-- two numbers over their greatest common divisor are coprime
pub IsGcd-quotients : (a b g : ℕ) → 0 < g → IsGcd a b g → IsGcd (a / g) (b / g) 1
IsGcd-quotients a b g hg h = (
  one-dvd (a / g),
  one-dvd (b / g),
  λ e ea eb.
      let da : e * g ∣ a = subst (λ (m : ℕ). e * g ∣ m) (div-mul_cancel g h.0) (mul-dvd-mul_right e ea g) in
      let db : e * g ∣ b = subst (λ (m : ℕ). e * g ∣ m) (div-mul_cancel g h.1) (mul-dvd-mul_right e eb g) in
      let one : 1 * g ≡ g = omega arith in
      dvd_of_mul-dvd-mul_right e hg (subst (λ (m : ℕ). e * g ∣ m) (sym one) (h.2 (e * g) da db)),
)

-- the quotient by a divisor is a divisor
pub quotient-divides : (a g : ℕ) → g ∣ a → a / g ∣ a
quotient-divides a g h = subst (λ (m : ℕ). a / g ∣ m) (div-mul_cancel g h) (dvd-mul_right (a / g) g)

-- and positive where the number is
pub quotient-positive : (a g : ℕ) → 0 < a → g ∣ a → 0 < a / g
quotient-positive a g ha h = pos_of_dvd_of_pos (quotient-divides a g h) ha
