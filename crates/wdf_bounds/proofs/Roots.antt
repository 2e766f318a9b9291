-- The root rounded up, and what a bound on squares says of the numbers.
use Rattle.std.proofs.Common.{◌≡◌, ℕ, zero, suc, ◌+◌, ◌*◌, ◌≤◌, Bool, true, false, if◌then◌else◌, refl, arith}
use Rattle.std.specs.Prelude.{nat_le}
use Rattle.std.proofs.Math.Nat.{mul-le-mul}
use Rattle.std.proofs.lemmas.Bool.Decides.{nat_tests}
use Rattle.wdf_bounds.specs.WordBound.{root_up}

-- a square that is at most another's is one of a number that is at most the other
pub root_le : (x y : ℕ) → x * x ≤ y * y → x ≤ y
root_le x y h = by (nat_le x y) refl
  where
    by : (b : Bool) → nat_le x y ≡ b → x ≤ y
    by true e = grind (arith, nat_tests)
    by false e =
        let more : y + 1 ≤ x = grind (arith, nat_tests) in
        let large : (y + 1) * (y + 1) ≤ x * x = mul-le-mul more more in
        absurd (omega arith)

-- the root of one more: that of the number, or one more
next_square : (r n : ℕ) (b : Bool) → nat_le (suc n) (r * r) ≡ b → n ≤ r * r → suc n ≤ (if b then r else r + 1) * (if b then r else r + 1)
next_square r n true e before = grind (arith, nat_tests)
next_square r n false e before = omega arith

pub root_up-square : (n : ℕ) → n ≤ root_up n * root_up n
unfolding root_up
root_up-square zero = omega arith
root_up-square (suc n) = next_square (root_up n) n (nat_le (suc n) (root_up n * root_up n)) refl (root_up-square n)

-- one step of the root is enough
grown : (r m n : ℕ) → n ≤ r * r → (suc n ≤ r * r → ⊥) → suc n ≤ m * m → r + 1 ≤ m
grown r m n before small large = by (nat_le (r + 1) m) refl
  where
    by : (b : Bool) → nat_le (r + 1) m ≡ b → r + 1 ≤ m
    by true e = grind (arith, nat_tests)
    by false e =
        let few : m ≤ r = grind (arith, nat_tests) in
        let squares : m * m ≤ r * r = mul-le-mul few few in
        absurd (small (omega arith))

next_least : (r n m : ℕ) (b : Bool) → nat_le (suc n) (r * r) ≡ b → n ≤ r * r → r ≤ m → suc n ≤ m * m → (if b then r else r + 1) ≤ m
next_least r n m true e before least h = least
next_least r n m false e before least h = grown r m n before (λ fits. absurd (grind (arith, nat_tests))) h

pub root_up-least : (n m : ℕ) → n ≤ m * m → root_up n ≤ m
unfolding root_up
root_up-least zero m h = omega arith
root_up-least (suc n) m h = next_least (root_up n) n m (nat_le (suc n) (root_up n * root_up n)) refl (root_up-square n) (root_up-least n m (omega arith)) h

-- the number with these two properties is the root
pub is_root : (n r : ℕ) → n ≤ r * r → ((m : ℕ) → n ≤ m * m → r ≤ m) → r ≡ root_up n
is_root n r square least =
    let below : r ≤ root_up n = least (root_up n) (root_up-square n) in
    let above : root_up n ≤ r = root_up-least n r square in
    omega arith
