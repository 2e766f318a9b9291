-- The root rounded up of a large number, which no computation reaches one by one.
use Rattle.std.proofs.Common.{◌≡◌, ℕ, zero, suc, ◌+◌, ◌*◌, ◌<◌, ◌≤◌, Bool, true, false, if◌then◌else◌, refl, arith}
use Rattle.std.specs.Prelude.{nat_le}
use Rattle.std.proofs.Math.Nat.{mul-le-mul}
use Rattle.std.proofs.lemmas.Bool.Decides.{nat_tests}
use Rattle.wdf_bounds.specs.WordBound.{root_up}

-- a square that is less than another's is one of a smaller number
smaller : (x y : ℕ) → x * x < y * y → x < y
smaller x y h = by (nat_le y x) refl
  where
    by : (b : Bool) → nat_le y x ≡ b → x < y
    by true e =
        let more : y ≤ x = grind (arith, nat_tests) in
        let large : y * y ≤ x * x = mul-le-mul more more in
        absurd (omega arith)
    by false e = grind (arith, nat_tests)

next_square : (r n : ℕ) (b : Bool) → nat_le (suc n) (r * r) ≡ b → n ≤ r * r → suc n ≤ (if b then r else r + 1) * (if b then r else r + 1)
next_square r n true e before = grind (arith, nat_tests)
next_square r n false e before = omega arith

square : (n : ℕ) → n ≤ root_up n * root_up n
unfolding root_up
square zero = omega arith
square (suc n) = next_square (root_up n) n (nat_le (suc n) (root_up n * root_up n)) refl (square n)

-- no smaller number has such a square
next_least : (r n m : ℕ) (b : Bool) → nat_le (suc n) (r * r) ≡ b → (n ≤ m * m → r ≤ m) → suc n ≤ m * m → (if b then r else r + 1) ≤ m
next_least r n m true e least h = least (omega arith)
next_least r n m false e least h =
    let few : r * r < suc n = grind (arith, nat_tests) in
    let less : r < m = smaller r m (omega arith) in
    omega arith

least : (n m : ℕ) → n ≤ m * m → root_up n ≤ m
unfolding root_up
least zero m h = omega arith
least (suc n) m h = next_least (root_up n) n m (nat_le (suc n) (root_up n * root_up n)) refl (least n m) h

-- the root lies above r and is at most one more
pub root_is : (n r : ℕ) → r * r < n → n ≤ (r + 1) * (r + 1) → root_up n ≡ r + 1
root_is n r above within =
    let most : root_up n ≤ r + 1 = least n (r + 1) within in
    let fewest : r < root_up n = smaller r (root_up n) (omega (arith, square n)) in
    omega arith
