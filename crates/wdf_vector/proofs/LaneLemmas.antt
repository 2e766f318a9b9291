-- What the operations on lanes come to in each lane.
use Rattle.std.proofs.Common.{◌≡◌, ℕ, zero, suc, ◌+◌, ◌-◌, ◌*◌, ◌%◌, ◌^◌, ◌<◌, ◌≤◌, refl, ap, ◌∙◌, arith, List, [], ◌∷◌, map, length, replicate, SFits, to_z, of_z, w64, get_or, unsigned_abs}
use Rattle.std.proofs.lemmas.Int.{ints, fits_signed_mul, int_wrap_fits, wrapping_add_is, wrapping_sub_is, wrapping_mul_is}
use Rattle.std.proofs.lemmas.Simd.{get_or-replicate, get_or-zip2, length-replicate, length-zip2}
use lib.IntN.{ℤ, pos, negsuc, ◌+ℤ◌, ◌-ℤ◌, ◌*ℤ◌}
use lib.Lanes.{zip2}
use Rattle.wdf_vector.specs.Lanes.{lane}

-- a vector of n lanes, each by a formula
pub record Spread (n : ℕ) (xs : List ℕ) (f : ℕ → ℕ) : Type 0 where
  pub long : length xs ≡ n
  pub each : (c : ℕ) → c < n → get_or xs c 0 ≡ f c

-- the bits of numbers,
length-bits : (zs : List ℤ) → length (map (of_z w64) zs) ≡ length zs
length-bits [] = refl
length-bits (z ∷ zs) = ap suc (length-bits zs)

bits-lane : (zs : List ℤ) (c : ℕ) → get_or (map (of_z w64) zs) c 0 ≡ of_z w64 (lane zs c)
bits-lane [] c = refl
bits-lane (z ∷ zs) zero = refl
bits-lane (z ∷ zs) (suc c) = bits-lane zs c

pub bits : (n : ℕ) (zs : List ℤ) → length zs ≡ n → Spread n (map (of_z w64) zs) (λ c. of_z w64 (lane zs c))
bits n zs h = record {
  long = length-bits zs ∙ h;
  each = λ c less. bits-lane zs c;
}

-- the same number in each lane,
pub splat : (n a : ℕ) → Spread n (replicate n a) (λ c. a)
splat n a = record {
  long = length-replicate n a;
  each = λ c less. get_or-replicate n c a 0 less;
}

-- two vectors by an operation
pub both : (n : ℕ) (o : ℕ → ℕ → ℕ) {xs ys : List ℕ} {f g : ℕ → ℕ} → Spread n xs f → Spread n ys g → Spread n (zip2 o xs ys) (λ c. o (f c) (g c))
both n o {xs} {ys} {f} {g} s t =
    let m = s.long in
    let k = t.long in
    record {
      long = length-zip2 o xs ys (omega arith) ∙ m;
      each = λ c less. get_or-zip2 o xs ys c 0 0 0 (omega arith) (omega arith) ∙ (λ i. o (s.each c less i) (t.each c less i));
    }

-- its numbers
numbers-lane : (xs : List ℕ) (c : ℕ) → c < length xs → lane (map (to_z w64) xs) c ≡ to_z w64 (get_or xs c 0)
numbers-lane [] c h = absurd (omega arith)
numbers-lane (x ∷ xs) zero h = refl
numbers-lane (x ∷ xs) (suc c) h = numbers-lane xs c (omega arith)

pub numbers : (n : ℕ) {xs : List ℕ} {f : ℕ → ℕ} → Spread n xs f → (c : ℕ) → c < n → lane (map (to_z w64) xs) c ≡ to_z w64 (f c)
numbers n {xs} s c less =
    let m = s.long in
    numbers-lane xs c (omega arith) ∙ (λ i. to_z w64 (s.each c less i))

-- ---- sums, differences and products that fit

pub number-fits : (a : ℤ) → unsigned_abs a < 2 ^ 63 → SFits w64 a
number-fits (pos n) h = record { sfits = h }
number-fits (negsuc n) h = record { sfits = omega arith }

sum-size : (a b : ℤ) → unsigned_abs (a +ℤ b) ≤ unsigned_abs a + unsigned_abs b
sum-size a b = omega (arith, ints)

difference-size : (a b : ℤ) → unsigned_abs (a -ℤ b) ≤ unsigned_abs a + unsigned_abs b
difference-size a b = omega (arith, ints)

pub sum-bits : (a b : ℤ) → unsigned_abs a + unsigned_abs b < 2 ^ 63 → to_z w64 ((of_z w64 a + of_z w64 b) % 2 ^ 64) ≡ a +ℤ b
sum-bits a b h = wrapping_add_is w64 a b (number-fits a (omega arith)) (number-fits b (omega arith)) ∙ int_wrap_fits w64 (a +ℤ b) (number-fits (a +ℤ b) (let s = sum-size a b in omega arith))

pub difference-bits : (a b : ℤ) → unsigned_abs a + unsigned_abs b < 2 ^ 63 → to_z w64 ((of_z w64 a + (2 ^ 64 - of_z w64 b)) % 2 ^ 64) ≡ a -ℤ b
difference-bits a b h = wrapping_sub_is w64 a b (number-fits a (omega arith)) (number-fits b (omega arith)) ∙ int_wrap_fits w64 (a -ℤ b) (number-fits (a -ℤ b) (let s = difference-size a b in omega arith))

pub product-bits : (m : ℕ) (b : ℤ) → m * unsigned_abs b < 2 ^ 63 → m < 2 ^ 63 → SFits w64 b → to_z w64 ((m * of_z w64 b) % 2 ^ 64) ≡ pos m *ℤ b
product-bits m b h small f =
    wrapping_mul_is w64 (pos m) b (number-fits (pos m) small) f
    ∙ int_wrap_fits w64 (pos m *ℤ b) (fits_signed_mul w64 (pos m) b m (unsigned_abs b) (omega arith) (omega arith) h)
