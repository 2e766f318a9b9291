-- Numbers below 2·P and products of residues, brought below P.
use Rattle.std.proofs.Common.{◌≡◌, ℕ, ◌+◌, ◌-◌, ◌*◌, ◌/◌, ◌%◌, ◌^◌, ◌<◌, ◌≤◌, sym, ap, ◌∙◌, arith}
use Rattle.std.proofs.Math.Nat.{mod-lt, mod-eq_of_lt, mod-eq-sub-mod, mod-add-div, add-mul-mod_self_left}
use Rattle.std.proofs.lemmas.Nat.{mul-lt, and_mask}
use Rattle.std.specs.Prelude.{bit_and}
use lib.IntN.{pos, ◌-ℤ◌}
use borrow.Author.Differences.{ints}
use Rattle.wdf_residue.specs.Residue.{prime, residue}
use Rattle.wdf_algebra.proofs.Congruences.{differs-same}

pub kept : (n : ℕ) → n < prime → n ≡ n % prime
kept n small = sym (mod-eq_of_lt small)

pub taken_off : (n : ℕ) → prime ≤ n → n < 2 * prime → n - prime ≡ n % prime
taken_off n large small =
    let less : n - prime < prime = omega arith in
    sym (mod-eq-sub-mod large ∙ mod-eq_of_lt less)

pub difference : (a b : ℕ) → b < prime → (a + (prime - b)) % prime ≡ residue (pos a -ℤ pos b)
difference a b small =
    let whole : prime - b + b ≡ prime = omega arith in
    differs-same prime (pos (a + (prime - b))) (pos a -ℤ pos b) (omega arith) (record { times = pos 1; is = omega (arith, ints) })

pub product_fits : (a b : ℕ) → a < prime → b < prime → a * b < prime * prime
product_fits a b first second = mul-lt a b prime prime first second

-- for sums, differences and products
pub ruleset reducing = (kept, taken_off, difference, product_fits)

pub low_bits : (n : ℕ) → bit_and n prime ≡ n % 2 ^ 61
low_bits n = and_mask n 61

pub low_few : (n : ℕ) → n % 2 ^ 61 < 2 ^ 61
low_few n = mod-lt n (omega arith)

pub high_few : (n : ℕ) → n < prime * prime → n / 2 ^ 61 < prime
high_few n small =
    let split : n % 2 ^ 61 + 2 ^ 61 * (n / 2 ^ 61) ≡ n = mod-add-div n (2 ^ 61) in
    omega arith

pub folded_mod : (n : ℕ) → (n % 2 ^ 61 + n / 2 ^ 61) % prime ≡ n % prime
folded_mod n =
    let split : n % 2 ^ 61 + 2 ^ 61 * (n / 2 ^ 61) ≡ n = mod-add-div n (2 ^ 61) in
    let at : n % 2 ^ 61 + n / 2 ^ 61 + prime * (n / 2 ^ 61) ≡ n = omega arith in
    sym (add-mul-mod_self_left (n % 2 ^ 61 + n / 2 ^ 61) prime (n / 2 ^ 61)) ∙ ap (λ (k : ℕ). k % prime) at

-- for the fold of a product
pub ruleset folding = (low_bits, low_few, high_few, folded_mod)
