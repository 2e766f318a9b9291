-- How large an observability matrix is.
use Rattle.std.proofs.Common.{◌≡◌, ℕ, zero, suc, ◌+◌, ◌*◌, ◌≤◌, Bool, List, length, arith}
use Rattle.std.specs.Prelude.{filter}
use Rattle.std.specs.List.{range_with_len, flat_map}
use Rattle.std.proofs.Math.Nat.{mul-le-mul}
use Rattle.std.proofs.lemmas.List.{length-append, length-map}
use Rattle.std.proofs.lemmas.List.Sums.{length-filter, count_by-le-length}
use Rattle.std.proofs.lemmas.List.FromFn.{length-range_with_len}
use Rattle.wdf_law.specs.Network.{Network, IsNetwork, elements, reactances, absorbing_numbers, has_reactance, has_absorbing}
use Rattle.wdf_check.specs.Observability.{observability, observed_row, observed_rows}

kept-le : (p : ℕ → Bool) (n : ℕ) → length (filter p (range_with_len 0 n)) ≤ n
kept-le p n =
    let same = length-filter p (range_with_len 0 n) in
    let most = count_by-le-length p (range_with_len 0 n) in
    let long = length-range_with_len 0 n in
    omega arith

length-rows : (f : ℕ → List (List ℕ)) (c : ℕ) → ((t : ℕ) → length (f t) ≡ c) → (n a : ℕ) → length (flat_map f (range_with_len a n)) ≡ n * c
length-rows f c long zero a = omega arith
length-rows f c long (suc n) a =
    let first = long a in
    let rest = length-rows f c long n (a + 1) in
    let whole = length-append (f a) (flat_map f (range_with_len (a + 1) n)) in
    let more : suc n * c ≡ c + n * c = omega arith in
    omega arith

pub columns-le : (n : Network) → IsNetwork n → (observability n).columns ≤ 128
columns-le n rules =
    let kept = kept-le (has_reactance (elements n)) (length (elements n)) in
    let most = rules.most in
    omega arith

pub rows-le : (n : Network) → IsNetwork n → length (observability n).rows ≤ 128 * 128
rows-le n rules =
    let columns = columns-le n rules in
    let kept = kept-le (has_absorbing (elements n)) (length (elements n)) in
    let most = rules.most in
    let absorbing : length (absorbing_numbers n) ≤ 128 = omega arith in
    let long = length-rows (observed_rows n) (length (absorbing_numbers n)) (λ t. length-map (absorbing_numbers n) (observed_row n t)) (length (reactances n)) 0 in
    let product : length (reactances n) * length (absorbing_numbers n) ≤ 128 * 128 = mul-le-mul columns absorbing in
    omega arith
