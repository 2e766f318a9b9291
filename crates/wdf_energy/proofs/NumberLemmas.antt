-- The numbers of the elements of a kind: they are below the count of the elements, and of the kind.
use Rattle.std.proofs.Common.{◌≡◌, ℕ, zero, suc, ◌+◌, ◌<◌, ◌≤◌, Bool, true, List, length, arith}
use Rattle.std.specs.Prelude.{All}
use Rattle.std.specs.List.{range_with_len}
use Rattle.std.proofs.lemmas.List.Elements.{All-nil, All-cons, All-filter, filter_passes}
use Rattle.wdf_law.specs.Trees.{LeafElement}
use Rattle.wdf_law.specs.Network.{numbers_with}

range-below : (a n m : ℕ) → a + n ≤ m → All (λ (j : ℕ). j < m) (range_with_len a n)
range-below a zero m h = All-nil (λ (j : ℕ). j < m)
range-below a (suc n) m h = All-cons (λ (j : ℕ). j < m) a (range_with_len (a + 1) n) (omega arith) (range-below (a + 1) n m (omega arith))

pub numbers-below : (has : List LeafElement → ℕ → Bool) (xs : List LeafElement) → All (λ (j : ℕ). j < length xs) (numbers_with has xs)
numbers-below has xs = All-filter (has xs) (λ (j : ℕ). j < length xs) (range_with_len 0 (length xs)) (range-below 0 (length xs) (length xs) (omega arith))

pub numbers-pass : (has : List LeafElement → ℕ → Bool) (xs : List LeafElement) → All (λ (j : ℕ). has xs j ≡ true) (numbers_with has xs)
numbers-pass has xs = filter_passes (has xs) (range_with_len 0 (length xs))
