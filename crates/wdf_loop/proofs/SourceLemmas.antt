-- The numbers of the sources.
use Rattle.std.proofs.Common.{◌≡◌, ℕ, zero, suc, ◌+◌, ◌<◌, ◌≤◌, Bool, true, false, cond, ◌∷◌, length, get_or, sym, subst, arith}
use Rattle.std.specs.Prelude.{All}
use Rattle.std.specs.List.{range_with_len, filter}
use Rattle.std.proofs.lemmas.List.Elements.{All-filter, All-get_or, filter_passes}
use Rattle.std.proofs.lemmas.List.FromFn.{get_or-range_with_len, length-range_with_len}
use Rattle.wdf_law.specs.Network.{Network, elements, has_source, source_numbers}
use Rattle.wdf_loop.specs.Feeds.{source_at}

-- each number of a range is in it
pub all_from : (a n : ℕ) → All (λ (k : ℕ). (a ≤ k) × (k < a + n)) (range_with_len a n)
all_from a n k d h =
    let small : k < n = omega (arith, h, length-range_with_len a n) in
    let same = get_or-range_with_len a n k d small in
    subst (λ (v : ℕ). (a ≤ v) × (v < a + n)) (sym same) (omega arith, omega (arith, small))

pub source_below : (n : Network) (i : ℕ) → i < length (source_numbers n) → source_at n i < length (elements n)
source_below n i small =
    let inside = All-get_or (λ (k : ℕ). (0 ≤ k) × (k < 0 + length (elements n))) (source_numbers n) i 0 small
    (All-filter (has_source (elements n)) (λ (k : ℕ). (0 ≤ k) × (k < 0 + length (elements n))) (range_with_len 0 (length (elements n))) (all_from 0 (length (elements n)))) in
    omega (arith, inside.1)

-- each is that of a source
pub sources_are : (n : Network) → All (λ (k : ℕ). has_source (elements n) k ≡ true) (source_numbers n)
sources_are n = filter_passes (has_source (elements n)) (range_with_len 0 (length (elements n)))

-- they go up
rising : (p : ℕ → Bool) (a n i k : ℕ) → i < k → k < length (filter p (range_with_len a n)) → get_or (filter p (range_with_len a n)) i 0 < get_or (filter p (range_with_len a n)) k 0
rising p a zero i k less small = absurd (omega (arith, small))
rising p a (suc n) i k less small = by (p a) i k less small (λ i k. rising p (a + 1) n i k)
  where
    by : (c : Bool) (i k : ℕ) → i < k → k < length (cond c (a ∷ filter p (range_with_len (a + 1) n)) (filter p (range_with_len (a + 1) n)))
        → ((i k : ℕ) → i < k → k < length (filter p (range_with_len (a + 1) n)) → get_or (filter p (range_with_len (a + 1) n)) i 0 < get_or (filter p (range_with_len (a + 1) n)) k 0)
        → get_or (cond c (a ∷ filter p (range_with_len (a + 1) n)) (filter p (range_with_len (a + 1) n))) i 0
        < get_or (cond c (a ∷ filter p (range_with_len (a + 1) n)) (filter p (range_with_len (a + 1) n))) k 0
    by false i k less small rest = rest i k less small
    by true i zero less small rest = absurd (omega (arith, less))
    by true zero (suc k) less small rest =
        let inside = All-get_or (λ (v : ℕ). (a + 1 ≤ v) × (v < a + 1 + n)) (filter p (range_with_len (a + 1) n)) k 0 (omega (arith, small))
        (All-filter p (λ (v : ℕ). (a + 1 ≤ v) × (v < a + 1 + n)) (range_with_len (a + 1) n) (all_from (a + 1) n)) in
        omega (arith, inside.0)
    by true (suc i) (suc k) less small rest = rest i k (omega (arith, less)) (omega (arith, small))

pub sources_apart : (n : Network) (i k : ℕ) → i < k → k < length (source_numbers n) → source_at n i ≡ source_at n k → ⊥
sources_apart n i k less small e =
    let up = rising (has_source (elements n)) 0 (length (elements n)) i k less small in omega (arith, up, e)
