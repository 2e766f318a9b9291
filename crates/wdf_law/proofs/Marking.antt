-- Marks say which numbers stand in a list, so a walk with marks finds the first number that an earlier leaf has.
use Rattle.std.proofs.Common.{◌≡◌, ℕ, zero, suc, ◌+◌, ◌<◌, ◌≤◌, Bool, true, false, cond, not, ◌||◌, ◌==◌, if◌then◌else◌, Option, Some, List, [], ◌∷◌, length, replicate, refl, ap, sym, ◌∙◌, subst, arith, slice_index_or, slice_set, length-set, get_or-set_same, get_or-set_other}
use Rattle.std.specs.Prelude.{All}
use Rattle.std.specs.List.{find, range_with_len}
use Rattle.std.proofs.lemmas.List.{length-replicate, get_or-replicate}
use Rattle.std.proofs.lemmas.Bool.Decides.{nat_tests}
use Rattle.std.proofs.lemmas.List.Elements.{All-head, All-tail}
use Rattle.wdf_law.specs.Marks.{first_marked, marked}
use Rattle.wdf_law.specs.Refusal.{is_among, first_repeated, least_missing}

set-read : (marks : List Bool) (x i : ℕ) → i < length marks → slice_index_or (slice_set marks x true) i false ≡ ((x == i) || slice_index_or marks i false)
set-read marks x i h = by (x == i) refl
  where
    by : (b : Bool) → (x == i) ≡ b → slice_index_or (slice_set marks x true) i false ≡ (b || slice_index_or marks i false)
    by true e = let same : x ≡ i = grind (arith, nat_tests) in subst (λ (j : ℕ). slice_index_or (slice_set marks j true) i false ≡ true) (sym same) (get_or-set_same marks i true false h)
    by false e = let other : i ≡ x → ⊥ = grind (arith, nat_tests) in get_or-set_other marks x i true false other

or_moved : (a b c : Bool) → (a || (b || c)) ≡ ((b || a) || c)
or_moved true true c = refl
or_moved true false c = refl
or_moved false true c = refl
or_moved false false c = refl

-- a place is marked where its number stands in the list or was marked before
pub marked-read : (xs : List ℕ) (marks : List Bool) (i : ℕ) → i < length marks → slice_index_or (marked marks xs) i false ≡ (is_among xs i || slice_index_or marks i false)
marked-read [] marks i h = refl
marked-read (x ∷ xs) marks i h =
    marked-read xs (slice_set marks x true) i (subst (λ (n : ℕ). i < n) (sym (length-set marks x true)) h)
    ∙ (ap (λ (b : Bool). is_among xs i || b) (set-read marks x i h) ∙ or_moved (is_among xs i) (x == i) (slice_index_or marks i false))

-- the first number that is marked is the first that is repeated, where the marks are those of the numbers seen
marked-repeated : (xs seen : List ℕ) (marks : List Bool) → length marks ≡ 128 → ((i : ℕ) → i < 128 → slice_index_or marks i false ≡ is_among seen i)
    → All (λ (i : ℕ). i < 128) xs → first_marked marks xs ≡ first_repeated seen xs
marked-repeated [] seen marks long same small = refl
marked-repeated (x ∷ xs) seen marks long same small =
    ap (λ (b : Bool). if b then Some x else first_marked (slice_set marks x true) xs) (same x (All-head (λ (i : ℕ). i < 128) x xs small))
    ∙ ap (λ (o : Option ℕ). if is_among seen x then Some x else o)
    (marked-repeated xs (x ∷ seen) (slice_set marks x true) (length-set marks x true ∙ long)
    (λ i h. set-read marks x i (subst (λ (n : ℕ). i < n) (sym long) h) ∙ ap (λ (b : Bool). (x == i) || b) (same i h))
    (All-tail (λ (i : ℕ). i < 128) x xs small))

abbrev pub no_marks : List Bool
no_marks = replicate 128 false

pub first_marked-repeated : (xs : List ℕ) → All (λ (i : ℕ). i < 128) xs → first_marked no_marks xs ≡ first_repeated [] xs
first_marked-repeated xs small = marked-repeated xs [] no_marks (length-replicate 128 false) (λ i h. get_or-replicate 128 i false false h) small

or_false : (b : Bool) → (b || false) ≡ b
or_false true = refl
or_false false = refl

-- the marks of a list say for every number below 128 whether it stands there
pub no_marks-read : (xs : List ℕ) (i : ℕ) → i < 128 → slice_index_or (marked no_marks xs) i false ≡ is_among xs i
no_marks-read xs i h =
    marked-read xs no_marks i (subst (λ (n : ℕ). i < n) (sym (length-replicate 128 false)) h)
    ∙ (ap (λ (b : Bool). is_among xs i || b) (get_or-replicate 128 i false false h) ∙ or_false (is_among xs i))

-- two tests that agree on a range find the same there
find-same : (p r : ℕ → Bool) (n a : ℕ) → ((j : ℕ) → j < a + n → p j ≡ r j) → find p (range_with_len a n) ≡ find r (range_with_len a n)
find-same p r zero a same = refl
find-same p r (suc n) a same =
    ap (λ (b : Bool). cond b (Some a) (find p (range_with_len (a + 1) n))) (same a (omega arith))
    ∙ ap (λ (o : Option ℕ). cond (r a) (Some a) o) (find-same p r n (a + 1) (λ j h. same j (omega arith)))

-- the least number below the count that is not marked is the least that is missing
pub least_unmarked : (xs : List ℕ) (c : ℕ) → c ≤ 128
    → find (λ (i : ℕ). not (slice_index_or (marked no_marks xs) i false)) (range_with_len 0 c) ≡ least_missing xs c
least_unmarked xs c h =
    find-same (λ (i : ℕ). not (slice_index_or (marked no_marks xs) i false)) (λ (i : ℕ). not (is_among xs i)) c 0
    (λ j k. ap not (no_marks-read xs j (omega arith)))
