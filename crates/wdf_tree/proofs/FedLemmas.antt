-- What the inputs by element are after each source's value is written at its number.
use Rattle.std.proofs.Common.{◌≡◌, ◌≢◌, ℕ, zero, suc, ◌+◌, ◌<◌, ◌≤◌, Bool, true, false, cond, ◌==◌, List, [], ◌∷◌, length, map, take, refl, ap, ◌∙◌, subst, arith}
use Rattle.std.specs.Prelude.{ℤ, pos, slice_set, slice_index_or, filter}
use Rattle.std.specs.List.{range_with_len}
use Rattle.std.proofs.lemmas.Bool.{eqb-true, eqb-false}
use Rattle.std.proofs.lemmas.List.{get_or-set_same, get_or-set_other, length-set}
use Rattle.wdf_law.specs.OutputRule.{scaled_up}
use Rattle.wdf_law.specs.Run.{entry}
use Rattle.wdf_tree.specs.Places.{at_place}
use Rattle.wdf_tree.specs.Numbers.{fed}

-- one source more
fed_suc : (guard : ℕ) (ks : List ℕ) (zs : List ℤ) (xs : List ℤ) (j : ℕ) → j < length ks → j < length zs
    → fed guard (take (suc j) ks) (take (suc j) zs) xs ≡ slice_set (fed guard (take j ks) (take j zs) xs) (slice_index_or ks j 0) (scaled_up guard (slice_index_or zs j (pos 0)))
fed_suc guard [] zs xs j h k = absurd (omega arith)
fed_suc guard (k ∷ ks) [] xs j h i = absurd (omega arith)
fed_suc guard (k ∷ ks) (z ∷ zs) xs zero h i = refl
fed_suc guard (k ∷ ks) (z ∷ zs) xs (suc j) h i = fed_suc guard ks zs (slice_set xs k (scaled_up guard z)) j (omega arith) (omega arith)

pub fed_more : (guard : ℕ) (ks : List ℕ) (zs : List ℤ) (xs : List ℤ) (j : ℕ) → j < length ks → j < length zs
    → fed guard (take (j + 1) ks) (take (j + 1) zs) xs ≡ slice_set (fed guard (take j ks) (take j zs) xs) (slice_index_or ks j 0) (scaled_up guard (slice_index_or zs j (pos 0)))
fed_more guard ks zs xs j h k =
    let next : j + 1 ≡ suc j = omega arith in
    ap (λ (n : ℕ). fed guard (take n ks) (take n zs) xs) next ∙ fed_suc guard ks zs xs j h k

-- Below, ks are the numbers behind a that pass. A number before a keeps its place.
fed_other : (p : ℕ → Bool) (a n guard : ℕ) (zs xs : List ℤ) (i : ℕ) → i < a → at_place (fed guard (filter p (range_with_len a n)) zs xs) i ≡ at_place xs i
fed_other p a zero guard zs xs i h = refl
fed_other p a (suc n) guard zs xs i h = by (p a) (filter p (range_with_len (a + 1) n)) zs (λ ys us. fed_other p (a + 1) n guard ys us i (omega arith))
  where
    by : (b : Bool) (ks : List ℕ) (zs : List ℤ) → ((ys us : List ℤ) → at_place (fed guard ks ys us) i ≡ at_place us i) → at_place (fed guard (cond b (a ∷ ks) ks) zs xs) i ≡ at_place xs i
    by true ks [] rest = refl
    by true ks (z ∷ zs) rest =
        let apart : i ≢ a = λ e. absurd (omega arith) in
        rest zs (slice_set xs a (scaled_up guard z)) ∙ get_or-set_other xs a i (scaled_up guard z) (pos 0) apart
    by false ks zs rest = rest zs xs

-- one more number, with its value, at the place i
fed_first : (a guard : ℕ) (z : ℤ) (ks : List ℕ) (zs xs : List ℤ) (i : ℕ) (c : Bool) → (a == i) ≡ c → a < length xs
    → (a ≡ i → at_place (fed guard ks zs (slice_set xs a (scaled_up guard z))) i ≡ at_place (slice_set xs a (scaled_up guard z)) i)
    → (a ≢ i → at_place (fed guard ks zs (slice_set xs a (scaled_up guard z))) i ≡ entry ks (map (scaled_up guard) zs) i)
    → at_place (fed guard ks zs (slice_set xs a (scaled_up guard z))) i ≡ cond c (scaled_up guard z) (entry ks (map (scaled_up guard) zs) i)
fed_first a guard z ks zs xs i true e room here there =
    let first : a ≡ i = eqb-true a i e in
    here first ∙ subst (λ (j : ℕ). at_place (slice_set xs a (scaled_up guard z)) j ≡ scaled_up guard z) first (get_or-set_same xs a (scaled_up guard z) (pos 0) room)
fed_first a guard z ks zs xs i false e room here there = there (eqb-false a i e)

-- each number that passes has its own value
pub fed_entry : (p : ℕ → Bool) (a n guard : ℕ) (zs xs : List ℤ) (i : ℕ) → p i ≡ true → a ≤ i → i < a + n → a + n ≤ length xs
    → length zs ≡ length (filter p (range_with_len a n))
    → at_place (fed guard (filter p (range_with_len a n)) zs xs) i ≡ entry (filter p (range_with_len a n)) (map (scaled_up guard) zs) i
fed_entry p a zero guard zs xs i pass low high long same = absurd (omega arith)
fed_entry p a (suc n) guard zs xs i pass low high long same =
    by (p a) refl zs same
    (λ ys us before. fed_other p (a + 1) n guard ys us i before)
    (λ ys us apart room each. fed_entry p (a + 1) n guard ys us i pass (omega arith) (omega arith) (omega arith) each)
  where
    by : (b : Bool) → p a ≡ b → (zs : List ℤ) → length zs ≡ length (cond b (a ∷ filter p (range_with_len (a + 1) n)) (filter p (range_with_len (a + 1) n)))
        → ((ys us : List ℤ) → i < a + 1 → at_place (fed guard (filter p (range_with_len (a + 1) n)) ys us) i ≡ at_place us i)
        → ((ys us : List ℤ) → a ≢ i → a + suc n ≤ length us → length ys ≡ length (filter p (range_with_len (a + 1) n))
        → at_place (fed guard (filter p (range_with_len (a + 1) n)) ys us) i ≡ entry (filter p (range_with_len (a + 1) n)) (map (scaled_up guard) ys) i)
        → at_place (fed guard (cond b (a ∷ filter p (range_with_len (a + 1) n)) (filter p (range_with_len (a + 1) n))) zs xs) i
        ≡ entry (cond b (a ∷ filter p (range_with_len (a + 1) n)) (filter p (range_with_len (a + 1) n))) (map (scaled_up guard) zs) i
    by true here [] same before behind = absurd (omega arith)
    by true here (z ∷ zs) same before behind =
        let longer : length (slice_set xs a (scaled_up guard z)) ≡ length xs = length-set xs a (scaled_up guard z) in
        fed_first a guard z (filter p (range_with_len (a + 1) n)) zs xs i (a == i) refl (omega arith)
        (λ e. before zs (slice_set xs a (scaled_up guard z)) (omega arith))
        (λ apart. behind zs (slice_set xs a (scaled_up guard z)) apart (omega arith) (omega arith))
    by false here zs same before behind =
        let apart : a ≢ i = λ e. absurd (cc (here, pass, ap p e)) in
        behind zs xs apart long same
