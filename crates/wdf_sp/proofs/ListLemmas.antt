-- Sums over a list, and the list where two elements became one.
use Rattle.std.proofs.Common.{◌≡◌, ℕ, suc, ◌+◌, ◌<◌, ◌≤◌, List, [], ◌∷◌, length, get_or, set, ⊎_elim, ap, sym, subst, arith}
use Rattle.std.specs.List.{sum_by, remove, All}
use Rattle.std.proofs.lemmas.Bool.{cases_lt}
use Rattle.std.proofs.lemmas.List.{length-set}
use Rattle.std.proofs.lemmas.List.Edits.{length-remove, get_or-remove_below, get_or-remove_above}
use Rattle.std.proofs.lemmas.List.Elements.{All-set}
use Rattle.std.proofs.lemmas.List.Sums.{sum_by-cons, sum_by-set, sum_by-remove, get_or-le-sum_by}

pub All-remove : {X : Type 0} (P : X → Type 0) (xs : List X) (j : ℕ) → j < length xs → All P xs → All P (remove xs j)
All-remove P xs j within all = λ k d h.
    let n = length-remove xs j within in
    ⊎_elim (λ below. subst P (sym (get_or-remove_below xs j d k below within)) (all k d (omega arith)))
    (λ above. subst P (sym (get_or-remove_above xs j d k above within)) (all (k + 1) d (omega arith))) (cases_lt k j)

pub All-merged : {X : Type 0} (P : X → Type 0) (xs : List X) (i j : ℕ) (c : X) → j < length xs → P c → All P xs → All P (set (remove xs j) i c)
All-merged P xs i j c within here all = All-set P (remove xs j) i c here (All-remove P xs j within all)

pub length-merged : {X : Type 0} (xs : List X) (i j : ℕ) (c : X) → j < length xs → length (set (remove xs j) i c) + 1 ≡ length xs
length-merged xs i j c within = let n = length-remove xs j within in omega (arith, length-set (remove xs j) i c)

pub sum_by-merged : {X : Type 0} (f : X → ℕ) (xs : List X) (i j : ℕ) (c d : X) → i < j → j < length xs
    → sum_by f (set (remove xs j) i c) + (f (get_or xs i d) + f (get_or xs j d)) ≡ sum_by f xs + f c
sum_by-merged f xs i j c d below within =
    let n = length-remove xs j within in
    let changed = sum_by-set f (remove xs j) i c d (omega arith) in
    let same = ap f (get_or-remove_below xs j d i below within) in
    let out = sum_by-remove f xs j d within in
    omega arith

-- a sum that is not 0 has a term that is not
pub somewhere : {X : Type 0} (f : X → ℕ) (xs : List X) (d : X) → 0 < sum_by f xs → (k : ℕ) × ((k < length xs) × (0 < f (get_or xs k d)))
somewhere f [] d h = absurd (omega arith)
somewhere {X} f (x ∷ xs) d h =
    ⊎_elim (λ some. (0, (omega arith, some)))
    (λ none. later (somewhere f xs d (omega (arith, sum_by-cons f x xs)))) (cases_lt 0 (f x))
  where
    later : (k : ℕ) × ((k < length xs) × (0 < f (get_or xs k d))) → (k : ℕ) × ((k < length (x ∷ xs)) × (0 < f (get_or (x ∷ xs) k d)))
    later w = (suc w.0, (omega (arith, w.1.0), w.1.1))

-- terms at different places
pub two_of : {X : Type 0} (f : X → ℕ) (xs : List X) (i j : ℕ) (d : X) → i < j → j < length xs → f (get_or xs i d) + f (get_or xs j d) ≤ sum_by f xs
two_of f xs i j d below within =
    let n = length-remove xs j within in
    let same = ap f (get_or-remove_below xs j d i below within) in
    let one = get_or-le-sum_by f (remove xs j) i d (omega arith) in
    let out = sum_by-remove f xs j d within in
    omega arith

pub three_of : {X : Type 0} (f : X → ℕ) (xs : List X) (i j k : ℕ) (d : X) → i < j → j < k → k < length xs
    → f (get_or xs i d) + (f (get_or xs j d) + f (get_or xs k d)) ≤ sum_by f xs
three_of f xs i j k d first second within =
    let n = length-remove xs k within in
    let same1 = ap f (get_or-remove_below xs k d i (omega arith) within) in
    let same2 = ap f (get_or-remove_below xs k d j second within) in
    let two = two_of f (remove xs k) i j d first (omega arith) in
    let out = sum_by-remove f xs k d within in
    omega arith

pub two_apart : {X : Type 0} (f : X → ℕ) (xs : List X) (i j : ℕ) (d : X) → (i ≡ j → ⊥) → i < length xs → j < length xs → f (get_or xs i d) + f (get_or xs j d) ≤ sum_by f xs
two_apart f xs i j d apart within1 within2 =
    ⊎_elim (λ below. two_of f xs i j d below within2) (λ above. omega (arith, two_of f xs j i d (omega arith) within1)) (cases_lt i j)

pub three_apart : {X : Type 0} (f : X → ℕ) (xs : List X) (i j k : ℕ) (d : X) → i < j → j < length xs → k < length xs → (k ≡ i → ⊥) → (k ≡ j → ⊥)
    → f (get_or xs i d) + (f (get_or xs j d) + f (get_or xs k d)) ≤ sum_by f xs
three_apart f xs i j k d order within1 within2 not_first not_second =
    ⊎_elim (λ below. omega (arith, three_of f xs k i j d below order within1))
    (λ above. ⊎_elim (λ below. omega (arith, three_of f xs i k j d (omega arith) below within1))
    (λ last. omega (arith, three_of f xs i j k d order (omega arith) within2)) (cases_lt k j))
    (cases_lt k i)
