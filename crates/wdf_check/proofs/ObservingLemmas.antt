-- The observability matrix, step after step.
use Rattle.std.proofs.Common.{◌≡◌, ℕ, zero, suc, ◌+◌, ◌<◌, Bool, true, false, ◌&&◌, ◌||◌, ◌==◌, if◌then◌else◌, cond, List, [], ◌∷◌, ◌++◌, length, map, set, replicate, get_or, refl, sym, ap, ◌∙◌, subst, arith}
use Rattle.std.specs.Prelude.{All, filter}
use Rattle.std.specs.List.{range_with_len, flat_map, list_any}
use Rattle.std.proofs.lemmas.Bool.{cases_eq, eq-eqb, ne_eqb}
use Rattle.std.proofs.lemmas.List.{append-nil, append_assoc, length-set, length-replicate, map-id, map-append, get_or-set_same, get_or-set_other, get_or-replicate}
use Rattle.std.proofs.lemmas.List.Elements.{All-map, All-head, All-tail}
use Rattle.std.proofs.lemmas.List.FromFn.{fill_by_all, length-map-range_with_len, get_or-map-range_with_len, filter_of_map_range_with_len_more}
use mathlib.Core.Logic.{inl, inr}
use lib.IntN.{ℤ, pos}
use Rattle.wdf_algebra.proofs.Congruences.{residue-lt, residue-residue}
use Rattle.wdf_law.specs.Trees.{LeafElement}
use Rattle.wdf_law.specs.Network.{Network, elements, reactances, absorbing_numbers, is_reactance}
use Rattle.wdf_law.specs.TreeRules.{HasNumbers}
use Rattle.wdf_residue.specs.Residue.{prime, residue}
use Rattle.wdf_residue.specs.Matrix.{IsRow, entry, column_entries}
use Rattle.wdf_check.specs.ResidueStep.{next, steps}
use Rattle.wdf_check.specs.Observability.{unit_state, observed_row, observed_rows, observed_for}
use Rattle.wdf_check.specs.Stepping.{state_of, residues_of, stepped, trajectory}
use Rattle.wdf_check.proofs.ExactSteps.{prime-pos}
use Rattle.wdf_check.proofs.SameSteps.{next-same}
use Rattle.wdf_check.proofs.Silence.{numbers-below}

-- ---- lists of residues

pub residues-row : (c : ℕ) (x : ℕ → ℤ) → IsRow c (residues_of c x)
residues-row c x = record {
  count = length-map-range_with_len (λ (i : ℕ). residue (x i)) 0 c;
  residues = All-map (λ (r : ℕ). r < prime) (λ (i : ℕ). residue (x i)) (range_with_len 0 c) (λ k d h. residue-lt prime (x (get_or (range_with_len 0 c) k d)) prime-pos);
}

pub residues-at : (c : ℕ) (x : ℕ → ℤ) (i : ℕ) → i < c → entry (residues_of c x) i ≡ residue (x i)
residues-at c x i h = get_or-map-range_with_len (λ (i : ℕ). residue (x i)) 0 c i i 0 h (omega arith)

pub unit-list : (c k : ℕ) → k < c → set (replicate c 0) k 1 ≡ residues_of c (unit_state k)
unit-list c k h =
    fill_by_all (λ (i : ℕ). residue (unit_state k i)) (set (replicate c 0) k 1) c 0 (length-set (replicate c 0) k 1 ∙ length-replicate c 0)
    (λ i less. elim (cases_eq i k) [
      | inl at ↦
          ap (λ (j : ℕ). get_or (set (replicate c 0) k 1) j 0) at
          ∙ (get_or-set_same (replicate c 0) k 1 0 (subst (λ (n : ℕ). k < n) (sym (length-replicate c 0)) h)
          ∙ sym (ap (λ (b : Bool). residue (if b then pos 1 else pos 0)) (eq-eqb k i (sym at))))
      | inr other ↦
          get_or-set_other (replicate c 0) k i 1 0 other
          ∙ (get_or-replicate c i 0 0 less
          ∙ sym (ap (λ (b : Bool). residue (if b then pos 1 else pos 0)) (ne_eqb k i (λ e. other (sym e)))))
    ])

-- ---- numbers that pass, one more

pub kept-more : (p : ℕ → Bool) (n : ℕ) → filter p (range_with_len 0 (n + 1)) ≡ filter p (range_with_len 0 n) ++ cond (p n) (n ∷ []) []
kept-more p n =
    ap (filter p) (sym (map-id (range_with_len 0 (n + 1))))
    ∙ (filter_of_map_range_with_len_more p (λ (x : ℕ). x) 0 n n (omega arith)
    ∙ ap (λ (xs : List ℕ). filter p xs ++ cond (p n) (n ∷ []) []) (map-id (range_with_len 0 n)))

pub map-kept-yes : (f : ℕ → List ℕ) (p : ℕ → Bool) (n : ℕ) → p n ≡ true
    → map f (filter p (range_with_len 0 (n + 1))) ≡ map f (filter p (range_with_len 0 n)) ++ f n ∷ []
map-kept-yes f p n passes =
    ap (map f) (kept-more p n ∙ ap (λ (b : Bool). filter p (range_with_len 0 n) ++ cond b (n ∷ []) []) passes)
    ∙ map-append f (filter p (range_with_len 0 n)) (n ∷ [])

pub map-kept-no : (f : ℕ → List ℕ) (p : ℕ → Bool) (n : ℕ) → p n ≡ false → map f (filter p (range_with_len 0 (n + 1))) ≡ map f (filter p (range_with_len 0 n))
map-kept-no f p n fails =
    ap (map f) (kept-more p n ∙ (ap (λ (b : Bool). filter p (range_with_len 0 n) ++ cond b (n ∷ []) []) fails ∙ append-nil (filter p (range_with_len 0 n))))

-- ---- the states, one step further

-- a reactance's number is below the count of the elements
reactance-element : (xs : List LeafElement) (i : ℕ) → list_any (λ (x : LeafElement). (x.number == i) && is_reactance x.kind) xs ≡ true
    → list_any (λ (x : LeafElement). x.number == i) xs ≡ true
reactance-element [] i h = h
reactance-element (x ∷ xs) i h = by (x.number == i) (is_reactance x.kind) (reactance-element xs i) h
  where
    by : (a b : Bool) → (list_any (λ (x : LeafElement). (x.number == i) && is_reactance x.kind) xs ≡ true → list_any (λ (x : LeafElement). x.number == i) xs ≡ true)
        → ((a && b) || list_any (λ (x : LeafElement). (x.number == i) && is_reactance x.kind) xs) ≡ true → (a || list_any (λ (x : LeafElement). x.number == i) xs) ≡ true
    by true b rest e = refl
    by false b rest e = rest e

pub trajectory-next : (n : Network) → HasNumbers n → (t k : ℕ) → stepped n (trajectory n t k) ≡ trajectory n (suc t) k
trajectory-next n numbers t k =
    fill_by_all (λ (i : ℕ). residue (steps n (suc t) (unit_state k) i)) (stepped n (trajectory n t k)) (length (elements n)) 0
    (residues-row (length (elements n)) (next n (state_of (trajectory n t k)))).count
    (λ i h.
    residues-at (length (elements n)) (next n (state_of (trajectory n t k))) i h
    ∙ next-same n (state_of (trajectory n t k)) (steps n t (unit_state k)) i
    (λ j reacts.
    let below : j < length (elements n) = numbers.below j (reactance-element (elements n) j reacts) in
    ap (λ (r : ℕ). residue (pos r)) (residues-at (length (elements n)) (steps n t (unit_state k)) j below)
    ∙ residue-residue prime (steps n t (unit_state k) j) prime-pos))

map-same : (f g : ℕ → List ℕ) (xs : List ℕ) → All (λ (x : ℕ). f x ≡ g x) xs → map f xs ≡ map g xs
map-same f g [] h = refl
map-same f g (x ∷ xs) h = λ i. All-head (λ (x : ℕ). f x ≡ g x) x xs h i ∷ map-same f g xs (All-tail (λ (x : ℕ). f x ≡ g x) x xs h) i

map-map : (f : List ℕ → List ℕ) (g : ℕ → List ℕ) (xs : List ℕ) → map f (map g xs) ≡ map (λ (x : ℕ). f (g x)) xs
map-map f g [] = refl
map-map f g (x ∷ xs) = ap (λ (ys : List (List ℕ)). f (g x) ∷ ys) (map-map f g xs)

pub trajectories-next : (n : Network) → HasNumbers n → (t : ℕ) (ks : List ℕ) → map (stepped n) (map (trajectory n t) ks) ≡ map (trajectory n (t + 1)) ks
trajectories-next n numbers t ks =
    let next : suc t ≡ t + 1 = omega arith in
    map-map (stepped n) (trajectory n t) ks
    ∙ (map-same (λ (k : ℕ). stepped n (trajectory n t k)) (trajectory n (suc t)) ks (λ i d h. trajectory-next n numbers t (get_or ks i d))
    ∙ ap (λ (s : ℕ). map (trajectory n s) ks) next)

-- ---- the rows of a step

entries-map : (f : ℕ → List ℕ) (g : ℕ → ℕ) (j : ℕ) (ks : List ℕ) → ((k : ℕ) → entry (f k) j ≡ g k) → column_entries (map f ks) j ≡ map g ks
entries-map f g j [] same = refl
entries-map f g j (k ∷ ks) same = λ i. same k i ∷ entries-map f g j ks same i

pub observed-step : (n : Network) (t : ℕ) → map (column_entries (map (trajectory n (t + 1)) (reactances n))) (absorbing_numbers n) ≡ observed_rows n t
observed-step n t =
    let next : t + 1 ≡ suc t = omega arith in
    ap (λ (s : ℕ). map (column_entries (map (trajectory n s) (reactances n))) (absorbing_numbers n)) next
    ∙ map-same (column_entries (map (trajectory n (suc t)) (reactances n))) (observed_row n t) (absorbing_numbers n)
    (λ i d h.
    let j : ℕ = get_or (absorbing_numbers n) i d in
    entries-map (trajectory n (suc t)) (λ (k : ℕ). residue (steps n (suc t) (unit_state k) (get_or (absorbing_numbers n) i d))) (get_or (absorbing_numbers n) i d) (reactances n)
    (λ k. residues-at (length (elements n)) (steps n (suc t) (unit_state k)) (get_or (absorbing_numbers n) i d) (numbers-below n i d h)))

flat-more : (f : ℕ → List (List ℕ)) (n a : ℕ) → flat_map f (range_with_len a (suc n)) ≡ flat_map f (range_with_len a n) ++ f (a + n)
flat-more f zero a =
    let at : a + 0 ≡ a = omega arith in
    append-nil (f a) ∙ ap f (sym at)
flat-more f (suc n) a =
    let at : a + 1 + n ≡ a + suc n = omega arith in
    ap (λ (xs : List (List ℕ)). f a ++ xs) (flat-more f n (a + 1) ∙ ap (λ (k : ℕ). flat_map f (range_with_len (a + 1) n) ++ f k) at)
    ∙ sym (append_assoc (f a) (flat_map f (range_with_len (a + 1) n)) (f (a + suc n)))

pub observed-more : (n : Network) (t : ℕ) → observed_for n (t + 1) ≡ observed_for n t ++ observed_rows n t
observed-more n t =
    let next : t + 1 ≡ suc t = omega arith in
    let at : 0 + t ≡ t = omega arith in
    ap (observed_for n) next ∙ (flat-more (observed_rows n) t 0 ∙ ap (λ (s : ℕ). observed_for n t ++ observed_rows n s) at)
