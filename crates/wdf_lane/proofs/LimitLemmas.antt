-- More output samples are made.
use Rattle.std.proofs.Common.{◌≡◌, ℕ, zero, suc, ◌+◌, ◌-◌, ◌*◌, ◌<◌, ◌≤◌, Bool, true, false, List, [], ◌∷◌, ◌++◌, length, take, drop, set, get_or, map, refl, sym, ap, subst, ◌∙◌, arith, take-add, length-append, ℤ}
use Rattle.std.specs.Prelude.{All, filter, cond, not, ◌||◌, pos, neg_ℤ, ◌-ℤ◌, ◌^◌, int_lt}
use Rattle.std.specs.Int.{int_max, int_min}
use Rattle.std.specs.Ordering.{int_eq}
use Rattle.std.proofs.lemmas.Int.{ints}
use Rattle.std.proofs.lemmas.Nat.{pow_pos}
use Rattle.std.proofs.lemmas.List.Sums.{length-filter, count_by-le-length}
use Rattle.std.proofs.lemmas.Simd.{map-map}
use Rattle.wdf_algebra.specs.Truncation.{trunc}
use Rattle.wdf_law.specs.OutputRule.{limited as limiting, output_of}
use Rattle.wdf_loop.specs.Limiting.{is_limited, is_outside}
use Rattle.wdf_algebra.specs.Samples.{IsSampleValue, IsSampleWidth}
use Rattle.wdf_lane.specs.Lanes.{changes}
use Rattle.std.proofs.lemmas.List.{take_more, take_more_set, take_all, map-append}
use Rattle.std.proofs.lemmas.List.Elements.{filter-append}
use Rattle.std.proofs.lemmas.Slice.{take-put_mid}
use borrow.Rule.Slice.PartMut.{put_mid}

-- how many of the values pass is how many of the numbers come to one that does
pub length-filter_map : {X Y : Type 0} (p : Y → Bool) (f : X → Y) (xs : List X) → length (filter p (map f xs)) ≡ length (filter (λ x. p (f x)) xs)
length-filter_map p f [] = refl
length-filter_map p f (x ∷ xs) = by_test (p (f x)) (f x) x (filter p (map f xs)) (filter (λ z. p (f z)) xs) (length-filter_map p f xs)
  where
    by_test : {X Y : Type 0} (t : Bool) (y : Y) (x : X) (ys : List Y) (xs : List X) → length ys ≡ length xs → length (cond t (y ∷ ys) ys) ≡ length (cond t (x ∷ xs) xs)
    by_test true y x ys xs e = ap suc e
    by_test false y x ys xs e = e

-- no more pass than there are
pub length-filter-le : {X : Type 0} (p : X → Bool) (xs : List X) → length (filter p xs) ≤ length xs
length-filter-le p xs = subst (λ (n : ℕ). n ≤ length xs) (sym (length-filter p xs)) (count_by-le-length p xs)

-- four more values
pub four_made : (f : ℤ → ℤ) (k : ℕ) (waves out four : List ℤ) → k * 4 + 4 ≤ length waves → length out ≡ length waves
    → take (k * 4) out ≡ map f (take (k * 4) waves) → four ≡ map f (take (k * 4 + 4 - k * 4) (drop (k * 4) waves)) → length four ≡ 4
    → take ((k + 1) * 4) (put_mid (k * 4) (k * 4 + 4 - k * 4) out four) ≡ map f (take ((k + 1) * 4) waves)
four_made f k waves out four inside room so_far is long =
    let size : k * 4 + 4 - k * 4 ≡ 4 = omega arith in
    let here : four ≡ map f (take 4 (drop (k * 4) waves)) = is ∙ ap (λ (n : ℕ). map f (take n (drop (k * 4) waves))) size in
    let last : k * 4 + 4 ≡ (k + 1) * 4 = omega arith in
    take-put_mid (k * 4) (k * 4 + 4 - k * 4) out four ((k + 1) * 4) (omega arith) (omega arith)
    ∙ ((λ i. so_far i ++ here i)
    ∙ sym (ap (λ (n : ℕ). map f (take n waves)) (sym last)
    ∙ (ap (map f) (take-add (k * 4) 4 waves)
    ∙ map-append f (take (k * 4) waves) (take 4 (drop (k * 4) waves)))))

-- four more counted
pub four_counted : (p : ℤ → Bool) (k before more : ℕ) (waves : List ℤ) → before ≡ length (filter p (take (k * 4) waves))
    → more ≡ length (filter p (take (k * 4 + 4 - k * 4) (drop (k * 4) waves))) → before + more ≡ length (filter p (take ((k + 1) * 4) waves))
four_counted p k before more waves so_far is =
    let size : k * 4 + 4 - k * 4 ≡ 4 = omega arith in
    let here : more ≡ length (filter p (take 4 (drop (k * 4) waves))) = is ∙ ap (λ (n : ℕ). length (filter p (take n (drop (k * 4) waves)))) size in
    let last : k * 4 + 4 ≡ (k + 1) * 4 = omega arith in
    (λ i. so_far i + here i)
    ∙ sym (ap (λ (n : ℕ). length (filter p (take n waves))) (sym last)
    ∙ (ap (λ (l : List ℤ). length (filter p l)) (take-add (k * 4) 4 waves)
    ∙ (ap (λ (l : List ℤ). length l) (filter-append p (take (k * 4) waves) (take 4 (drop (k * 4) waves)))
    ∙ length-append (filter p (take (k * 4) waves)) (filter p (take 4 (drop (k * 4) waves))))))

-- one more value
pub one_made : (f : ℤ → ℤ) (k : ℕ) (waves out : List ℤ) (z d : ℤ) → k < length waves → length out ≡ length waves
    → take k out ≡ map f (take k waves) → z ≡ f (get_or waves k d) → take (k + 1) (set out k z) ≡ map f (take (k + 1) waves)
one_made f k waves out z d inside room so_far is =
    take_more_set out k z (omega arith)
    ∙ ((λ i. so_far i ++ is i ∷ [])
    ∙ sym (ap (map f) (take_more waves k d inside) ∙ map-append f (take k waves) (get_or waves k d ∷ [])))

-- all values
pub all_made : (f : ℤ → ℤ) (k : ℕ) (waves out : List ℤ) → length waves ≤ k → length out ≡ length waves → take k out ≡ map f (take k waves) → out ≡ map f waves
all_made f k waves out all room so_far =
    sym (take_all k out (omega arith)) ∙ (so_far ∙ ap (map f) (take_all k waves all))

-- each output sample is a value of its width
limited-range : (bits : ℕ) (z : ℤ) → IsSampleWidth bits → IsSampleValue bits (limiting bits z)
limited-range bits z w = grind (arith, ints)

pub outputs-range : (down bits : ℕ) (waves : List ℤ) → IsSampleWidth bits → All (IsSampleValue bits) (map (output_of down bits) waves)
outputs-range down bits [] w k d h = absurd (omega arith)
outputs-range down bits (z ∷ zs) w zero d h = limited-range bits (trunc z (2 ^ down)) w
outputs-range down bits (z ∷ zs) w (suc k) d h = outputs-range down bits zs w k d (omega arith)

-- ---- a group of four

-- a number that is within the range is its own nearest value, and no other is
unchanged : (l : ℕ) (z : ℤ) → 0 < l → int_eq z (int_max (neg_ℤ (pos l)) (int_min (pos l -ℤ pos 1) z)) ≡ not (int_lt z (neg_ℤ (pos l)) || not (int_lt z (pos l)))
unchanged l z h = grind (arith, ints)

-- the limited values, from the quotients
pub limits_made : (down bits : ℕ) (low high : ℤ) (waves values limited : List ℤ) → low ≡ neg_ℤ (pos (2 ^ (bits - 1))) → high ≡ pos (2 ^ (bits - 1)) -ℤ pos 1
    → values ≡ map (λ w. trunc w (2 ^ down)) waves → limited ≡ map (λ z. int_max low (int_min high z)) values → limited ≡ map (output_of down bits) waves
limits_made down bits low high waves values limited el eh quotients nearest =
    nearest
    ∙ ((λ i. map (λ z. int_max (el i) (int_min (eh i) z)) (quotients i))
    ∙ map-map (λ z. int_max (neg_ℤ (pos (2 ^ (bits - 1)))) (int_min (pos (2 ^ (bits - 1)) -ℤ pos 1) z)) (λ w. trunc w (2 ^ down)) waves)

-- how many were limited
changed : (bits : ℕ) (zs : List ℤ) → changes zs (map (limiting bits) zs) ≡ length (filter (is_outside bits) zs)
changed bits [] = refl
changed bits (z ∷ zs) =
    (λ i. cond {A = ℕ} (unchanged (2 ^ (bits - 1)) z (pow_pos (bits - 1)) i) 0 1 + changed bits zs i) ∙ by_test (is_outside bits z) z (filter (is_outside bits) zs)
  where
    by_test : (t : Bool) (x : ℤ) (xs : List ℤ) → cond {A = ℕ} (not t) 0 1 + length xs ≡ length (cond t (x ∷ xs) xs)
    by_test true x xs = omega arith
    by_test false x xs = omega arith

pub limits_counted : (down bits : ℕ) (waves values limited : List ℤ)
    → values ≡ map (λ w. trunc w (2 ^ down)) waves → limited ≡ map (output_of down bits) waves → changes values limited ≡ length (filter (is_limited down bits) waves)
limits_counted down bits waves values limited quotients made =
    (λ i. changes (quotients i) (made i))
    ∙ (ap (λ (l : List ℤ). changes (map (λ w. trunc w (2 ^ down)) waves) l) (sym (map-map (limiting bits) (λ w. trunc w (2 ^ down)) waves))
    ∙ (changed bits (map (λ w. trunc w (2 ^ down)) waves)
    ∙ length-filter_map (is_outside bits) (λ w. trunc w (2 ^ down)) waves))
