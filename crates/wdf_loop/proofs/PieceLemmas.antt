-- Room for a piece.
use Rattle.std.proofs.Common.{◌≡◌, ℕ, ◌+◌, ◌-◌, ◌*◌, ◌/◌, ◌<◌, ◌≤◌, ◌^◌, List, length, take, drop, ap, sym, ◌∙◌, subst, arith, length-take-le}
use Rattle.std.proofs.Math.Nat.{add-mul, mul-div_cancel, mul-le-mul}
use Rattle.std.proofs.lemmas.List.{length-drop}
use Rattle.std.proofs.lemmas.Slice.{between-put_mid}
use borrow.Rule.Slice.PartMut.{put_mid}

pub few_places : (count piece all : ℕ) → count ≤ piece → piece ≤ 256 → all ≤ 8 → count * all < 2 ^ 60
few_places count piece all most few runs = let h : count * all ≤ piece * 8 = mul-le-mul most runs in omega (arith, h, few)

pub room_taken : {X : Type 0} (count piece n rows : ℕ) (xs : List X) → count ≤ piece → n ≡ rows → length xs ≡ piece * rows → length (take (count * n) xs) ≡ count * rows
room_taken count piece n rows xs most same long =
    let fits : count * rows ≤ piece * rows = mul-le-mul most (omega arith) in
    ap (λ (k : ℕ). length (take (count * k) xs)) same ∙ length-take-le (count * rows) xs (omega (arith, fits, long))

-- ---- slices

wide : (at count s : ℕ) → (at + count) * s - at * s ≡ count * s
wide at count s = let apart : (at + count) * s ≡ at * s + count * s = add-mul at count s in omega (arith, apart)

-- those of so many rows from `at` on
pub slice_is : {X : Type 0} (at count s r : ℕ) (xs : List X) → s ≡ r → take ((at + count) * s - at * s) (drop (at * s) xs) ≡ take (count * r) (drop (at * r) xs)
slice_is at count s r xs same =
    ap (λ (k : ℕ). take k (drop (at * s) xs)) (wide at count s) ∙ ap (λ (k : ℕ). take (count * k) (drop (at * k) xs)) same

pub slice_long : {X : Type 0} (at count s r : ℕ) (xs : List X) → s ≡ r → (at + count) * r ≤ length xs → length (take ((at + count) * s - at * s) (drop (at * s) xs)) ≡ count * r
slice_long at count s r xs same within =
    let apart : (at + count) * r ≡ at * r + count * r = add-mul at count r in
    ap (λ (own : List _). length own) (slice_is at count s r xs same)
    ∙ length-take-le (count * r) (drop (at * r) xs) (omega (arith, length-drop (at * r) xs, apart, within))

-- what was put in their place
pub slice_put : {X : Type 0} (at count s r : ℕ) (xs ys : List X) → s ≡ r → (at + count) * r ≤ length xs → length ys ≡ length (take ((at + count) * s - at * s) (drop (at * s) xs)) → take (count * r) (drop (at * r) (put_mid (at * s) ((at + count) * s - at * s) xs ys)) ≡ ys
slice_put at count s r xs ys same within long =
    let apart : (at + count) * s ≡ at * s + count * s = add-mul at count s in
    let room : (at + count) * s ≤ length xs = subst (λ (k : ℕ). (at + count) * k ≤ length xs) (sym same) within in
    sym (slice_is at count s r (put_mid (at * s) ((at + count) * s - at * s) xs ys) same)
    ∙ between-put_mid (at * s) ((at + count) * s - at * s) xs ys ((at + count) * s) (omega (arith, apart, room))
    (long ∙ length-take-le ((at + count) * s - at * s) (drop (at * s) xs) (omega (arith, length-drop (at * s) xs, apart, room)))

-- how many rows there are
pub quotient : (len r all count : ℕ) → len ≡ count * all → r ≡ all → 0 < all → len / r ≡ count
quotient len r all count long same some = (λ i. long i / same i) ∙ mul-div_cancel count some
