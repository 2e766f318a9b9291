-- Lists cut into pieces of one size.
use Rattle.std.proofs.Common.{◌≡◌, ℕ, zero, suc, ◌+◌, ◌*◌, ◌<◌, ◌≤◌, List, [], ◌++◌, length, take, drop, get_or, refl, ap, ◌∙◌, arith}
use Rattle.std.proofs.lemmas.List.{length-drop, nil_from_length, take-append-le, drop-append-le, drop-drop}
use Rattle.wdf_algebra.specs.Pieces.{pieces}

-- the pieces of the front, and then those of the rest
pub pieces-append : {X : Type 0} (count more size : ℕ) (xs ys : List X) → length xs ≡ count * size
    → pieces (count + more) size (xs ++ ys) ≡ pieces count size xs ++ pieces more size ys
pieces-append zero more size xs ys h =
    let none : xs ≡ [] = nil_from_length xs (omega arith) in
    let sum : 0 + more ≡ more = omega arith in
    rw (none, sum) refl
pieces-append (suc count) more size xs ys h =
    let sum : suc count + more ≡ suc (count + more) = omega arith in
    let inside : size ≤ length xs = omega arith in
    let left : length (drop size xs) ≡ count * size = simp length-drop (omega arith) in
    let rest = pieces-append count more size (drop size xs) ys left in
    rw (sum, take-append-le size xs ys inside, drop-append-le size xs ys inside, rest) refl

-- there are as many pieces as were asked for
pub length-pieces : {X : Type 0} (count size : ℕ) (xs : List X) → length (pieces count size xs) ≡ count
length-pieces zero size xs = refl
length-pieces (suc count) size xs = ap suc (length-pieces count size (drop size xs))

-- the piece of a number
pub get_or-pieces : {X : Type 0} (count size k : ℕ) (xs : List X) (d : List X) → k < count → get_or (pieces count size xs) k d ≡ take size (drop (k * size) xs)
get_or-pieces zero size k xs d h = absurd (omega arith)
get_or-pieces (suc count) size zero xs d h = let none : 0 * size ≡ 0 = omega arith in rw none refl
get_or-pieces (suc count) size (suc k) xs d h =
    let later : size + k * size ≡ suc k * size = omega arith in
    get_or-pieces count size k (drop size xs) d (omega arith)
    ∙ ap (take size) (drop-drop (k * size) size xs ∙ ap (λ (n : ℕ). drop n xs) later)
