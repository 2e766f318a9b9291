-- Samples cut into the frames of blocks.
use Rattle.std.proofs.Common.{◌≡◌, ℕ, zero, suc, ◌+◌, ◌-◌, ◌*◌, ◌/◌, ◌<◌, ◌≤◌, List, [], ◌∷◌, ◌++◌, length, take, drop, get_or, refl, sym, ap, ◌∙◌, arith}
use Rattle.std.specs.Prelude.{ℤ}
use Rattle.std.proofs.Math.Nat.{add-mul, mul-div_cancel, mul-le-mul_right}
use Rattle.std.proofs.lemmas.List.{drop-drop, drop-take, get_or_push, length-append, length-drop, length-take-le, take-append-le, take-take, take_all}
use Rattle.wdf_algebra.specs.Pieces.{pieces}
use Rattle.wdf_algebra.proofs.PieceLemmas.{length-pieces}
use Rattle.wdf_lattice.specs.declared.networks.Networks.{Networks}
use Rattle.wdf_lattice.specs.Sides.{sources_driven}
use Rattle.wdf_lattice.specs.Waves.{frames_of}

-- ---- pieces of one size

-- so many, and then so many of the rest
pub pieces_split : {X : Type 0} (count more size : ℕ) (xs : List X) → pieces (count + more) size xs ≡ pieces count size xs ++ pieces more size (drop (count * size) xs)
pieces_split zero more size xs = let sum : zero + more ≡ more = omega arith in let none : 0 * size ≡ 0 = omega arith in rw (sum, none) refl
pieces_split {X = X} (suc count) more size xs =
    let sum : suc count + more ≡ suc (count + more) = omega arith in
    let later : size + count * size ≡ suc count * size = omega arith in
    let place = drop-drop (count * size) size xs ∙ ap (λ (n : ℕ). drop n xs) later in
    rw sum (ap (λ (l : List (List X)). take size xs ∷ l) (pieces_split count more size (drop size xs)
    ∙ ap (λ (p : List X). pieces count size (drop size xs) ++ pieces more size p) place))

-- those that are cut from a list that is long enough
pub pieces_taken : {X : Type 0} (count size : ℕ) (xs : List X) → pieces count size (take (count * size) xs) ≡ pieces count size xs
pieces_taken zero size xs = refl
pieces_taken {X = X} (suc count) size xs =
    let whole : suc count * size ≡ size + count * size = omega arith in
    let least : size ≤ size + count * size = omega arith in
    let front : take size (take (size + count * size) xs) ≡ take size xs = take-take size (size + count * size) xs least in
    rw whole (ap (λ (p : List X). p ∷ pieces count size (drop size (take (size + count * size) xs))) front
    ∙ ap (λ (l : List (List X)). take size xs ∷ l) (ap (pieces count size) (drop-take size (count * size) xs) ∙ pieces_taken count size (drop size xs)))

-- a part of a list of them, as a slice has it
pub cut : (made k size : ℕ) (xs : List ℤ) → take ((made + k) * size - made * size) (drop (made * size) xs) ≡ take (k * size) (drop (made * size) xs)
cut made k size xs =
    let whole : (made + k) * size ≡ made * size + k * size = add-mul made k size in
    let same : (made + k) * size - made * size ≡ k * size = omega (arith, whole) in
    ap (λ (n : ℕ). take n (drop (made * size) xs)) same

pub cut_long : (made k count size : ℕ) (xs : List ℤ) → made + k ≤ count → length xs ≡ count * size → length (take ((made + k) * size - made * size) (drop (made * size) xs)) ≡ k * size
cut_long made k count size xs inside long =
    let whole : (made + k) * size ≡ made * size + k * size = add-mul made k size in
    let most : (made + k) * size ≤ count * size = mul-le-mul_right size inside in
    let left : length (drop (made * size) xs) ≡ length xs - made * size = length-drop (made * size) xs in
    ap length (cut made k size xs) ∙ length-take-le (k * size) (drop (made * size) xs) (omega (arith, whole, most, left, long))

-- the last of them
pub record IsLast (size : ℕ) (xs : List ℤ) (count : ℕ) (front : List (List ℤ)) (last : List ℤ) : Type 0 where
  pub counted : length front + 1 ≡ count
  pub front_is : front ≡ pieces (length front) size xs
  pub last_is : last ≡ take size (drop (length front * size) xs)

pub last_piece : (count size : ℕ) (xs : List ℤ) (front : List (List ℤ)) (last : List ℤ) → pieces count size xs ≡ front ++ last ∷ [] → IsLast size xs count front last
last_piece count size xs front last are =
    let at = length front in
    let p = take size (drop (at * size) xs) in
    let counted : at + 1 ≡ count = sym (length-append front (last ∷ [])) ∙ (sym (ap length are) ∙ length-pieces count size xs) in
    let both : front ++ last ∷ [] ≡ pieces at size xs ++ p ∷ []
    = sym are ∙ (ap (λ (k : ℕ). pieces k size xs) (sym counted) ∙ pieces_split at 1 size xs) in
    let long : length (pieces at size xs) ≡ at = length-pieces at size xs in
    record {
      counted = counted;
      front_is = sym (take-append-le at front (last ∷ []) (omega arith) ∙ take_all at front (omega arith))
          ∙ (ap (take at) both ∙ (take-append-le at (pieces at size xs) (p ∷ []) (omega arith) ∙ take_all at (pieces at size xs) (omega arith)));
      last_is = sym (get_or_push front last [] at refl) ∙ (ap (λ (l : List (List ℤ)). get_or l at []) both ∙ get_or_push (pieces at size xs) p [] at long);
    }

-- what stands behind a front, if there is any, has the last
pub last_behind : (xs ys front : List (List ℤ)) (last : List ℤ) → 1 ≤ length ys → xs ++ ys ≡ front ++ last ∷ []
    → (rest : List (List ℤ)) × ((ys ≡ rest ++ last ∷ []) × (front ≡ xs ++ rest))
last_behind [] ys front last some are = (front, (are, refl))
last_behind (x ∷ xs) ys [] last some are =
    let none : xs ++ ys ≡ [] = ap (drop 1) are in
    let sizes : length xs + length ys ≡ 0 = sym (length-append xs ys) ∙ ap length none in
    absurd (omega (arith, some, sizes))
last_behind (x ∷ xs) ys (f ∷ front) last some are =
    let first : x ≡ f = ap (λ (l : List (List ℤ)). get_or l 0 []) are in
    let behind = last_behind xs ys front last some (ap (drop 1) are) in
    (behind.0, (behind.1.0, (λ i. sym first i ∷ behind.1.1 i)))

-- ---- frames of samples

-- the frames of so many frames' samples are as many pieces
pub frames_pieces : (ns : Networks) (runs sources count : ℕ) (samples : List ℤ) → 0 < runs * sources → sources ≡ sources_driven ns → length samples ≡ count * (runs * sources)
    → frames_of ns runs samples ≡ pieces count (runs * sources) samples
frames_pieces ns runs sources count samples some driven whole =
    let size = runs * sources in
    let alone : length samples / size ≡ count = ap (λ (k : ℕ). k / size) whole ∙ mul-div_cancel count some in
    (λ i. pieces (length samples / (runs * sym driven i)) (runs * sym driven i) samples) ∙ ap (λ (k : ℕ). pieces k size samples) alone
