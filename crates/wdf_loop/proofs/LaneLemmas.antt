-- Sizes and values of a stage in each of several runs.
use Rattle.std.proofs.Common.{◌≡◌, ℕ, zero, suc, refl, [], ◌∷◌, ◌+◌, ◌*◌, ◌<◌, ◌≤◌, ◌^◌, ap, ◌∙◌, arith, replicate, subst, sym}
use Rattle.std.specs.Prelude.{ℤ, pos, ◌+ℤ◌, ◌-ℤ◌, ◌*ℤ◌, unsigned_abs}
use Rattle.std.proofs.lemmas.Int.{unsigned_abs-mul}
use borrow.Author.Differences.{ints}
use Rattle.wdf_algebra.proofs.Polynomials.{con, var, ◌⊕◌, ◌⊗◌, ring}
use Rattle.wdf_loop.specs.Cells.{IsWord}
use Rattle.wdf_loop.specs.RunCells.{wave_in}
use Rattle.wdf_loop.proofs.Sizes.{share, three-words, whole-word}

-- a multiplier's share of a word
pub product-size : (q m : ℕ) (u p : ℤ) → m ≤ q → IsWord q u → p ≡ pos m *ℤ u → unsigned_abs p ≤ 2 ^ 60
product-size q m u p h word e =
    let least : m * unsigned_abs u ≤ q * unsigned_abs u = share m q (unsigned_abs u) h in
    let size : unsigned_abs p ≡ m * unsigned_abs u = ap unsigned_abs e ∙ unsigned_abs-mul (pos m) u in
    omega arith

-- the difference of two words
pub difference-size : (q : ℕ) (a b d : ℤ) → 0 < q → IsWord q a → IsWord q b → d ≡ a -ℤ b → unsigned_abs d ≤ 2 ^ 61
difference-size q a b d some h k e =
    let one = whole-word q a some h in
    let two = whole-word q b some k in
    let size : unsigned_abs d ≡ unsigned_abs (a -ℤ b) = ap unsigned_abs e in
    omega (arith, ints)

-- no run has a number but 0
pub zeros : (n c : ℕ) → wave_in (replicate n (pos 0)) c ≡ pos 0
zeros zero c = refl
zeros (suc n) zero = refl
zeros (suc n) (suc c) = zeros n c

pub negated-size : (a d : ℤ) → unsigned_abs a ≤ 2 ^ 60 → d ≡ pos 0 -ℤ a → unsigned_abs d ≤ 2 ^ 61
negated-size a d h e =
    let size : unsigned_abs d ≡ unsigned_abs (pos 0 -ℤ a) = ap unsigned_abs e in
    omega (arith, ints)

pub twice : (z : ℤ) → z +ℤ z ≡ pos 2 *ℤ z
twice z = ring (z ∷ []) (var 0 ⊕ var 0) (con (pos 2) ⊗ var 0) refl

pub same-word : (q : ℕ) (a b : ℤ) → a ≡ b → IsWord q b → IsWord q a
same-word q a b e h = subst (λ (z : ℤ). IsWord q z) (sym e) h

-- the sum of two words
pub sum-size : (q : ℕ) (a b d : ℤ) → 0 < q → IsWord q a → IsWord q b → d ≡ a +ℤ b → unsigned_abs d ≤ 2 ^ 61
sum-size q a b d some h k e =
    let one = whole-word q a some h in
    let two = whole-word q b some k in
    let size : unsigned_abs d ≡ unsigned_abs (a +ℤ b) = ap unsigned_abs e in
    omega (arith, ints)

-- the wave that a series junction's parts share
pub shared-size : (q : ℕ) (d a b w : ℤ) → IsWord q d → IsWord q a → IsWord q b → w ≡ d -ℤ (a +ℤ b) → q * unsigned_abs w ≤ 3 * 2 ^ 60
shared-size q d a b w hd ha hb e =
    let size : unsigned_abs w ≡ unsigned_abs (d -ℤ (a +ℤ b)) = ap unsigned_abs e in
    let most : unsigned_abs w ≤ unsigned_abs d + unsigned_abs a + unsigned_abs b = omega (arith, ints) in
    three-words q (unsigned_abs d) (unsigned_abs a) (unsigned_abs b) (unsigned_abs w) most hd ha hb
