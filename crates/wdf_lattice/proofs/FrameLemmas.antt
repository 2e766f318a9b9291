-- Values by frame and run, one after another.
use Rattle.std.proofs.Common.{◌≡◌, ℕ, zero, suc, ℤ, pos, ◌+◌, ◌*◌, ◌<◌, List, ◌∷◌, ◌++◌, length, take, drop, map, get_or, refl, sym, ap, ap₂, ◌∙◌, arith}
use Rattle.std.specs.Prelude.{flat_map}
use Rattle.std.specs.List.{range_with_len}
use Rattle.std.proofs.lemmas.Grind.{flat_map-append}
use Rattle.std.proofs.lemmas.List.{append-nil, get_or-take, get_or-drop, length-drop, length-take-le, nil_from_length, take-append-drop}
use Rattle.std.proofs.lemmas.List.FromFn.{fill_by_all}
use Rattle.wdf_lattice.specs.Waves.{interleaved}

range-split : (a m n : ℕ) → range_with_len a (m + n) ≡ range_with_len a m ++ range_with_len (a + m) n
range-split a zero n = let e : 0 + n ≡ n = omega arith in let f : a + 0 ≡ a = omega arith in rw (e, f) refl
range-split a (suc m) n =
    let e : suc m + n ≡ suc (m + n) = omega arith in
    let f : a + suc m ≡ a + 1 + m = omega arith in
    rw (e, f) (ap (λ (l : List ℕ). a ∷ l) (range-split (a + 1) m n))

-- the same of values whose numbers begin later
range-shift : (g : ℕ → List ℤ) (m a n : ℕ) → flat_map g (range_with_len (m + a) n) ≡ flat_map (λ (k : ℕ). g (m + k)) (range_with_len a n)
range-shift g m a zero = refl
range-shift g m a (suc n) =
    let e : m + a + 1 ≡ m + (a + 1) = omega arith in
    ap (λ (l : List ℤ). g (m + a) ++ l) (ap (λ (k : ℕ). flat_map g (range_with_len k n)) e ∙ range-shift g m (a + 1) n)

pub interleaved-append : (m n runs : ℕ) (v : ℕ → ℕ → ℤ) → interleaved (m + n) runs v ≡ interleaved m runs v ++ interleaved n runs (λ (f : ℕ). v (m + f))
interleaved-append m n runs v =
    let row = λ (f : ℕ). map (v f) (range_with_len 0 runs) in
    let e : 0 + m ≡ m + 0 = omega arith in
    ap (flat_map row) (range-split 0 m n)
    ∙ flat_map-append row (range_with_len 0 m) (range_with_len (0 + m) n)
    ∙ ap (λ (l : List ℤ). flat_map row (range_with_len 0 m) ++ l) (ap (λ (k : ℕ). flat_map row (range_with_len k n)) e ∙ range-shift row m 0 n)

map-same : (a n : ℕ) (g h : ℕ → ℤ) → ((k : ℕ) → k < a + n → g k ≡ h k) → map g (range_with_len a n) ≡ map h (range_with_len a n)
map-same a zero g h same = refl
map-same a (suc n) g h same = ap₂ (λ (z : ℤ) (l : List ℤ). z ∷ l) (same a (omega arith)) (map-same (a + 1) n g h (λ k below. same k (omega (arith, below))))

flat_map-same : (a n : ℕ) (g h : ℕ → List ℤ) → ((k : ℕ) → k < a + n → g k ≡ h k) → flat_map g (range_with_len a n) ≡ flat_map h (range_with_len a n)
flat_map-same a zero g h same = refl
flat_map-same a (suc n) g h same = ap₂ (λ (z l : List ℤ). z ++ l) (same a (omega arith)) (flat_map-same (a + 1) n g h (λ k below. same k (omega (arith, below))))

-- values that agree at all frames and runs
pub interleaved-same : (m runs : ℕ) (v w : ℕ → ℕ → ℤ) → ((f r : ℕ) → f < m → r < runs → v f r ≡ w f r) → interleaved m runs v ≡ interleaved m runs w
interleaved-same m runs v w same =
    flat_map-same 0 m (λ (f : ℕ). map (v f) (range_with_len 0 runs)) (λ (f : ℕ). map (w f) (range_with_len 0 runs))
    (λ f below. map-same 0 runs (v f) (w f) (λ r few. same f r (omega (arith, below)) (omega (arith, few))))

-- a list that has each value at its place
pub interleaved_is : (count runs : ℕ) (v : ℕ → ℕ → ℤ) (xs : List ℤ) → length xs ≡ count * runs
    → ((f r : ℕ) → f < count → r < runs → get_or xs (f * runs + r) (pos 0) ≡ v f r) → xs ≡ interleaved count runs v
interleaved_is zero runs v xs long each = nil_from_length xs (omega (arith, long))
interleaved_is (suc count) runs v xs long each =
    let sum : suc count ≡ 1 + count = omega arith in
    let front : length (take runs xs) ≡ runs = length-take-le runs xs (omega (arith, long)) in
    let left : length (drop runs xs) ≡ count * runs = let cut = length-drop {A = ℤ} runs xs in omega (arith, long, cut) in
    let first : take runs xs ≡ map (v 0) (range_with_len 0 runs)
    = fill_by_all (v 0) (take runs xs) runs (pos 0) front
    (λ r few.
    let place : r ≡ 0 * runs + r = omega arith in
    get_or-take runs xs r (pos 0) few ∙ (ap (λ (k : ℕ). get_or xs k (pos 0)) place ∙ each 0 r (omega arith) few)) in
    let rest : drop runs xs ≡ interleaved count runs (λ (f : ℕ). v (1 + f))
    = interleaved_is count runs (λ (f : ℕ). v (1 + f)) (drop runs xs) left
    (λ f r below few.
    let place : runs + (f * runs + r) ≡ (1 + f) * runs + r = omega arith in
    get_or-drop runs xs (f * runs + r) (pos 0) ∙ (ap (λ (k : ℕ). get_or xs k (pos 0)) place ∙ each (1 + f) r (omega (arith, below)) few)) in
    sym (take-append-drop runs xs)
    ∙ (ap₂ (λ (l m : List ℤ). l ++ m) (first ∙ sym (append-nil (map (v 0) (range_with_len 0 runs)))) rest
    ∙ (sym (interleaved-append 1 count runs v) ∙ ap (λ (k : ℕ). interleaved k runs v) (sym sum)))
