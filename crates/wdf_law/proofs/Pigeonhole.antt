-- Numbers in a list, each at most once or at least once: how many there are.
use Rattle.std.proofs.Common.{◌≡◌, ℕ, zero, suc, ◌+◌, ◌<◌, ◌≤◌, cond, ◌==◌, nat_lt, List, [], ◌∷◌, length, refl, ap, ◌∙◌, arith}
use Rattle.std.specs.Prelude.{All}
use Rattle.std.proofs.lemmas.Bool.Decides.{nat_tests}
use Rattle.std.proofs.lemmas.List.Elements.{All-nil, All-cons, All-head, All-tail}
use Rattle.wdf_law.specs.Network.{times_in}

-- how many are below c
abbrev pub low : ℕ → List ℕ → ℕ
low c [] = 0
low c (x ∷ xs) = cond (nat_lt x c) 1 0 + low c xs

low_zero : (xs : List ℕ) → low 0 xs ≡ 0
low_zero [] = refl
low_zero (x ∷ xs) =
    let rest = low_zero xs in
    let none : cond {A = ℕ} (nat_lt x 0) 1 0 ≡ 0 = grind (arith, nat_tests) in
    omega arith

one_more : (x c : ℕ) → cond {A = ℕ} (nat_lt x (c + 1)) 1 0 ≡ cond {A = ℕ} (nat_lt x c) 1 0 + cond {A = ℕ} (x == c) 1 0
one_more x c = grind (arith, nat_tests)

low_suc : (c : ℕ) (xs : List ℕ) → low (c + 1) xs ≡ low c xs + times_in xs c
low_suc c [] = refl
low_suc c (x ∷ xs) =
    let rest = low_suc c xs in
    let here = one_more x c in
    omega arith

-- at most c of them where each stands once at most
low_most : (c : ℕ) (xs : List ℕ) → ((i : ℕ) → times_in xs i ≤ 1) → low c xs ≤ c
low_most zero xs once = omega (arith, low_zero xs)
low_most (suc c) xs once =
    let e : suc c ≡ c + 1 = omega arith in
    let s : low (suc c) xs ≡ low c xs + times_in xs c = ap (λ (n : ℕ). low n xs) e ∙ low_suc c xs in
    omega (arith, low_most c xs once, once c)

-- at least c of them where each below c stands
low_least : (c : ℕ) (xs : List ℕ) → ((i : ℕ) → i < c → 1 ≤ times_in xs i) → c ≤ low c xs
low_least zero xs there = omega arith
low_least (suc c) xs there =
    let e : suc c ≡ c + 1 = omega arith in
    let s : low (suc c) xs ≡ low c xs + times_in xs c = ap (λ (n : ℕ). low n xs) e ∙ low_suc c xs in
    omega (arith, low_least c xs (λ i h. there i (omega arith)), there c (omega arith))

low_length : (c : ℕ) (xs : List ℕ) → low c xs ≤ length xs
low_length c [] = omega arith
low_length c (x ∷ xs) =
    let rest = low_length c xs in
    let here : cond {A = ℕ} (nat_lt x c) 1 0 ≤ 1 = grind (arith, nat_tests) in
    omega arith

-- all are below c where that many are
pub below_all : (c : ℕ) (xs : List ℕ) → length xs ≤ low c xs → All (λ (x : ℕ). x < c) xs
below_all c [] h = All-nil (λ (x : ℕ). x < c)
below_all c (x ∷ xs) h =
    let more = low_length c xs in
    let here : x < c = grind (arith, nat_tests) in
    let rest : length xs ≤ low c xs = grind (arith, nat_tests) in
    All-cons (λ (x : ℕ). x < c) x xs here (below_all c xs rest)

pub low_all : (c : ℕ) (xs : List ℕ) → All (λ (x : ℕ). x < c) xs → low c xs ≡ length xs
low_all c [] h = refl
low_all c (x ∷ xs) h =
    let rest = low_all c xs (All-tail (λ (x : ℕ). x < c) x xs h) in
    let here = All-head (λ (x : ℕ). x < c) x xs h in
    let one : cond {A = ℕ} (nat_lt x c) 1 0 ≡ 1 = grind (arith, nat_tests) in
    omega arith

-- different numbers below c are at most c
pub few : (c : ℕ) (xs : List ℕ) → All (λ (x : ℕ). x < c) xs → ((i : ℕ) → times_in xs i ≤ 1) → length xs ≤ c
few c xs small once = omega (arith, low_all c xs small, low_most c xs once)

-- c different numbers, each below c among them, are all below c
pub all_below : (c : ℕ) (xs : List ℕ) → length xs ≡ c → ((i : ℕ) → i < c → 1 ≤ times_in xs i) → All (λ (x : ℕ). x < c) xs
all_below c xs count there = below_all c xs (omega (arith, low_least c xs there))
