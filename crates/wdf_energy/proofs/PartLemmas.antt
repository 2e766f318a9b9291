-- Sums over elements: the parts of a total against the energies that they count, by lists and by functions of the number.
use Rattle.std.proofs.Common.{◌≡◌, ℕ, ◌+◌, ◌*◌, ◌^◌, ◌<◌, ◌≤◌, List, [], ◌∷◌, length, map, refl, ap, sym, ◌∙◌, arith}
use Rattle.std.specs.Prelude.{All, ℤ}
use Rattle.std.specs.List.{sum_by}
use Rattle.std.proofs.Math.Nat.{mul-le-mul_left, le_of_mul-le-mul_left, mul-div-le}
use Rattle.std.proofs.lemmas.List.Sums.{sum_by-cons}
use Rattle.std.proofs.lemmas.List.Elements.{All-head, All-tail}
use Rattle.wdf_algebra.specs.Squares.{square}
use Rattle.wdf_law.specs.Network.{Network, elements}
use Rattle.wdf_law.specs.Ports.{conductance_at, source_conductance}
use Rattle.wdf_quant.specs.PortBound.{number_at}
use Rattle.wdf_quant.specs.Covering.{CoversSources}
use Rattle.wdf_energy.specs.Totals.{part, parts}
use Rattle.wdf_energy.specs.Accounts.{with_squares, parts_of}
use Rattle.wdf_energy.specs.LedgerLaws.{weighed}

-- one part, times the sources' conductances c, is at most the energy of s
share : (c p g s : ℕ) → 2 ^ 40 * c ≤ p * g → c * part s p ≤ g * s
share c p g s covers =
    let t = part s p in
    let down : p * t ≤ s * 2 ^ 40 = mul-div-le (s * 2 ^ 40) p in
    let more : t * (2 ^ 40 * c) ≤ t * (p * g) = mul-le-mul_left t covers in
    let whole : g * (p * t) ≤ g * (s * 2 ^ 40) = mul-le-mul_left g down in
    let times : 2 ^ 40 * (c * t) ≤ 2 ^ 40 * (g * s) = omega arith in
    le_of_mul-le-mul_left times (omega arith)

-- and so are all of them
pub parts-share : (n : Network) (js ss : List ℕ) → CoversSources n → All (λ (j : ℕ). j < length (elements n)) js
    → source_conductance n * parts_of n js ss ≤ weighed n js ss
parts-share n [] ss covers below = omega arith
parts-share n (j ∷ js) [] covers below = omega arith
parts-share n (j ∷ js) (s ∷ ss) covers below =
    let here = share (source_conductance n) (number_at n j) (conductance_at n j) s (covers.leaves j (All-head (λ (i : ℕ). i < length (elements n)) j js below)) in
    let rest = parts-share n js ss covers (All-tail (λ (i : ℕ). i < length (elements n)) j js below) in
    omega arith

-- ---- by functions

pub parts_of-map : (n : Network) (f : ℕ → ℕ) (js : List ℕ) → parts_of n js (map f js) ≡ parts n f js
parts_of-map n f [] = refl
parts_of-map n f (j ∷ js) =
    ap (λ (t : ℕ). part (f j) (number_at n j) + t) (parts_of-map n f js) ∙ sym (sum_by-cons (λ (i : ℕ). part (f i) (number_at n i)) j js)

pub weighed-map : (n : Network) (f : ℕ → ℕ) (js : List ℕ) → weighed n js (map f js) ≡ sum_by (λ (j : ℕ). conductance_at n j * f j) js
weighed-map n f [] = refl
weighed-map n f (j ∷ js) =
    ap (λ (t : ℕ). conductance_at n j * f j + t) (weighed-map n f js) ∙ sym (sum_by-cons (λ (i : ℕ). conductance_at n i * f i) j js)

pub map-map : {A B C : Type 0} (f : B → C) (g : A → B) (xs : List A) → map f (map g xs) ≡ map (λ x. f (g x)) xs
map-map f g [] = refl
map-map f g (x ∷ xs) = ap (λ l. f (g x) ∷ l) (map-map f g xs)

pub map-agree : {A : Type 0} (P : ℕ → Type 0) (f g : ℕ → A) (js : List ℕ) → All P js → ((j : ℕ) → P j → f j ≡ g j) → map f js ≡ map g js
map-agree P f g [] all same = refl
map-agree P f g (j ∷ js) all same = λ i. same j (All-head P j js all) i ∷ map-agree P f g js (All-tail P j js all) same i

pub sum-agree : (P : ℕ → Type 0) (f g : ℕ → ℕ) (js : List ℕ) → All P js → ((j : ℕ) → P j → f j ≡ g j) → sum_by f js ≡ sum_by g js
sum-agree P f g [] all same = refl
sum-agree P f g (j ∷ js) all same =
    sum_by-cons f j js
    ∙ ((λ i. same j (All-head P j js all) i + sum-agree P f g js (All-tail P j js all) same i)
    ∙ sym (sum_by-cons g j js))

pub sum-map : {A : Type 0} (f : A → ℕ) (g : ℕ → A) (js : List ℕ) → sum_by f (map g js) ≡ sum_by (λ (j : ℕ). f (g j)) js
sum-map f g [] = refl
sum-map f g (j ∷ js) =
    sum_by-cons f (g j) (map g js) ∙ (ap (λ (t : ℕ). f (g j) + t) (sum-map f g js) ∙ sym (sum_by-cons (λ (i : ℕ). f (g i)) j js))

pub sum-plus : (f g : ℕ → ℕ) (js : List ℕ) → sum_by (λ (j : ℕ). f j + g j) js ≡ sum_by f js + sum_by g js
sum-plus f g [] = refl
sum-plus f g (j ∷ js) =
    let one = sum_by-cons (λ (i : ℕ). f i + g i) j js in
    let first = sum_by-cons f j js in
    let second = sum_by-cons g j js in
    let rest = sum-plus f g js in
    omega arith

pub sum-none : (g : ℕ → ℕ) (js : List ℕ) → sum_by (λ (j : ℕ). g j * 0) js ≡ 0
sum-none g [] = refl
sum-none g (j ∷ js) =
    let one = sum_by-cons (λ (i : ℕ). g i * 0) j js in
    let rest = sum-none g js in
    omega arith

-- a sum of products is at most the product of the sums
pub sum-product : (f g : ℕ → ℕ) (js : List ℕ) → sum_by (λ (j : ℕ). f j * g j) js ≤ sum_by f js * sum_by g js
sum-product f g [] = omega arith
sum-product f g (j ∷ js) =
    let one = sum_by-cons (λ (i : ℕ). f i * g i) j js in
    let first = sum_by-cons f j js in
    let second = sum_by-cons g j js in
    let rest = sum-product f g js in
    let both : sum_by f (j ∷ js) * sum_by g (j ∷ js) ≡ (f j + sum_by f js) * (g j + sum_by g js) = λ i. first i * second i in
    omega arith

-- ---- sums with a frame's squares

pub with_squares-map : (sent : ℕ → ℤ) (f : ℕ → ℕ) (js : List ℕ) → with_squares sent js (map f js) ≡ map (λ (j : ℕ). f j + square (sent j)) js
with_squares-map sent f [] = refl
with_squares-map sent f (j ∷ js) = ap (λ (l : List ℕ). (f j + square (sent j)) ∷ l) (with_squares-map sent f js)

pub weighed-more : (n : Network) (sent : ℕ → ℤ) (js ss : List ℕ)
    → weighed n js (with_squares sent js ss) ≤ weighed n js ss + sum_by (λ (j : ℕ). conductance_at n j * square (sent j)) js
weighed-more n sent [] ss = omega arith
weighed-more n sent (j ∷ js) [] = omega arith
weighed-more n sent (j ∷ js) (s ∷ ss) =
    let one = sum_by-cons (λ (i : ℕ). conductance_at n i * square (sent i)) j js in
    let rest = weighed-more n sent js ss in
    omega arith

pub with_squares-agree : (P : ℕ → Type 0) (sent other : ℕ → ℤ) (js ss : List ℕ) → All P js → ((j : ℕ) → P j → sent j ≡ other j)
    → with_squares sent js ss ≡ with_squares other js ss
with_squares-agree P sent other [] ss all same = refl
with_squares-agree P sent other (j ∷ js) [] all same = refl
with_squares-agree P sent other (j ∷ js) (s ∷ ss) all same = λ i.
    (s + square (same j (All-head P j js all) i)) ∷ with_squares-agree P sent other js ss (All-tail P j js all) same i
