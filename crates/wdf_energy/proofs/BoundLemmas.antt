-- Sums of squares that a fitting plan allows stay below 2^124: frames·E²·p is at most 2^160 at every port, E being the
-- greatest input and p the port's number.
use Rattle.std.proofs.Common.{◌≡◌, ℕ, zero, suc, ◌+◌, ◌-◌, ◌*◌, ◌^◌, ◌<◌, ◌≤◌, Bool, true, false, if◌then◌else◌, List, [], ◌∷◌, length, refl, ap, ◌∙◌, arith}
use Rattle.std.specs.Prelude.{All, IsTrue, nat_le, ℤ, ◌==◌}
use Rattle.std.specs.List.{sum_by}
use Rattle.std.proofs.Math.Nat.{mul-le-mul, mul-le-mul_left, le_of_mul-le-mul_left, pow-le-pow_right}
use Rattle.std.proofs.lemmas.Bool.{le-leb, leb-true}
use Rattle.std.proofs.lemmas.Bool.Decides.{nat_tests}
use Rattle.std.proofs.lemmas.Grind.{div_ceil_times}
use Rattle.std.proofs.lemmas.List.Sums.{sum_by-cons}
use Rattle.std.proofs.lemmas.List.Elements.{All-nil, All-cons, All-head, All-tail}
use Rattle.wdf_algebra.specs.Squares.{square}
use Rattle.wdf_law.specs.Trees.{AdaptorTree, leaf, series, parallel}
use Rattle.wdf_law.specs.Network.{Network, elements, has_leaf, has_source, source_numbers}
use Rattle.wdf_law.specs.Ports.{conductance_at, source_conductance}
use Rattle.wdf_quant.specs.declared.port_ratio.PortRatio.{PortRatio}
use Rattle.wdf_quant.specs.PortBound.{PortNumbers, end, fork, own, port_numbers, leaf_number, number_at, walk, EachPort, HasWholeWalk}
use Rattle.wdf_quant.specs.Covering.{CoversSources}
use Rattle.wdf_bounds.specs.Plans.{PlanOf, greatest_input}
use Rattle.wdf_bounds.specs.WordBound.{root_up, bound, word_limit, Fits}
use Rattle.wdf_energy.specs.Accounts.{with_squares}
use Rattle.wdf_energy.specs.LedgerLaws.{weighed}
use Rattle.wdf_energy.proofs.NumberLemmas.{numbers-below}

-- ---- the root rounded up

next_square : (r n : ℕ) (b : Bool) → nat_le (suc n) (r * r) ≡ b → n ≤ r * r → suc n ≤ (if b then r else r + 1) * (if b then r else r + 1)
next_square r n true e before = grind (arith, nat_tests)
next_square r n false e before = omega arith

root_up-square : (n : ℕ) → n ≤ root_up n * root_up n
unfolding root_up
root_up-square zero = omega arith
root_up-square (suc n) = next_square (root_up n) n (nat_le (suc n) (root_up n * root_up n)) refl (root_up-square n)

-- ---- a port's number

-- where 0 passes a test and each port's number does, so does that of an element
own-passes : (passes : ℕ → Bool) (w : PortNumbers) → EachPort passes w → IsTrue (passes (own w))
own-passes passes (end p) each = each
own-passes passes (fork p l r) each = each.0

chosen-passes : (passes : ℕ → Bool) (b : Bool) (x y : ℕ) → IsTrue (passes x) → IsTrue (passes y) → IsTrue (passes (if b then x else y))
chosen-passes passes true x y first second = first
chosen-passes passes false x y first second = second

leaf-passes : (passes : ℕ → Bool) (t : AdaptorTree) (w : PortNumbers) (j : ℕ) → IsTrue (passes 0) → EachPort passes w → IsTrue (passes (leaf_number t w j))
leaf-passes passes (leaf i k flip) w j none each = chosen-passes passes (i == j) (own w) 0 (own-passes passes w each) none
leaf-passes passes (series m l r) (end p) j none each = none
leaf-passes passes (series m l r) (fork p wl wr) j none each =
    chosen-passes passes (has_leaf l j) (leaf_number l wl j) (leaf_number r wr j) (leaf-passes passes l wl j none each.1) (leaf-passes passes r wr j none each.2)
leaf-passes passes (parallel m l r) (end p) j none each = none
leaf-passes passes (parallel m l r) (fork p wl wr) j none each =
    chosen-passes passes (has_leaf l j) (leaf_number l wl j) (leaf_number r wr j) (leaf-passes passes l wl j none each.1) (leaf-passes passes r wr j none each.2)

all-tests : (plan : PlanOf) (xs : List PortRatio) → All (λ (x : PortRatio). bound plan x.ratio ≤ word_limit plan) xs
    → All (λ (x : PortRatio). IsTrue (nat_le (bound plan x.ratio) (word_limit plan))) xs
all-tests plan [] h = All-nil (λ (y : PortRatio). IsTrue (nat_le (bound plan y.ratio) (word_limit plan)))
all-tests plan (x ∷ xs) h =
    All-cons (λ (y : PortRatio). IsTrue (nat_le (bound plan y.ratio) (word_limit plan))) x xs (le-leb (bound plan x.ratio) (word_limit plan) (All-head (λ (y : PortRatio). bound plan y.ratio ≤ word_limit plan) x xs h))
    (all-tests plan xs (All-tail (λ (y : PortRatio). bound plan y.ratio ≤ word_limit plan) x xs h))

no-root : root_up 0 ≡ 0
unfolding root_up
no-root = refl

no-bound : (plan : PlanOf) → bound plan 0 ≤ word_limit plan
no-bound plan =
    let t = greatest_input plan * root_up plan.frames * root_up 0 in
    let none : t ≡ 0 = ap (λ (r : ℕ). greatest_input plan * root_up plan.frames * r) no-root ∙ omega arith in
    let up = div_ceil_times t (2 ^ 20) (omega arith) in
    let zero : bound plan 0 ≡ 0 = omega arith in
    omega arith

-- the bound of an element's port is within the limit
bound-fits : (n : Network) (plan : PlanOf) (j : ℕ) → Fits n plan → HasWholeWalk n → bound plan (number_at n j) ≤ word_limit plan
bound-fits n plan j fits whole =
    let passes : ℕ → Bool = λ p. nat_le (bound plan p) (word_limit plan) in
    let few = whole passes (all-tests plan (walk n) fits.bounds) in
    let none : IsTrue (passes 0) = le-leb (bound plan 0) (word_limit plan) (no-bound plan) in
    leb-true (bound plan (number_at n j)) (word_limit plan)
    (chosen-passes passes (has_leaf n.left j) (leaf_number n.left (port_numbers n).left j) (leaf_number n.right (port_numbers n).right j)
    (leaf-passes passes n.left (port_numbers n).left j none few.0) (leaf-passes passes n.right (port_numbers n).right j none few.1))

-- ---- the products

-- E·a·b is at most 2^20 times the bound, and that at most 2^60
most-product : (plan : PlanOf) (p : ℕ) → bound plan p ≤ word_limit plan
    → plan.frames * (greatest_input plan * greatest_input plan) * p ≤ 2 ^ 160
most-product plan p few =
    let e = greatest_input plan in
    let a = root_up plan.frames in
    let b = root_up p in
    let t = e * a * b in
    let up : t ≤ bound plan p * 2 ^ 20 = (div_ceil_times t (2 ^ 20) (omega arith)).0 in
    let limit : word_limit plan ≤ 2 ^ 60 = pow-le-pow_right {n = 2} (omega arith) {i = 60 - plan.k} {j = 60} (omega arith) in
    let most : t ≤ 2 ^ 80 = omega arith in
    let square : t * t ≤ 2 ^ 80 * 2 ^ 80 = mul-le-mul most most in
    let frames = root_up-square plan.frames in
    let number = root_up-square p in
    let both : plan.frames * p ≤ a * a * (b * b) = mul-le-mul frames number in
    let times : e * e * (plan.frames * p) ≤ e * e * (a * a * (b * b)) = mul-le-mul_left (e * e) both in
    omega arith

-- frames·E²
abbrev pub most : PlanOf → ℕ
most plan = plan.frames * (greatest_input plan * greatest_input plan)

pub number-most : (n : Network) (plan : PlanOf) (j : ℕ) → Fits n plan → HasWholeWalk n → most plan * number_at n j ≤ 2 ^ 160
number-most n plan j fits whole = most-product plan (number_at n j) (bound-fits n plan j fits whole)

-- a sum of squares s whose energy is at most c·x, where x·p is at most 2^160
small : (c p g s x : ℕ) → 0 < c → 2 ^ 40 * c ≤ p * g → g * s ≤ c * x → x * p ≤ 2 ^ 160 → s ≤ 2 ^ 120
small c p g s x some covers energy few =
    let h1 : s * (2 ^ 40 * c) ≤ s * (p * g) = mul-le-mul_left s covers in
    let h2 : p * (g * s) ≤ p * (c * x) = mul-le-mul_left p energy in
    let h3 : c * (x * p) ≤ c * 2 ^ 160 = mul-le-mul_left c few in
    let times : c * (2 ^ 40 * s) ≤ c * 2 ^ 160 = omega arith in
    let once : 2 ^ 40 * s ≤ 2 ^ 160 = le_of_mul-le-mul_left times some in
    omega arith

pub squares-below : (n : Network) (x : ℕ) (sent : ℕ → ℤ) (js ss : List ℕ) → 0 < source_conductance n → CoversSources n
    → ((j : ℕ) → x * number_at n j ≤ 2 ^ 160) → All (λ (j : ℕ). j < length (elements n)) js
    → weighed n js (with_squares sent js ss) ≤ source_conductance n * x → All (λ (s : ℕ). s < 2 ^ 124) (with_squares sent js ss)
squares-below n x sent [] ss some covers few below h = All-nil (λ (s : ℕ). s < 2 ^ 124)
squares-below n x sent (j ∷ js) [] some covers few below h = All-nil (λ (s : ℕ). s < 2 ^ 124)
squares-below n x sent (j ∷ js) (s ∷ ss) some covers few below h =
    let here : s + square (sent j) ≤ 2 ^ 120 = small (source_conductance n) (number_at n j) (conductance_at n j) (s + square (sent j)) x some
    (covers.leaves j (All-head (λ (i : ℕ). i < length (elements n)) j js below)) (omega arith) (few j) in
    All-cons (λ (t : ℕ). t < 2 ^ 124) (s + square (sent j)) (with_squares sent js ss) (omega arith)
    (squares-below n x sent js ss some covers few (All-tail (λ (i : ℕ). i < length (elements n)) j js below) (omega arith))

-- frames·E² itself: a source's port has at least 2^40
first-most : (n : Network) (x : ℕ) (js : List ℕ) → 0 < source_conductance n → CoversSources n → ((j : ℕ) → x * number_at n j ≤ 2 ^ 160)
    → All (λ (j : ℕ). j < length (elements n)) js → sum_by (conductance_at n) js ≤ source_conductance n → 1 ≤ length js → x ≤ 2 ^ 120
first-most n x [] some covers few below sum has = absurd (omega arith)
first-most n x (j ∷ js) some covers few below sum has =
    let c = source_conductance n in
    let g = conductance_at n j in
    let p = number_at n j in
    let cover = covers.leaves j (All-head (λ (i : ℕ). i < length (elements n)) j js below) in
    let first = sum_by-cons (conductance_at n) j js in
    let less : g ≤ c = omega arith in
    let more : p * g ≤ p * c = mul-le-mul_left p less in
    let times : c * 2 ^ 40 ≤ c * p = omega arith in
    let number : 2 ^ 40 ≤ p = le_of_mul-le-mul_left times some in
    let whole : x * 2 ^ 40 ≤ x * p = mul-le-mul_left x number in
    let here = few j in
    omega arith

pub frames-most : (n : Network) (x : ℕ) → 0 < source_conductance n → CoversSources n → ((j : ℕ) → x * number_at n j ≤ 2 ^ 160) → 1 ≤ length (source_numbers n) → x ≤ 2 ^ 120
frames-most n x some covers few has = first-most n x (source_numbers n) some covers few (numbers-below has_source (elements n)) (omega arith) has
