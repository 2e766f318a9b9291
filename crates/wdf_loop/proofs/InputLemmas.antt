-- Values that are samples with the guard's bits are small, and inputs that the plan allows.
use Rattle.std.proofs.Common.{ℕ, zero, suc, ◌*◌, ◌-◌, ◌<◌, ◌≤◌, ◌^◌, Bool, true, false, cond, ◌==◌, List, [], ◌∷◌, length, map, take, drop, arith}
use Rattle.std.specs.Prelude.{ℤ, pos, unsigned_abs, slice_index_or, IsTrue}
use Rattle.std.proofs.Math.Nat.{mul-le-mul, pow-le-pow_right}
use Rattle.std.proofs.lemmas.Bool.Decides.{nat_tests}
use Rattle.wdf_law.specs.Network.{source_numbers}
use Rattle.wdf_law.specs.Run.{entry}
use Rattle.wdf_bounds.specs.Plans.{IsPlan, PlanOf, greatest_input, is_sample_width}
use Rattle.wdf_sched.specs.Schedules.{ScheduleValue}
use Rattle.wdf_loop.specs.declared.feed.Feed.{Feed}
use Rattle.wdf_loop.specs.Advances.{AreInputs}
use Rattle.wdf_loop.specs.Inputs.{AreAllowed}
use Rattle.wdf_loop.specs.RunCells.{wave_in}
use Rattle.wdf_loop.specs.Shows.{AreSmallValues}

-- ---- the values of one run, at every place

abbrev AreMost : ℕ → ℕ → List (List ℤ) → Type 0
AreMost most c rows = (i : ℕ) → unsigned_abs (wave_in (slice_index_or rows i []) c) ≤ most

none_most : (most : ℕ) → unsigned_abs (pos 0) ≤ most
none_most most = omega arith

-- nothing stands behind the last row
most_behind : (most c : ℕ) (rows : List (List ℤ)) → ((i : ℕ) → i < length rows → unsigned_abs (wave_in (slice_index_or rows i []) c) ≤ most) → AreMost most c rows
most_behind most c [] h i = none_most most
most_behind most c (row ∷ rows) h zero = h zero (omega arith)
most_behind most c (row ∷ rows) h (suc i) = most_behind most c rows (λ k less. h (suc k) (omega (arith, less))) i

most_drop : (most c k : ℕ) (rows : List (List ℤ)) → AreMost most c rows → AreMost most c (drop k rows)
most_drop most c zero rows h = h
most_drop most c (suc k) [] h = h
most_drop most c (suc k) (row ∷ rows) h = most_drop most c k rows (λ i. h (suc i))

most_take : (most c k : ℕ) (rows : List (List ℤ)) → AreMost most c rows → AreMost most c (take k rows)
most_take most c zero rows h i = none_most most
most_take most c (suc k) [] h i = none_most most
most_take most c (suc k) (row ∷ rows) h zero = h zero
most_take most c (suc k) (row ∷ rows) h (suc i) = most_take most c k rows (λ j. h (suc j)) i

entry_most : (most c i : ℕ) (ks : List ℕ) (rows : List (List ℤ)) → AreMost most c rows → unsigned_abs (entry ks (map (λ (row : List ℤ). wave_in row c) rows) i) ≤ most
entry_most most c i [] rows h = none_most most
entry_most most c i (k ∷ ks) [] h = none_most most
entry_most most c i (k ∷ ks) (row ∷ rows) h = by (k == i) (h zero) (entry_most most c i ks rows (λ j. h (suc j)))
  where
    by : (b : Bool) → unsigned_abs (wave_in row c) ≤ most → unsigned_abs (entry ks (map (λ (r : List ℤ). wave_in r c) rows) i) ≤ most
        → unsigned_abs (cond b (wave_in row c) (entry ks (map (λ (r : List ℤ). wave_in r c) rows) i)) ≤ most
    by true first rest = first
    by false first rest = rest

-- ---- what a block asks of them

pub are_inputs : (runs : ℕ) (s : ScheduleValue) (plan : PlanOf) (count : ℕ) (feeds : List Feed) (rows : List (List ℤ)) → AreAllowed runs plan rows → AreInputs runs s plan count feeds rows
are_inputs runs s plan count feeds rows allowed c f small frame i source =
    entry_most (greatest_input plan) c i (source_numbers s.net) (take (length feeds) (drop (f * length feeds) rows))
    (most_take (greatest_input plan) c (length feeds) (drop (f * length feeds) rows)
    (most_drop (greatest_input plan) c (f * length feeds) rows (most_behind (greatest_input plan) c rows (λ j inside. allowed j c inside small))))

-- no sample has more than 32 bits, and no more than 16 are added
few_bits : (plan : PlanOf) → IsPlan plan → greatest_input plan ≤ 2 ^ 60
few_bits plan rules =
    let few = width plan.bits rules.bits in
    let amp = rules.amp.1 in
    let guard = rules.guard in
    let least : plan.bits - 1 ≤ 32 = omega (arith, few) in
    let one : 2 ^ (plan.bits - 1) ≤ 2 ^ 32 = pow-le-pow_right (omega arith) least in
    let two : 2 ^ plan.guard ≤ 2 ^ 16 = pow-le-pow_right (omega arith) guard in
    let most : plan.amp ≤ 2 ^ 32 = omega (arith, amp, one) in
    let both : plan.amp * 2 ^ plan.guard ≤ 2 ^ 32 * 2 ^ 16 = mul-le-mul most two in
    omega (arith, both)
  where
    width : (bits : ℕ) → IsTrue (is_sample_width bits) → bits ≤ 32
    width bits h = grind (arith, nat_tests)

pub are_small : (runs : ℕ) (plan : PlanOf) (rows : List (List ℤ)) → IsPlan plan → AreAllowed runs plan rows → AreSmallValues runs rows
are_small runs plan rows rules allowed i c inside small = let most = few_bits plan rules in let own = allowed i c inside small in omega (arith, most, own)
