-- The values that operations form before they truncate them are within four times q times the limit of the waves.
use Rattle.std.proofs.Common.{ℕ, ◌+◌, ◌-◌, ◌*◌, ◌<◌, ◌≤◌, List, [], ◌∷◌, arith, ◌≡◌}
use Rattle.std.specs.Prelude.{ℤ, pos, ◌+ℤ◌, ◌-ℤ◌, ◌*ℤ◌, unsigned_abs}
use Rattle.std.proofs.Math.Nat.{mul-le-mul}
use Rattle.std.proofs.lemmas.Int.{unsigned_abs-mul}
use Rattle.std.proofs.lemmas.Nat.{pow_pos}
use borrow.Author.Differences.{ints}
use Rattle.wdf_algebra.specs.JunctionValues.{series_part, parallel_value, root_value}
use Rattle.wdf_law.specs.Network.{unit_of}
use Rattle.wdf_sched.specs.declared.op.Op.{Op}
use Rattle.wdf_sched.specs.declared.op.Op.TheVariants.{UpSeries, UpParallel, Root, DownSeries, DownParallel}
use Rattle.wdf_sched.specs.Operations.{Slots, Each, IsAtMost, IsWithin, AreWithin, HasShare, FormsWithin, parallel_rest}
use Rattle.wdf_sched.specs.Schedules.{ScheduleValue, IsSchedule}
use Rattle.wdf_sched.specs.Sums.{HasSmallSums}
use Rattle.wdf_sched.proofs.SizeLemmas.{sum-abs, shares-abs}

difference-abs : (a b : ℤ) → unsigned_abs (a -ℤ b) ≤ unsigned_abs a + unsigned_abs b
difference-abs a b = omega (arith, ints)

-- a share of a value
share-abs : (m q most : ℕ) (z : ℤ) → m ≤ q → IsAtMost most z → IsAtMost (q * most) (pos m *ℤ z)
share-abs m q most z few h =
    let size : unsigned_abs (pos m *ℤ z) ≡ m * unsigned_abs z = unsigned_abs-mul (pos m) z in
    let least : m * unsigned_abs z ≤ q * most = mul-le-mul few h in
    omega arith

series-abs : (q m limit : ℕ) (u1 u2 d u : ℤ) → m ≤ q → IsAtMost limit u1 → IsAtMost limit u2 → IsAtMost limit d → IsAtMost limit u
    → IsAtMost (4 * (q * limit)) (series_part q m u1 u2 d u)
series-abs q m limit u1 u2 d u few h1 h2 hd hu =
    let rest : IsAtMost (3 * limit) (d -ℤ (u1 +ℤ u2)) = omega (arith, difference-abs d (u1 +ℤ u2), sum-abs u1 u2) in
    let own = share-abs q q limit u (omega arith) hu in
    let other = share-abs m q (3 * limit) (d -ℤ (u1 +ℤ u2)) few rest in
    omega (arith, sum-abs (pos q *ℤ u) (pos m *ℤ (d -ℤ (u1 +ℤ u2))))

root-abs : (q m limit : ℕ) (u1 u2 u : ℤ) → m ≤ q → IsAtMost limit u1 → IsAtMost limit u2 → IsAtMost limit u
    → IsAtMost (4 * (q * limit)) (root_value q m (q - m) u1 u2 u)
root-abs q m limit u1 u2 u few h1 h2 hu =
    let voltage = share-abs 2 2 (q * limit) (parallel_value m (q - m) u1 u2) (omega arith) (shares-abs q m limit u1 u2 few h1 h2) in
    let own = share-abs q q limit u (omega arith) hu in
    omega (arith, difference-abs (pos 2 *ℤ parallel_value m (q - m) u1 u2) (pos q *ℤ u))

rest-abs : (q limit : ℕ) (raw d u : ℤ) → IsAtMost (q * limit) raw → IsAtMost limit d → IsAtMost limit u → IsAtMost (4 * (q * limit)) (parallel_rest q raw d u)
rest-abs q limit raw d u hr hd hu =
    let sent = share-abs q q limit d (omega arith) hd in
    let own = share-abs q q limit u (omega arith) hu in
    omega (arith, difference-abs (pos q *ℤ d +ℤ raw) (pos q *ℤ u), sum-abs (pos q *ℤ d) raw)

forms : (q limit : ℕ) (v : Slots) (op : Op) → 0 < q → HasShare q op → IsWithin q limit v op → FormsWithin q (4 * (q * limit)) v op
forms q limit v (UpSeries a b out) unit s h =
    let least : 1 * limit ≤ q * limit = mul-le-mul unit (omega arith) in
    omega (arith, sum-abs (v a) (v b), h.0, h.1)
forms q limit v (UpParallel a b m raw out) unit s h =
    let few : m < q = s.1 in
    let sum = shares-abs q m limit (v a) (v b) (omega arith) h.0 h.1 in
    omega arith
forms q limit v (Root a b m x y) unit s h =
    let few : m < q = s.1 in (
      root-abs q m limit (v a) (v b) (v a) (omega arith) h.0 h.1 h.0,
      root-abs q m limit (v a) (v b) (v b) (omega arith) h.0 h.1 h.1,
    )
forms q limit v (DownSeries a b d m x y) unit s h =
    let few : m < q = s.1 in (
      series-abs q m limit (v a) (v b) (v d) (v a) (omega arith) h.0 h.1 h.2 h.0,
      series-abs q (q - m) limit (v a) (v b) (v d) (v b) (omega arith) h.0 h.1 h.2 h.1,
    )
forms q limit v (DownParallel a b d raw x y) unit s h = (
  rest-abs q limit (v raw) (v d) (v a) h.3 h.2 h.0,
  rest-abs q limit (v raw) (v d) (v b) h.3 h.2 h.1,
)

all-form : (q limit : ℕ) (v : Slots) (ops : List Op) → 0 < q → Each (HasShare q) ops → AreWithin q limit v ops → Each (FormsWithin q (4 * (q * limit)) v) ops
all-form q limit v [] unit s h = tt
all-form q limit v (op ∷ ops) unit s h = (forms q limit v op unit s.0 h.0, all-form q limit v ops unit s.1 h.1)

pub small_sums : (s : ScheduleValue) → IsSchedule s → HasSmallSums s
small_sums s rules = record { forms = λ limit v h. all-form (unit_of s.net) limit v s.ops (pow_pos s.net.k) rules.multipliers h }
