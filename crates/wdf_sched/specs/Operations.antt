-- Operations on numbered slots, and what each of them means: a relation between the values of the slots. Where each
-- slot is written once, and read after its write, it says the same as carrying the operations out in their order.
use Rattle.std.specs.Prelude.{◌≡◌, ℕ, ◌+◌, ◌-◌, ◌*◌, ◌<◌, ◌≤◌, ℤ, pos, ◌+ℤ◌, ◌-ℤ◌, ◌*ℤ◌, unsigned_abs, List, [], ◌∷◌}
use Rattle.wdf_algebra.specs.JunctionValues.{series_part, parallel_value, root_value}
use Rattle.wdf_algebra.specs.Truncation.{trunc}
use Rattle.wdf_sched.specs.declared.op.Op.{Op}
use Rattle.wdf_sched.specs.declared.op.Op.TheVariants.{UpSeries, UpParallel, Root, DownSeries, DownParallel}

-- the values of the slots, by their numbers
abbrev pub Slots : Type 0
Slots = ℕ → ℤ

-- what holds of each operation of a list
abbrev pub Each : (Op → Type 0) → List Op → Type 0
Each P [] = Unit {0}
Each P (op ∷ ops) = P op × Each P ops

-- ---- values

-- the value that a parallel junction sends to the part whose wave is u, raw being its own before truncation: q·d + raw - q·u
abbrev pub parallel_rest : (q : ℕ) (raw d u : ℤ) → ℤ
parallel_rest q raw d u = pos q *ℤ d +ℤ raw -ℤ pos q *ℤ u

-- the slots hold what the operation writes
abbrev pub Holds : ℕ → Slots → Op → Type 0
Holds q v (UpSeries a b out) = v out ≡ v a +ℤ v b
Holds q v (UpParallel a b m raw out) = (v raw ≡ parallel_value m (q - m) (v a) (v b)) × (v out ≡ trunc (v raw) q)
Holds q v (Root a b m x y) =
    (v x ≡ trunc (root_value q m (q - m) (v a) (v b) (v a)) q) × (v y ≡ trunc (root_value q m (q - m) (v a) (v b) (v b)) q)
Holds q v (DownSeries a b d m x y) =
    (v x ≡ trunc (series_part q m (v a) (v b) (v d) (v a)) q) × (v y ≡ trunc (series_part q (q - m) (v a) (v b) (v d) (v b)) q)
Holds q v (DownParallel a b d raw x y) =
    (v x ≡ trunc (parallel_rest q (v raw) (v d) (v a)) q) × (v y ≡ trunc (parallel_rest q (v raw) (v d) (v b)) q)

abbrev pub HoldAll : ℕ → Slots → List Op → Type 0
HoldAll q v ops = Each (Holds q v) ops

-- ---- sizes

abbrev pub IsAtMost : ℕ → ℤ → Type 0
IsAtMost limit z = unsigned_abs z ≤ limit

-- every wave that the operation reads or writes is at most the limit, and a raw one, counted in 1/q, at most q times it
abbrev pub IsWithin : ℕ → ℕ → Slots → Op → Type 0
IsWithin q limit v (UpSeries a b out) = IsAtMost limit (v a) × IsAtMost limit (v b) × IsAtMost limit (v out)
IsWithin q limit v (UpParallel a b m raw out) =
    IsAtMost limit (v a) × IsAtMost limit (v b) × IsAtMost (q * limit) (v raw) × IsAtMost limit (v out)
IsWithin q limit v (Root a b m x y) = IsAtMost limit (v a) × IsAtMost limit (v b) × IsAtMost limit (v x) × IsAtMost limit (v y)
IsWithin q limit v (DownSeries a b d m x y) =
    IsAtMost limit (v a) × IsAtMost limit (v b) × IsAtMost limit (v d) × IsAtMost limit (v x) × IsAtMost limit (v y)
IsWithin q limit v (DownParallel a b d raw x y) =
    IsAtMost limit (v a) × IsAtMost limit (v b) × IsAtMost limit (v d) × IsAtMost (q * limit) (v raw) × IsAtMost limit (v x)
    × IsAtMost limit (v y)

abbrev pub AreWithin : ℕ → ℕ → Slots → List Op → Type 0
AreWithin q limit v ops = Each (IsWithin q limit v) ops

-- the values that the operation forms before it truncates any are at most this
abbrev pub FormsWithin : ℕ → ℕ → Slots → Op → Type 0
FormsWithin q most v (UpSeries a b out) = IsAtMost most (v a +ℤ v b)
FormsWithin q most v (UpParallel a b m raw out) = IsAtMost most (parallel_value m (q - m) (v a) (v b))
FormsWithin q most v (Root a b m x y) =
    IsAtMost most (root_value q m (q - m) (v a) (v b) (v a)) × IsAtMost most (root_value q m (q - m) (v a) (v b) (v b))
FormsWithin q most v (DownSeries a b d m x y) =
    IsAtMost most (series_part q m (v a) (v b) (v d) (v a)) × IsAtMost most (series_part q (q - m) (v a) (v b) (v d) (v b))
FormsWithin q most v (DownParallel a b d raw x y) =
    IsAtMost most (parallel_rest q (v raw) (v d) (v a)) × IsAtMost most (parallel_rest q (v raw) (v d) (v b))

-- the operation's multiplier, where it has one, is in 1..=q-1
abbrev pub HasShare : ℕ → Op → Type 0
HasShare q (UpSeries a b out) = Unit {0}
HasShare q (UpParallel a b m raw out) = (1 ≤ m) × (m < q)
HasShare q (Root a b m x y) = (1 ≤ m) × (m < q)
HasShare q (DownSeries a b d m x y) = (1 ≤ m) × (m < q)
HasShare q (DownParallel a b d raw x y) = Unit {0}

-- ---- order

-- the operation reads slots below next alone
abbrev pub ReadsBelow : ℕ → Op → Type 0
ReadsBelow next (UpSeries a b out) = (a < next) × (b < next)
ReadsBelow next (UpParallel a b m raw out) = (a < next) × (b < next)
ReadsBelow next (Root a b m x y) = (a < next) × (b < next)
ReadsBelow next (DownSeries a b d m x y) = (a < next) × (b < next) × (d < next)
ReadsBelow next (DownParallel a b d raw x y) = (a < next) × (b < next) × (d < next) × (raw < next)

-- the slots that it writes are the next ones, in the order of its fields
abbrev pub WritesFrom : ℕ → Op → Type 0
WritesFrom next (UpSeries a b out) = out ≡ next
WritesFrom next (UpParallel a b m raw out) = (raw ≡ next) × (out ≡ next + 1)
WritesFrom next (Root a b m x y) = (x ≡ next) × (y ≡ next + 1)
WritesFrom next (DownSeries a b d m x y) = (x ≡ next) × (y ≡ next + 1)
WritesFrom next (DownParallel a b d raw x y) = (x ≡ next) × (y ≡ next + 1)

-- how many they are
abbrev pub written_by : Op → ℕ
written_by (UpSeries a b out) = 1
written_by (UpParallel a b m raw out) = 2
written_by (Root a b m x y) = 2
written_by (DownSeries a b d m x y) = 2
written_by (DownParallel a b d raw x y) = 2

-- Each operation reads below the slots that it writes, and these are numbered on from next to end. So each slot from
-- next on is written once, before any operation reads it, and none at end or above is read or written.
abbrev pub InOrder : ℕ → List Op → ℕ → Type 0
InOrder next [] end = next ≡ end
InOrder next (op ∷ ops) end = ReadsBelow next op × WritesFrom next op × InOrder (next + written_by op) ops end

-- ---- parts

-- the slots of the waves that the junctions and the root read as those of their parts, on the way up
abbrev pub part_slots : List Op → List ℕ
part_slots [] = []
part_slots (UpSeries a b out ∷ ops) = a ∷ b ∷ part_slots ops
part_slots (UpParallel a b m raw out ∷ ops) = a ∷ b ∷ part_slots ops
part_slots (Root a b m x y ∷ ops) = a ∷ b ∷ part_slots ops
part_slots (DownSeries a b d m x y ∷ ops) = part_slots ops
part_slots (DownParallel a b d raw x y ∷ ops) = part_slots ops

-- and of those that the junctions reflect
abbrev pub own_slots : List Op → List ℕ
own_slots [] = []
own_slots (UpSeries a b out ∷ ops) = out ∷ own_slots ops
own_slots (UpParallel a b m raw out ∷ ops) = out ∷ own_slots ops
own_slots (Root a b m x y ∷ ops) = own_slots ops
own_slots (DownSeries a b d m x y ∷ ops) = own_slots ops
own_slots (DownParallel a b d raw x y ∷ ops) = own_slots ops
