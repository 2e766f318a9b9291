-- Operations carried out one by one, each on the values that those before it left.
use Rattle.std.specs.Prelude.{◌≡◌, ℕ, ◌-◌, ◌<◌, ℤ, ◌+ℤ◌, ◌==◌, if◌then◌else◌, List, [], ◌∷◌, length}
use Rattle.wdf_algebra.specs.JunctionValues.{series_part, parallel_value, root_value}
use Rattle.wdf_algebra.specs.Truncation.{trunc}
use Rattle.wdf_law.specs.Network.{unit_of, elements}
use Rattle.wdf_sched.specs.declared.op.Op.{Op}
use Rattle.wdf_sched.specs.declared.op.Op.TheVariants.{UpSeries, UpParallel, Root, DownSeries, DownParallel}
use Rattle.wdf_sched.specs.Operations.{Slots, HoldAll, parallel_rest}
use Rattle.wdf_sched.specs.Meaning.{Starts}
use Rattle.wdf_sched.specs.Schedules.{ScheduleValue}

-- the values with z in the slot j
abbrev pub put : ℕ → ℤ → Slots → Slots
put j z v i = if j == i then z else v i

-- the values that an operation leaves
abbrev pub after_op : ℕ → Op → Slots → Slots
after_op q (UpSeries a b out) v = put out (v a +ℤ v b) v
after_op q (UpParallel a b m raw out) v =
    put out (trunc (parallel_value m (q - m) (v a) (v b)) q) (put raw (parallel_value m (q - m) (v a) (v b)) v)
after_op q (Root a b m x y) v =
    put y (trunc (root_value q m (q - m) (v a) (v b) (v b)) q) (put x (trunc (root_value q m (q - m) (v a) (v b) (v a)) q) v)
after_op q (DownSeries a b d m x y) v =
    put y (trunc (series_part q (q - m) (v a) (v b) (v d) (v b)) q) (put x (trunc (series_part q m (v a) (v b) (v d) (v a)) q) v)
after_op q (DownParallel a b d raw x y) v =
    put y (trunc (parallel_rest q (v raw) (v d) (v b)) q) (put x (trunc (parallel_rest q (v raw) (v d) (v a)) q) v)

abbrev pub after_ops : ℕ → List Op → Slots → Slots
after_ops q [] v = v
after_ops q (op ∷ ops) v = after_ops q ops (after_op q op v)

-- the slots below a number have the same values
abbrev pub AgreeBelow : ℕ → Slots → Slots → Type 0
AgreeBelow count v w = (i : ℕ) → i < count → w i ≡ v i

-- The values that a schedule's operations write follow from those in the elements' up slots.
pub record HasValues (s : ScheduleValue) : Type 0 where
  -- for every state and every input there are values of the up slots to begin with
  pub starts : (x e : ℕ → ℤ) → (v : Slots) × Starts s.net x e v
  -- Carried out in their order on any values, the operations keep those of the up slots, and in the end the slots hold what
  -- each of them writes;
  pub some : (v : Slots) → AgreeBelow (length (elements s.net)) v (after_ops (unit_of s.net) s.ops v)
      × HoldAll (unit_of s.net) (after_ops (unit_of s.net) s.ops v) s.ops
  -- so they hold what the elements reflect where the first values did,
  pub kept : (x e : ℕ → ℤ) (v w : Slots) → AgreeBelow (length (elements s.net)) v w → Starts s.net x e v → Starts s.net x e w
  -- and no other values with these in the up slots do.
  pub only : (v w : Slots) → AgreeBelow (length (elements s.net)) v w → HoldAll (unit_of s.net) v s.ops → HoldAll (unit_of s.net) w s.ops
      → AgreeBelow s.slot_count v w
