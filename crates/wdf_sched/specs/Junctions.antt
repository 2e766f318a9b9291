-- How the operations of a schedule hang together: the junctions in the order of the way up, of which the way down has the
-- reverse, and the slots of the waves that pass between them.
use Rattle.std.specs.Prelude.{◌≡◌, ℕ, ◌<◌, ◌⊎◌, List, [], ◌∷◌, ◌++◌, length, map, reverse}
use Rattle.wdf_sched.specs.declared.op.Op.{Op}
use Rattle.wdf_sched.specs.declared.op.Op.TheVariants.{UpSeries, UpParallel, Root, DownSeries, DownParallel}
use Rattle.wdf_sched.specs.Meaning.{slot_at}

-- a junction with the slots and the multiplier of its two operations
pub data Junction : Type 0 where
  series : (m a b out d x y : ℕ) → Junction
  parallel : (m a b raw out d x y : ℕ) → Junction

abbrev pub up_op : Junction → Op
up_op (series m a b out d x y) = UpSeries a b out
up_op (parallel m a b raw out d x y) = UpParallel a b m raw out

abbrev pub down_op : Junction → Op
down_op (series m a b out d x y) = DownSeries a b d m x y
down_op (parallel m a b raw out d x y) = DownParallel a b d raw x y

-- a tree, by the slots of the wave that it reflects and of the wave that it is sent
pub record Branch : Type 0 where
  pub up : ℕ
  pub down : ℕ

abbrev pub branch : ℕ → ℕ → Branch
branch up down = record { up = up; down = down }

-- the parts of a junction, and the tree above which it stands
abbrev pub first_part : Junction → Branch
first_part (series m a b out d x y) = branch a x
first_part (parallel m a b raw out d x y) = branch a x

abbrev pub second_part : Junction → Branch
second_part (series m a b out d x y) = branch b y
second_part (parallel m a b raw out d x y) = branch b y

abbrev pub own_branch : Junction → Branch
own_branch (series m a b out d x y) = branch out d
own_branch (parallel m a b raw out d x y) = branch out d

-- a part is an element, whose up slot is its number and whose down slot stands in the list of these, or the tree that was
-- put on a stack last
abbrev pub IsTaken : List ℕ → Branch → List Branch → List Branch → Type 0
IsTaken down_slots p before behind =
    ((p.up < length down_slots) × (p.down ≡ slot_at down_slots p.up) × (behind ≡ before)) ⊎ (before ≡ p ∷ behind)

-- each junction takes its second part and then its first, and is put on the stack as a tree
abbrev pub Join : List ℕ → List Branch → List Junction → List Branch → Type 0
Join down_slots stack [] end = stack ≡ end
Join down_slots stack (j ∷ js) end =
    (middle : List Branch) × (rest : List Branch) × IsTaken down_slots (second_part j) stack middle × IsTaken down_slots (first_part j) middle rest
    × Join down_slots (own_branch j ∷ rest) js end

-- The operations: up the junctions, the root, which takes what is left on the stack, and down the junctions in the reverse
-- order. down_slots are the elements' down slots, by their numbers.
pub record IsJoined (ops : List Op) (down_slots : List ℕ) : Type 0 where
  pub junctions : List Junction
  pub m : ℕ
  pub left : Branch
  pub right : Branch
  pub list : ops ≡ map up_op junctions ++ Root left.up right.up m left.down right.down ∷ reverse (map down_op junctions)
  pub stack : List Branch
  pub middle : List Branch
  pub join : Join down_slots [] junctions stack
  pub takes_right : IsTaken down_slots right stack middle
  pub takes_left : IsTaken down_slots left middle []
