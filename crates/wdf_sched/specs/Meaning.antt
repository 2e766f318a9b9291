-- That operations compute the step of a network: where the elements' up slots hold what the elements reflect, and the
-- slots hold what each operation writes, the values are waves of the reference step.
use Rattle.std.specs.Prelude.{◌≡◌, ℕ, ◌<◌, ℤ, List, length, slice_index_or}
use Rattle.wdf_law.specs.Trees.{AdaptorTree, leaf, series, parallel}
use Rattle.wdf_law.specs.Network.{Network, unit_of, elements}
use Rattle.wdf_law.specs.Step.{Waves, ends, forks, Frame, IsStep, sent_in}
use Rattle.wdf_law.specs.Run.{states}
use Rattle.wdf_law.specs.Solved.{reflected}
use Rattle.wdf_sched.specs.declared.op.Op.{Op}
use Rattle.wdf_sched.specs.Operations.{Slots, HoldAll, IsAtMost, AreWithin}

-- The up slot of an element has the element's number: it holds what the element reflects, with the state x and, as a
-- source, the value e at that number.
abbrev pub Reflects : (ℕ → ℤ) → (ℕ → ℤ) → Slots → AdaptorTree → Type 0
Reflects x e v (leaf i kind flip) = v i ≡ reflected kind flip (x i) (e i)
Reflects x e v (series m l r) = Reflects x e v l × Reflects x e v r
Reflects x e v (parallel m l r) = Reflects x e v l × Reflects x e v r

-- so for every element of a network
abbrev pub Starts : Network → (ℕ → ℤ) → (ℕ → ℤ) → Slots → Type 0
Starts n x e v = Reflects x e v n.left × Reflects x e v n.right

-- no wave of a tree exceeds the limit
abbrev pub HasWavesWithin : ℕ → Waves → Type 0
HasWavesWithin limit (ends u d) = IsAtMost limit u × IsAtMost limit d
HasWavesWithin limit (forks u d b1 b2 b wl wr) = IsAtMost limit u × IsAtMost limit d × HasWavesWithin limit wl × HasWavesWithin limit wr

-- the slot that a list by the elements' numbers has for an element
abbrev pub slot_at : List ℕ → ℕ → ℕ
slot_at slots i = slice_index_or slots i 0

-- the operations compute the step of a network; down_slots are the elements' down slots, by their numbers
pub record Computes (n : Network) (ops : List Op) (down_slots : List ℕ) : Type 0 where
  -- an element's down slot holds the wave that the step sends it
  pub sends : (zs : List ℤ) (e : ℕ → ℤ) (v : Slots) (s : Frame) → IsStep n (states n zs) e s → Starts n (states n zs) e v → HoldAll (unit_of n) v ops
      → (i : ℕ) → i < length (elements n) → v (slot_at down_slots i) ≡ sent_in n s i
  -- where no wave of the step exceeds a limit, no slot of an operation does
  pub fits : (limit : ℕ) (zs : List ℤ) (e : ℕ → ℤ) (v : Slots) (s : Frame) → IsStep n (states n zs) e s → Starts n (states n zs) e v
      → HoldAll (unit_of n) v ops → HasWavesWithin limit s.left → HasWavesWithin limit s.right → AreWithin (unit_of n) limit v ops
