-- What a fitting plan promises of every word: in a run of at most the plan's frames, where no source is driven by more than
-- amp·2^guard, every wave is at most its port's bound, and every outgoing value, in units of 1/q, at most q times it.
use Rattle.std.specs.Prelude.{◌≡◌, ℕ, ◌+◌, ◌*◌, ◌<◌, ◌≤◌, true, ℤ, unsigned_abs, List, [], ◌∷◌, length}
use Rattle.wdf_algebra.specs.Squares.{square}
use Rattle.wdf_law.specs.Network.{Network, unit_of, elements, has_source, has_absorbing}
use Rattle.wdf_law.specs.Step.{Waves, ends, forks, Frame, IsStep, sent_in, after}
use Rattle.wdf_law.specs.Run.{states, at_rest, IsRun}
use Rattle.wdf_law.specs.Energy.{stored}
use Rattle.wdf_law.specs.Ports.{source_conductance}
use Rattle.wdf_quant.specs.PortBound.{PortNumbers, end, fork, own, port_numbers, number_at}
use Rattle.wdf_bounds.specs.Plans.{PlanOf, greatest_input}
use Rattle.wdf_bounds.specs.WordBound.{bound, word_limit}

-- ---- the words of a frame

-- at each port of a tree both waves are at most its bound, and each outgoing value is at most q times the bound of the
-- port that it is sent to
abbrev pub AreWithin : ℕ → PlanOf → Waves → PortNumbers → Type 0
AreWithin q plan (ends u d) (end p) = (unsigned_abs u ≤ bound plan p) × (unsigned_abs d ≤ bound plan p)
AreWithin q plan (ends u d) (fork p l r) = ⊥
AreWithin q plan (forks u d b1 b2 b wl wr) (end p) = ⊥
AreWithin q plan (forks u d b1 b2 b wl wr) (fork p l r) =
    (unsigned_abs u ≤ bound plan p) × (unsigned_abs d ≤ bound plan p)
    × (unsigned_abs b1 ≤ q * bound plan (own l)) × (unsigned_abs b2 ≤ q * bound plan (own r)) × (unsigned_abs b ≤ q * bound plan p)
    × AreWithin q plan wl l × AreWithin q plan wr r

pub record IsFrameWithin (n : Network) (plan : PlanOf) (s : Frame) : Type 0 where
  pub first : unsigned_abs s.b1 ≤ unit_of n * bound plan (own (port_numbers n).left)
  pub second : unsigned_abs s.b2 ≤ unit_of n * bound plan (own (port_numbers n).right)
  pub left : AreWithin (unit_of n) plan s.left (port_numbers n).left
  pub right : AreWithin (unit_of n) plan s.right (port_numbers n).right

-- no wave of a tree, and of a frame, exceeds the limit
abbrev pub AreLimited : ℕ → Waves → Type 0
AreLimited limit (ends u d) = (unsigned_abs u ≤ limit) × (unsigned_abs d ≤ limit)
AreLimited limit (forks u d b1 b2 b l r) = (unsigned_abs u ≤ limit) × (unsigned_abs d ≤ limit) × AreLimited limit l × AreLimited limit r

pub record IsFrameLimited (limit : ℕ) (s : Frame) : Type 0 where
  pub left : AreLimited limit s.left
  pub right : AreLimited limit s.right

-- ---- runs

-- no source is driven by more than the plan allows
abbrev pub IsInput : Network → PlanOf → (ℕ → ℤ) → Type 0
IsInput n plan e = (i : ℕ) → has_source (elements n) i ≡ true → unsigned_abs (e i) ≤ greatest_input plan

abbrev pub AreInputs : Network → PlanOf → List (ℕ → ℤ) → Type 0
AreInputs n plan [] = Unit {0}
AreInputs n plan (e ∷ es) = IsInput n plan e × AreInputs n plan es

-- as much energy is stored as so many frames may have sent in
abbrev pub IsReached : Network → PlanOf → ℕ → List ℤ → Type 0
IsReached n plan done zs = stored n zs ≤ done * (greatest_input plan * greatest_input plan) * source_conductance n

abbrev pub AreFramesWithin : Network → PlanOf → List Frame → Type 0
AreFramesWithin n plan [] = Unit {0}
AreFramesWithin n plan (s ∷ ss) = IsFrameWithin n plan s × AreFramesWithin n plan ss

-- the sum of the squares of the waves that the element j is sent
abbrev pub squares_sent : Network → ℕ → List Frame → ℕ
squares_sent n j [] = 0
squares_sent n j (s ∷ ss) = square (sent_in n s j) + squares_sent n j ss

pub record HoldsWords (n : Network) (plan : PlanOf) : Type 0 where
  -- in a step from a state that so many frames may have reached, every word is within its port's bound
  pub within : (done : ℕ) (zs : List ℤ) (e : ℕ → ℤ) (s : Frame) → done < plan.frames → IsReached n plan done zs → IsInput n plan e
      → IsStep n (states n zs) e s → IsFrameWithin n plan s
  -- and so within the limit of a word
  pub step : (done : ℕ) (zs : List ℤ) (e : ℕ → ℤ) (s : Frame) → done < plan.frames → IsReached n plan done zs → IsInput n plan e
      → IsStep n (states n zs) e s → IsFrameLimited (word_limit plan) s
  -- its state is one that one frame more may have reached
  pub kept : (done : ℕ) (zs : List ℤ) (e : ℕ → ℤ) (s : Frame) → done < plan.frames → IsReached n plan done zs → IsInput n plan e
      → IsStep n (states n zs) e s → IsReached n plan (done + 1) (after n s)
  -- at rest no frame is needed
  pub rest : IsReached n plan 0 (at_rest n)
  -- so in a run of at most the plan's frames every frame is within the bounds
  pub run : (es : List (ℕ → ℤ)) (ss : List Frame) → length es ≤ plan.frames → AreInputs n plan es → IsRun n (at_rest n) es ss
      → AreFramesWithin n plan ss
  -- and the squares of the waves that a resistor or a source is sent sum to at most the square of its bound
  pub squares : (j : ℕ) (es : List (ℕ → ℤ)) (ss : List Frame) → has_absorbing (elements n) j ≡ true → length es ≤ plan.frames → AreInputs n plan es
      → IsRun n (at_rest n) es ss → squares_sent n j ss ≤ bound plan (number_at n j) * bound plan (number_at n j)
