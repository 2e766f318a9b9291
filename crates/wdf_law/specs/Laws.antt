-- What the definitions of a network imply, for every network, every state and every input.
use Rattle.std.specs.Prelude.{◌≡◌, ℕ, ◌+◌, ◌*◌, ◌<◌, ◌≤◌, ℤ, pos, ◌*ℤ◌, true, List, [], ◌∷◌}
use Rattle.wdf_algebra.specs.Squares.{square}
use Rattle.wdf_algebra.specs.Truncation.{trunc}
use Rattle.wdf_law.specs.Trees.{AdaptorTree, leaf, series, parallel}
use Rattle.wdf_law.specs.Network.{Network, unit_of, elements, has_reactance}
use Rattle.wdf_law.specs.Conductance.{conductance, series_first, series_second, parallel_first, parallel_second, left_factor, right_factor}
use Rattle.wdf_law.specs.Step.{Waves, ends, forks, Frame, IsStep, sent_in, after}
use Rattle.wdf_law.specs.Solved.{solved, solved_run}
use Rattle.wdf_law.specs.Run.{states, at_rest, IsRun, at_end}
use Rattle.wdf_law.specs.RunOutputs.{inputs, outputs, GivesOutputs}
use Rattle.wdf_law.specs.Energy.{stored, incident, absorbed, all_incident, all_absorbed, all_taken}

-- ---- conductances

-- g = g1 + g2 and q·g1 = m·g
pub record AreParallel (q m g1 g2 g : ℕ) : Type 0 where
  pub sum : g ≡ g1 + g2
  pub first : q * g1 ≡ m * g

-- g·(g1 + g2) = g1·g2 and q·g = m·g1
pub record AreSeries (q m g1 g2 g : ℕ) : Type 0 where
  pub sum : g * (g1 + g2) ≡ g1 * g2
  pub first : q * g ≡ m * g1

-- every port of a tree with the factor f has a positive conductance, and every junction's three fit its multiplier
abbrev pub HaveConductances : ℕ → ℕ → AdaptorTree → Type 0
HaveConductances q f (leaf i k flip) = 0 < conductance q f (leaf i k flip)
HaveConductances q f (series m l r) =
    (0 < conductance q f (series m l r))
    × AreSeries q m (conductance q (series_first q f m r) l) (conductance q (series_second q f m l) r) (conductance q f (series m l r))
    × HaveConductances q (series_first q f m r) l × HaveConductances q (series_second q f m l) r
HaveConductances q f (parallel m l r) =
    (0 < conductance q f (parallel m l r))
    × AreParallel q m (conductance q (parallel_first q f m r) l) (conductance q (parallel_second q f m l) r) (conductance q f (parallel m l r))
    × HaveConductances q (parallel_first q f m r) l × HaveConductances q (parallel_second q f m l) r

-- and at the root q·g1 = m·(g1 + g2)
pub record HasConductances (n : Network) : Type 0 where
  pub root : unit_of n * conductance (unit_of n) (left_factor n) n.left
      ≡ n.m * (conductance (unit_of n) (left_factor n) n.left + conductance (unit_of n) (right_factor n) n.right)
  pub left : HaveConductances (unit_of n) (left_factor n) n.left
  pub right : HaveConductances (unit_of n) (right_factor n) n.right

-- ---- one step

-- from every state and for every input there is a step, and any two are equal
pub record HasOneStep (n : Network) : Type 0 where
  pub some : (zs : List ℤ) (e : ℕ → ℤ) → (s : Frame) × IsStep n (states n zs) e s
  pub only : (zs : List ℤ) (e : ℕ → ℤ) (s t : Frame) → IsStep n (states n zs) e s → IsStep n (states n zs) e t → s ≡ t
  -- so it is the one whose values the junctions' equations were solved for
  pub values : (zs : List ℤ) (e : ℕ → ℤ) → IsStep n (states n zs) e (solved n (states n zs) e)
  -- and so for a run
  pub run : (zs : List ℤ) (es : List (ℕ → ℤ)) → IsRun n zs es (solved_run n zs es)
  pub only_run : (zs : List ℤ) (es : List (ℕ → ℤ)) (ss : List Frame) → IsRun n zs es ss → ss ≡ solved_run n zs es
  -- a reactance's state after a step is the wave that it was sent
  pub left_behind : (s : Frame) (i : ℕ) → has_reactance (elements n) i ≡ true → states n (after n s) i ≡ sent_in n s i

-- so samples give the outputs of the solved run, and no others
pub record HasOneOutput (n : Network) : Type 0 where
  pub some : (guard down_shift bits : ℕ) (samples : List (List ℤ))
      → GivesOutputs guard down_shift bits n samples (outputs down_shift bits n (solved_run n (at_rest n) (inputs guard n samples)))
  pub only : (guard down_shift bits : ℕ) (samples : List (List ℤ)) (values : List ℤ) → GivesOutputs guard down_shift bits n samples values
      → values ≡ outputs down_shift bits n (solved_run n (at_rest n) (inputs guard n samples))

-- ---- energy

-- q divides each outgoing value, so nothing is lost
abbrev pub IsExact : ℕ → ℤ → Type 0
IsExact q b = pos q *ℤ trunc b q ≡ b

abbrev pub AreExact : ℕ → Waves → Type 0
AreExact q (ends u d) = Unit {0}
AreExact q (forks u d b1 b2 b wl wr) = IsExact q b1 × IsExact q b2 × IsExact q b × AreExact q wl × AreExact q wr

pub record IsLossless (n : Network) (s : Frame) : Type 0 where
  pub first : IsExact (unit_of n) s.b1
  pub second : IsExact (unit_of n) s.b2
  pub left : AreExact (unit_of n) s.left
  pub right : AreExact (unit_of n) s.right

-- after each frame, what is stored and all that was absorbed is at most all that came in; a is what was absorbed
-- before the first and c what came in before it, stored or not
abbrev pub IsRunKept : Network → ℕ → ℕ → List (ℕ → ℤ) → List Frame → Type 0
IsRunKept n a c [] ss = Unit {0}
IsRunKept n a c (e ∷ es) [] = Unit {0}
IsRunKept n a c (e ∷ es) (s ∷ ss) = (stored n (after n s) + (a + absorbed n s) ≤ c + incident n e) × IsRunKept n (a + absorbed n s) (c + incident n e) es ss

pub record KeepsEnergy (n : Network) : Type 0 where
  -- what is stored after a step and what was absorbed is at most what was stored before and what came in
  pub step : (zs : List ℤ) (e : ℕ → ℤ) (s : Frame) → IsStep n (states n zs) e s
      → stored n (after n s) + absorbed n s ≤ stored n zs + incident n e
  -- where nothing is lost, they are equal
  pub lossless : (zs : List ℤ) (e : ℕ → ℤ) (s : Frame) → IsStep n (states n zs) e s → IsLossless n s
      → stored n (after n s) + absorbed n s ≡ stored n zs + incident n e
  -- and only there
  pub only_lossless : (zs : List ℤ) (e : ℕ → ℤ) (s : Frame) → IsStep n (states n zs) e s
      → stored n (after n s) + absorbed n s ≡ stored n zs + incident n e → IsLossless n s
  -- so in a run, after each frame, what is stored and was absorbed so far is at most what was stored at first and came in
  -- so far
  pub every_frame : (zs : List ℤ) (es : List (ℕ → ℤ)) (ss : List Frame) → IsRun n zs es ss → IsRunKept n 0 (stored n zs) es ss
  -- and over the whole of it
  pub whole : (zs : List ℤ) (es : List (ℕ → ℤ)) (ss : List Frame) → IsRun n zs es ss
      → stored n (at_end n zs ss) + all_absorbed n ss ≤ stored n zs + all_incident n es
  -- at rest nothing is stored
  pub rest : stored n (at_rest n) ≡ 0
  -- so from rest all is at most what came in
  pub every_frame_from_rest : (es : List (ℕ → ℤ)) (ss : List Frame) → IsRun n (at_rest n) es ss → IsRunKept n 0 0 es ss
  pub run : (es : List (ℕ → ℤ)) (ss : List Frame) → IsRun n (at_rest n) es ss
      → stored n (at_end n (at_rest n) ss) + all_absorbed n ss ≤ all_incident n es

-- ---- every wave

-- a wave's or a value's energy is at most c
abbrev pub IsBounded : ℕ → ℕ → ℤ → Type 0
IsBounded c g z = g * square z ≤ c

-- at every port of a tree both waves are bounded by c, with the port's own conductance, and before truncation
-- each outgoing value by q²·c, with the conductance of the port that it is sent to
abbrev pub AreBounded : ℕ → ℕ → ℕ → AdaptorTree → Waves → Type 0
AreBounded q c f (leaf i k flip) (ends u d) = IsBounded c (conductance q f (leaf i k flip)) u × IsBounded c (conductance q f (leaf i k flip)) d
AreBounded q c f (leaf i k flip) (forks u d b1 b2 b wl wr) = ⊥
AreBounded q c f (series m l r) (ends u d) = ⊥
AreBounded q c f (series m l r) (forks u d b1 b2 b wl wr) =
    IsBounded c (conductance q f (series m l r)) u × IsBounded c (conductance q f (series m l r)) d
    × IsBounded (q * q * c) (conductance q (series_first q f m r) l) b1
    × IsBounded (q * q * c) (conductance q (series_second q f m l) r) b2
    × IsBounded (q * q * c) (conductance q f (series m l r)) b
    × AreBounded q c (series_first q f m r) l wl × AreBounded q c (series_second q f m l) r wr
AreBounded q c f (parallel m l r) (ends u d) = ⊥
AreBounded q c f (parallel m l r) (forks u d b1 b2 b wl wr) =
    IsBounded c (conductance q f (parallel m l r)) u × IsBounded c (conductance q f (parallel m l r)) d
    × IsBounded (q * q * c) (conductance q (parallel_first q f m r) l) b1
    × IsBounded (q * q * c) (conductance q (parallel_second q f m l) r) b2
    × IsBounded (q * q * c) (conductance q f (parallel m l r)) b
    × AreBounded q c (parallel_first q f m r) l wl × AreBounded q c (parallel_second q f m l) r wr

pub record IsFrameBounded (n : Network) (c : ℕ) (s : Frame) : Type 0 where
  pub first : IsBounded (unit_of n * unit_of n * c) (conductance (unit_of n) (left_factor n) n.left) s.b1
  pub second : IsBounded (unit_of n * unit_of n * c) (conductance (unit_of n) (right_factor n) n.right) s.b2
  pub left : AreBounded (unit_of n) c (left_factor n) n.left s.left
  pub right : AreBounded (unit_of n) c (right_factor n) n.right s.right

-- each frame is bounded by the energy sent in so far, c being that before the first
abbrev pub IsRunBounded : Network → ℕ → List (ℕ → ℤ) → List Frame → Type 0
IsRunBounded n c [] ss = Unit {0}
IsRunBounded n c (e ∷ es) [] = Unit {0}
IsRunBounded n c (e ∷ es) (s ∷ ss) = IsFrameBounded n (c + incident n e) s × IsRunBounded n (c + incident n e) es ss

pub record BoundsEveryWave (n : Network) : Type 0 where
  -- by what was stored and what comes in
  pub step : (zs : List ℤ) (e : ℕ → ℤ) (s : Frame) → IsStep n (states n zs) e s → IsFrameBounded n (stored n zs + incident n e) s
  -- in a run by what was stored at first and was sent in so far
  pub every_frame : (zs : List ℤ) (es : List (ℕ → ℤ)) (ss : List Frame) → IsRun n zs es ss → IsRunBounded n (stored n zs) es ss
  -- from rest by what was sent in so far
  pub run : (es : List (ℕ → ℤ)) (ss : List Frame) → IsRun n (at_rest n) es ss → IsRunBounded n 0 es ss
  -- and a resistor or source takes up no more than all that was sent in
  pub sums : (j : ℕ) (es : List (ℕ → ℤ)) (ss : List Frame) → IsRun n (at_rest n) es ss → all_taken n j ss ≤ all_incident n es
