-- Kirchhoff's laws in the frames of a run. They hold between the waves that come to a junction and the values that leave
-- it, before those are truncated; to truncate them towards zero is all that is lost.
use Rattle.std.specs.Prelude.{◌≡◌, ℕ, ℤ, List, [], ◌∷◌}
use Rattle.wdf_algebra.specs.Truncation.{trunc}
use Rattle.wdf_law.specs.Trees.{AdaptorTree, leaf, series, parallel}
use Rattle.wdf_law.specs.Network.{Network, unit_of}
use Rattle.wdf_law.specs.Conductance.{conductance, series_first, series_second, parallel_first, parallel_second, left_factor, right_factor}
use Rattle.wdf_law.specs.Junction.{IsParallel, IsSeries, IsRoot, Truncates}
use Rattle.wdf_law.specs.Elements.{ObeysElementLaw}
use Rattle.wdf_law.specs.Step.{Waves, ends, forks, up_wave, down_wave, Frame, after}
use Rattle.wdf_law.specs.Run.{states}

-- they hold at each junction of a tree that has the factor f, with the conductances of its ports
abbrev pub HoldAtJunctions : (q f : ℕ) → AdaptorTree → Waves → Type 0
HoldAtJunctions q f (leaf i k flip) w = Unit {0}
HoldAtJunctions q f (series m l r) (ends u d) = ⊥
HoldAtJunctions q f (series m l r) (forks u d b1 b2 b wl wr) =
    IsSeries q (conductance q (series_first q f m r) l) (conductance q (series_second q f m l) r) (conductance q f (series m l r)) (up_wave wl) (up_wave wr) d b1 b2 b
    × HoldAtJunctions q (series_first q f m r) l wl
    × HoldAtJunctions q (series_second q f m l) r wr
HoldAtJunctions q f (parallel m l r) (ends u d) = ⊥
HoldAtJunctions q f (parallel m l r) (forks u d b1 b2 b wl wr) =
    IsParallel q (conductance q (parallel_first q f m r) l) (conductance q (parallel_second q f m l) r) (conductance q f (parallel m l r)) (up_wave wl) (up_wave wr) d b1 b2 b
    × HoldAtJunctions q (parallel_first q f m r) l wl
    × HoldAtJunctions q (parallel_second q f m l) r wr

-- at each leaf of a tree its element obeys Ohm's law or the trapezoidal rule
abbrev pub ObeyAtLeaves : (x e : ℕ → ℤ) → AdaptorTree → Waves → Type 0
ObeyAtLeaves x e (leaf i k flip) (ends u d) = ObeysElementLaw k flip (x i) (e i) u d
ObeyAtLeaves x e (leaf i k flip) (forks u d b1 b2 b wl wr) = ⊥
ObeyAtLeaves x e (series m l r) (ends u d) = ⊥
ObeyAtLeaves x e (series m l r) (forks u d b1 b2 b wl wr) = ObeyAtLeaves x e l wl × ObeyAtLeaves x e r wr
ObeyAtLeaves x e (parallel m l r) (ends u d) = ⊥
ObeyAtLeaves x e (parallel m l r) (forks u d b1 b2 b wl wr) = ObeyAtLeaves x e l wl × ObeyAtLeaves x e r wr

-- each wave that a junction sends is the value that left it, truncated
abbrev pub AreTruncated : (q : ℕ) → Waves → Type 0
AreTruncated q (ends u d) = Unit {0}
AreTruncated q (forks u d b1 b2 b wl wr) = Truncates q u (down_wave wl) (down_wave wr) b1 b2 b × AreTruncated q wl × AreTruncated q wr

-- all this in one frame, from the states x with the inputs e
pub record HoldsInFrame (n : Network) (x e : ℕ → ℤ) (s : Frame) : Type 0 where
  pub root : IsRoot (unit_of n) (conductance (unit_of n) (left_factor n) n.left) (conductance (unit_of n) (right_factor n) n.right) (up_wave s.left) (up_wave s.right) s.b1 s.b2
  pub left_junctions : HoldAtJunctions (unit_of n) (left_factor n) n.left s.left
  pub right_junctions : HoldAtJunctions (unit_of n) (right_factor n) n.right s.right
  pub left_elements : ObeyAtLeaves x e n.left s.left
  pub right_elements : ObeyAtLeaves x e n.right s.right
  pub to_left : down_wave s.left ≡ trunc s.b1 (unit_of n)
  pub to_right : down_wave s.right ≡ trunc s.b2 (unit_of n)
  pub left_waves : AreTruncated (unit_of n) s.left
  pub right_waves : AreTruncated (unit_of n) s.right

-- and in each frame of a run, from the states zs
abbrev pub HoldsInRun : Network → List ℤ → List (ℕ → ℤ) → List Frame → Type 0
HoldsInRun n zs [] [] = Unit {0}
HoldsInRun n zs [] (s ∷ ss) = ⊥
HoldsInRun n zs (e ∷ es) [] = ⊥
HoldsInRun n zs (e ∷ es) (s ∷ ss) = HoldsInFrame n (states n zs) e s × HoldsInRun n (after n s) es ss
