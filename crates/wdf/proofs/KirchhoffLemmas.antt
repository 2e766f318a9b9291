-- A reference step obeys Kirchhoff's laws and the laws of its elements, and so each step of a run.
use Rattle.std.proofs.Common.{ℕ, ℤ, List, [], ◌∷◌}
use Rattle.wdf_law.specs.Trees.{AdaptorTree, leaf, series, parallel}
use Rattle.wdf_law.specs.Network.{Network, unit_of}
use Rattle.wdf_law.specs.Conductance.{series_first, series_second, parallel_first, parallel_second, left_factor, right_factor}
use Rattle.wdf_law.specs.Step.{Waves, ends, forks, Frame, Follows, IsStep, after}
use Rattle.wdf_law.specs.Run.{states, IsRun}
use Rattle.wdf.specs.Kirchhoff.{HoldAtJunctions, ObeyAtLeaves, AreTruncated, HoldsInFrame, HoldsInRun}

junctions : (q f : ℕ) (x e : ℕ → ℤ) (t : AdaptorTree) (w : Waves) → Follows q x e f t w → HoldAtJunctions q f t w
junctions q f x e (leaf i k flip) w h = tt
junctions q f x e (series m l r) (ends u d) h = h
junctions q f x e (series m l r) (forks u d b1 b2 b wl wr) h = (h.0, junctions q (series_first q f m r) x e l wl h.2, junctions q (series_second q f m l) x e r wr h.3)
junctions q f x e (parallel m l r) (ends u d) h = h
junctions q f x e (parallel m l r) (forks u d b1 b2 b wl wr) h = (h.0, junctions q (parallel_first q f m r) x e l wl h.2, junctions q (parallel_second q f m l) x e r wr h.3)

leaves : (q f : ℕ) (x e : ℕ → ℤ) (t : AdaptorTree) (w : Waves) → Follows q x e f t w → ObeyAtLeaves x e t w
leaves q f x e (leaf i k flip) (ends u d) h = h
leaves q f x e (leaf i k flip) (forks u d b1 b2 b wl wr) h = h
leaves q f x e (series m l r) (ends u d) h = h
leaves q f x e (series m l r) (forks u d b1 b2 b wl wr) h = (leaves q (series_first q f m r) x e l wl h.2, leaves q (series_second q f m l) x e r wr h.3)
leaves q f x e (parallel m l r) (ends u d) h = h
leaves q f x e (parallel m l r) (forks u d b1 b2 b wl wr) h = (leaves q (parallel_first q f m r) x e l wl h.2, leaves q (parallel_second q f m l) x e r wr h.3)

truncated : (q f : ℕ) (x e : ℕ → ℤ) (t : AdaptorTree) (w : Waves) → Follows q x e f t w → AreTruncated q w
truncated q f x e (leaf i k flip) (ends u d) h = tt
truncated q f x e (leaf i k flip) (forks u d b1 b2 b wl wr) h = absurd h
truncated q f x e (series m l r) (ends u d) h = tt
truncated q f x e (series m l r) (forks u d b1 b2 b wl wr) h = (h.1, truncated q (series_first q f m r) x e l wl h.2, truncated q (series_second q f m l) x e r wr h.3)
truncated q f x e (parallel m l r) (ends u d) h = tt
truncated q f x e (parallel m l r) (forks u d b1 b2 b wl wr) h = (h.1, truncated q (parallel_first q f m r) x e l wl h.2, truncated q (parallel_second q f m l) x e r wr h.3)

in_frame : (n : Network) (x e : ℕ → ℤ) (s : Frame) → IsStep n x e s → HoldsInFrame n x e s
in_frame n x e s h =
    let q = unit_of n in
    record {
      root = h.root;
      left_junctions = junctions q (left_factor n) x e n.left s.left h.left;
      right_junctions = junctions q (right_factor n) x e n.right s.right h.right;
      left_elements = leaves q (left_factor n) x e n.left s.left h.left;
      right_elements = leaves q (right_factor n) x e n.right s.right h.right;
      to_left = h.to_left;
      to_right = h.to_right;
      left_waves = truncated q (left_factor n) x e n.left s.left h.left;
      right_waves = truncated q (right_factor n) x e n.right s.right h.right;
    }

pub in_run : (n : Network) (zs : List ℤ) (es : List (ℕ → ℤ)) (ss : List Frame) → IsRun n zs es ss → HoldsInRun n zs es ss
in_run n zs [] [] h = tt
in_run n zs [] (s ∷ ss) h = h
in_run n zs (e ∷ es) [] h = h
in_run n zs (e ∷ es) (s ∷ ss) h = (in_frame n (states n zs) e s h.0, in_run n (after n s) es ss h.1)
