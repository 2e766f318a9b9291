-- What the down waves by element are after a frame's walk up and down the trees.
use Rattle.std.specs.Prelude.{ℤ, List, slice_set}
use Rattle.wdf_law.specs.Trees.{AdaptorTree, leaf, series, parallel}
use Rattle.wdf_law.specs.Network.{Network}
use Rattle.wdf_law.specs.Step.{Waves, ends, forks, Frame}

-- a list by element, with the down wave of each leaf at its number
abbrev pub placed : AdaptorTree → Waves → List ℤ → List ℤ
placed (leaf i k flip) (ends u d) xs = slice_set xs i d
placed (leaf i k flip) (forks u d b1 b2 b wl wr) xs = xs
placed (series m l r) (ends u d) xs = xs
placed (series m l r) (forks u d b1 b2 b wl wr) xs = placed r wr (placed l wl xs)
placed (parallel m l r) (ends u d) xs = xs
placed (parallel m l r) (forks u d b1 b2 b wl wr) xs = placed r wr (placed l wl xs)

abbrev pub placed_frame : Network → Frame → List ℤ → List ℤ
placed_frame n s xs = placed n.right s.right (placed n.left s.left xs)
