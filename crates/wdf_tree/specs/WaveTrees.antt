-- The engine's own trees: a tree of adaptors that keeps at each junction the waves of its parts. What the
-- walk up leaves there, and what the walk down writes from it.
use Rattle.std.specs.Prelude.{◌≡◌, ℕ, ◌-◌, ◌<◌, ℤ, List, slice_set}
use Rattle.wdf_algebra.specs.JunctionValues.{series_part, parallel_part}
use Rattle.wdf_algebra.specs.Truncation.{trunc}
use Rattle.wdf_law.specs.Trees.{AdaptorTree, leaf, series, parallel}
use Rattle.wdf_law.specs.Solved.{ups}
use Rattle.wdf_tree.specs.declared.wave_tree.WaveTree.{WaveTree, Leaf, Series', Parallel'}
use Rattle.wdf_tree.specs.Words.{IsWord}

-- the tree without what it keeps
abbrev pub tree_of : WaveTree → AdaptorTree
tree_of (Leaf elem kind flip) = leaf elem kind flip
tree_of (Series' m up p l q r) = series m (tree_of l) (tree_of r)
tree_of (Parallel' m up p l q r) = parallel m (tree_of l) (tree_of r)

-- every leaf's number is below count
abbrev pub IsPlaced : ℕ → AdaptorTree → Type 0
IsPlaced count (leaf i k flip) = i < count
IsPlaced count (series m l r) = IsPlaced count l × IsPlaced count r
IsPlaced count (parallel m l r) = IsPlaced count l × IsPlaced count r

-- every wave on the way up is a word
abbrev pub HasWordUps : ℕ → (ℕ → ℤ) → (ℕ → ℤ) → AdaptorTree → Type 0
HasWordUps q x e (leaf i k flip) = IsWord q (ups q x e (leaf i k flip))
HasWordUps q x e (series m l r) = IsWord q (ups q x e (series m l r)) × HasWordUps q x e l × HasWordUps q x e r
HasWordUps q x e (parallel m l r) = IsWord q (ups q x e (parallel m l r)) × HasWordUps q x e l × HasWordUps q x e r

-- every junction keeps the up waves of its parts
abbrev pub IsFilled : ℕ → (ℕ → ℤ) → (ℕ → ℤ) → WaveTree → Type 0
IsFilled q x e (Leaf elem _ flip) = Unit {0}
IsFilled q x e (Series' m up p l pr r) = (up.first ≡ ups q x e (tree_of l)) × (up.second ≡ ups q x e (tree_of r)) × IsFilled q x e l × IsFilled q x e r
IsFilled q x e (Parallel' m up p l pr r) = (up.first ≡ ups q x e (tree_of l)) × (up.second ≡ ups q x e (tree_of r)) × IsFilled q x e l × IsFilled q x e r

-- every wave on the way down is a word, where the tree is sent d
abbrev pub HasWordDowns : ℕ → WaveTree → ℤ → Type 0
HasWordDowns q (Leaf elem _ flip) d = Unit {0}
HasWordDowns q (Series' m up p l pr r) d =
    IsWord q up.first × IsWord q up.second × IsWord q d
    × HasWordDowns q l (trunc (series_part q m up.first up.second d up.first) q)
    × HasWordDowns q r (trunc (series_part q (q - m) up.first up.second d up.second) q)
HasWordDowns q (Parallel' m up p l pr r) d =
    IsWord q up.first × IsWord q up.second × IsWord q d
    × HasWordDowns q l (trunc (parallel_part q m (q - m) up.first up.second d up.first) q)
    × HasWordDowns q r (trunc (parallel_part q m (q - m) up.first up.second d up.second) q)

-- what the walk down makes of the down waves by element: each leaf's place has what it was sent
abbrev pub spread : ℕ → WaveTree → ℤ → List ℤ → List ℤ
spread q (Leaf elem _ flip) d xs = slice_set xs elem d
spread q (Series' m up p l pr r) d xs =
    spread q r (trunc (series_part q (q - m) up.first up.second d up.second) q) (spread q l (trunc (series_part q m up.first up.second d up.first) q) xs)
spread q (Parallel' m up p l pr r) d xs =
    spread q r (trunc (parallel_part q m (q - m) up.first up.second d up.second) q) (spread q l (trunc (parallel_part q m (q - m) up.first up.second d up.first) q) xs)
