-- Trees of ports with their ratios as clauses see them: without their boxes.
use Rattle.std.specs.Prelude.{ℕ, ◌^◌, ◌≤◌, Bool}
use Rattle.wdf_law.specs.declared.connection.Connection.TheVariants.{Series, Parallel}
use Rattle.wdf_law.specs.declared.kind.Kind.{Kind}
use Rattle.wdf_law.specs.declared.port_tree.PortTree.{PortTree, Leaf, Series', Parallel'}
use Rattle.wdf_law.specs.Outline.{Outline, single, joined}

pub data PortOutline : Type 0 where
  leaf_port : (elem : ℕ) (kind : Kind) (flip : Bool) (ratio : ℕ) → PortOutline
  series_port : (ratio : ℕ) (l r : PortOutline) → PortOutline
  parallel_port : (ratio : ℕ) (l r : PortOutline) → PortOutline

abbrev pub port_outline : PortTree → PortOutline
port_outline (Leaf elem kind flip ratio) = leaf_port elem kind flip ratio
port_outline (Series' ratio p l q r) = series_port ratio (port_outline l) (port_outline r)
port_outline (Parallel' ratio p l q r) = parallel_port ratio (port_outline l) (port_outline r)

-- the ratio of its own port
abbrev pub ratio_of : PortOutline → ℕ
ratio_of (leaf_port _ _ _ ratio) = ratio
ratio_of (series_port ratio l r) = ratio
ratio_of (parallel_port ratio l r) = ratio

-- the shape whose ports these are
abbrev pub shape_outline : PortOutline → Outline
shape_outline (leaf_port elem kind flip ratio) = single elem kind flip
shape_outline (series_port ratio l r) = joined Series (shape_outline l) (shape_outline r)
shape_outline (parallel_port ratio l r) = joined Parallel (shape_outline l) (shape_outline r)

-- a ratio may be in 1..=2^62
abbrev pub IsRatio : ℕ → Type 0
IsRatio ratio = (1 ≤ ratio) × (ratio ≤ 2 ^ 62)

-- and those of all ports are
abbrev pub HaveRatios : PortOutline → Type 0
HaveRatios (leaf_port _ _ _ ratio) = IsRatio ratio
HaveRatios (series_port ratio l r) = IsRatio ratio × HaveRatios l × HaveRatios r
HaveRatios (parallel_port ratio l r) = IsRatio ratio × HaveRatios l × HaveRatios r
