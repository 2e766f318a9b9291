-- The conductances of the ports of a quantised network, as positive whole numbers: what a junction's
-- multiplier m/q says of its ports is met by
--   parallel  g = g1 + g2,          q·g1 = m·g
--   series    g·(g1 + g2) = g1·g2,  q·g = m·g1
--   root                            q·g1 = m·(g1 + g2)
-- The unit is the network's own: only ratios of conductances count.
use Rattle.std.specs.Prelude.{ℕ, ◌*◌, ◌-◌}
use Rattle.wdf_law.specs.Trees.{AdaptorTree, leaf, series, parallel}
use Rattle.wdf_law.specs.Network.{Network, unit_of}

-- the clearing number of a tree, which makes the conductances of its ports whole
abbrev pub clearing : ℕ → AdaptorTree → ℕ
clearing q (leaf _ _ _) = 1
clearing q (series m l r) = m * (q - m) * clearing q l * clearing q r
clearing q (parallel m l r) = q * clearing q l * clearing q r

-- the conductance of a tree's own port, where it has the factor f
abbrev pub conductance : ℕ → ℕ → AdaptorTree → ℕ
conductance q f t = f * clearing q t

-- the factors of a junction's parts, f being its own; r is the second part and l the first
abbrev pub series_first : ℕ → ℕ → ℕ → AdaptorTree → ℕ
series_first q f m r = f * q * (q - m) * clearing q r

abbrev pub series_second : ℕ → ℕ → ℕ → AdaptorTree → ℕ
series_second q f m l = f * q * m * clearing q l

abbrev pub parallel_first : ℕ → ℕ → ℕ → AdaptorTree → ℕ
parallel_first q f m r = f * m * clearing q r

abbrev pub parallel_second : ℕ → ℕ → ℕ → AdaptorTree → ℕ
parallel_second q f m l = f * (q - m) * clearing q l

-- the factors of the two parts at the root
abbrev pub root_first : ℕ → ℕ → AdaptorTree → ℕ
root_first q m right = m * clearing q right

abbrev pub root_second : ℕ → ℕ → AdaptorTree → ℕ
root_second q m left = (q - m) * clearing q left

-- and so of the two trees of a network
abbrev pub left_factor : Network → ℕ
left_factor n = root_first (unit_of n) n.m n.right

abbrev pub right_factor : Network → ℕ
right_factor n = root_second (unit_of n) n.m n.left
