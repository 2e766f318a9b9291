-- Numbers of ports that are large enough for their conductances.
use Rattle.std.specs.Prelude.{ℕ, ◌*◌, ◌^◌, ◌<◌, ◌≤◌, length}
use Rattle.wdf_law.specs.Trees.{AdaptorTree, leaf, series, parallel}
use Rattle.wdf_law.specs.Network.{Network, unit_of, elements}
use Rattle.wdf_law.specs.Conductance.{conductance, series_first, series_second, parallel_first, parallel_second, left_factor, right_factor}
use Rattle.wdf_law.specs.Ports.{conductance_at, source_conductance}
use Rattle.wdf_quant.specs.PortBound.{PortNumbers, end, fork, own, NetworkNumbers, port_numbers, number_at}

-- p·g ≥ c at every port of a tree with the factor f
abbrev pub Covers : ℕ → ℕ → ℕ → AdaptorTree → PortNumbers → Type 0
Covers q c f (leaf i k flip) (end p) = c ≤ p * conductance q f (leaf i k flip)
Covers q c f (leaf i k flip) (fork p wl wr) = ⊥
Covers q c f (series m l r) (end p) = ⊥
Covers q c f (series m l r) (fork p wl wr) =
    (c ≤ p * conductance q f (series m l r)) × Covers q c (series_first q f m r) l wl × Covers q c (series_second q f m l) r wr
Covers q c f (parallel m l r) (end p) = ⊥
Covers q c f (parallel m l r) (fork p wl wr) =
    (c ≤ p * conductance q f (parallel m l r)) × Covers q c (parallel_first q f m r) l wl × Covers q c (parallel_second q f m l) r wr

-- and of a network
pub record CoversNetwork (n : Network) (c : ℕ) (w : NetworkNumbers) : Type 0 where
  pub left : Covers (unit_of n) c (left_factor n) n.left w.left
  pub right : Covers (unit_of n) c (right_factor n) n.right w.right

-- at a tree's own port
pub own-covers : (q c f : ℕ) (t : AdaptorTree) (w : PortNumbers) → Covers q c f t w → c ≤ own w * conductance q f t
own-covers q c f (leaf i k flip) (end p) h = h
own-covers q c f (leaf i k flip) (fork p wl wr) h = absurd h
own-covers q c f (series m l r) (end p) h = absurd h
own-covers q c f (series m l r) (fork p wl wr) h = h.0
own-covers q c f (parallel m l r) (end p) h = absurd h
own-covers q c f (parallel m l r) (fork p wl wr) h = h.0

-- the number of each port times its conductance is at least 2^40 times the sum of the sources' conductances, as the trees
-- have the ports and by the number of an element
pub record CoversSources (n : Network) : Type 0 where
  pub ports : CoversNetwork n (2 ^ 40 * source_conductance n) (port_numbers n)
  pub leaves : (j : ℕ) → j < length (elements n) → 2 ^ 40 * source_conductance n ≤ number_at n j * conductance_at n j
