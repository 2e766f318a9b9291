-- The ports of the elements: what each has of conductance and waves, as a list and by the element's number.
use Rattle.std.specs.Prelude.{ℕ, ℤ, ◌==◌, if◌then◌else◌, List, [], ◌∷◌, ◌++◌}
use Rattle.std.specs.List.{sum_by}
use Rattle.wdf_law.specs.Trees.{AdaptorTree, leaf, series, parallel, LeafElement}
use Rattle.wdf_law.specs.Network.{Network, unit_of, has_leaf, source_numbers}
use Rattle.wdf_law.specs.Conductance.{conductance, series_first, series_second, parallel_first, parallel_second, left_factor, right_factor}
use Rattle.wdf_law.specs.Step.{Waves, ends, forks, Frame, leaf_wave, sent_in}

-- an element's port in a frame: its conductance, the wave up that the element reflects and the wave down that it is
-- sent
pub record Port : Type 0 where
  pub element : LeafElement
  pub conductance : ℕ
  pub up : ℤ
  pub down : ℤ

-- the ports of the elements of a tree with the factor f, the first part before the second
abbrev pub ports_of : ℕ → ℕ → AdaptorTree → Waves → List Port
ports_of q f (leaf i k flip) (ends u d) =
    record { element = record { number = i; kind = k; flip = flip }; conductance = conductance q f (leaf i k flip); up = u; down = d } ∷ []
ports_of q f (leaf i k flip) (forks u d b1 b2 b wl wr) = []
ports_of q f (series m l r) (ends u d) = []
ports_of q f (series m l r) (forks u d b1 b2 b wl wr) = ports_of q (series_first q f m r) l wl ++ ports_of q (series_second q f m l) r wr
ports_of q f (parallel m l r) (ends u d) = []
ports_of q f (parallel m l r) (forks u d b1 b2 b wl wr) = ports_of q (parallel_first q f m r) l wl ++ ports_of q (parallel_second q f m l) r wr

-- and of a network, the left tree before the right
abbrev pub ports : Network → Frame → List Port
ports n s = ports_of (unit_of n) (left_factor n) n.left s.left ++ ports_of (unit_of n) (right_factor n) n.right s.right

-- ---- by the element's number

-- the conductance of the port of the element j in a tree with the factor f, 0 where there is none
abbrev pub leaf_conductance : ℕ → ℕ → ℕ → AdaptorTree → ℕ
leaf_conductance q j f (leaf i k flip) = if i == j then conductance q f (leaf i k flip) else 0
leaf_conductance q j f (series m l r) = if has_leaf l j then leaf_conductance q j (series_first q f m r) l else leaf_conductance q j (series_second q f m l) r
leaf_conductance q j f (parallel m l r) =
    if has_leaf l j then leaf_conductance q j (parallel_first q f m r) l else leaf_conductance q j (parallel_second q f m l) r

-- and in a network
abbrev pub conductance_at : Network → ℕ → ℕ
conductance_at n j =
    if has_leaf n.left j then leaf_conductance (unit_of n) j (left_factor n) n.left else leaf_conductance (unit_of n) j (right_factor n) n.right

-- the wave that the element j of a tree reflects, 0 where there is none
abbrev pub leaf_up_wave : AdaptorTree → Waves → ℕ → ℤ
leaf_up_wave t w j = leaf_wave (λ (u d : ℤ). u) t w j

-- and in a network, beside the wave that it is sent, sent_in
abbrev pub up_wave_at : Network → Frame → ℕ → ℤ
up_wave_at n s j = if has_leaf n.left j then leaf_up_wave n.left s.left j else leaf_up_wave n.right s.right j

-- the port of an element by these
abbrev pub port_at : Network → Frame → LeafElement → Port
port_at n s x = record { element = x; conductance = conductance_at n x.number; up = up_wave_at n s x.number; down = sent_in n s x.number }

-- the sum of the conductances of the sources
abbrev pub source_conductance : Network → ℕ
source_conductance n = sum_by (conductance_at n) (source_numbers n)
