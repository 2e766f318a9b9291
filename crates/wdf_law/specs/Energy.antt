-- The energies of a network, as sums of weighted squares: g·x² at a port of the conductance g. Their unit is that of the
-- conductances.
use Rattle.std.specs.Prelude.{ℕ, ◌+◌, ◌*◌, if◌then◌else◌, Bool, ℤ, List, [], ◌∷◌}
use Rattle.wdf_algebra.specs.Squares.{square}
use Rattle.wdf_law.specs.declared.kind.Kind.{Kind}
use Rattle.wdf_law.specs.Trees.{AdaptorTree, leaf, series, parallel}
use Rattle.wdf_law.specs.Network.{Network, unit_of, elements, is_source, is_reactance, is_absorbing, has_absorbing}
use Rattle.wdf_law.specs.Conductance.{conductance, series_first, series_second, parallel_first, parallel_second, left_factor, right_factor}
use Rattle.wdf_law.specs.Step.{Waves, ends, forks, Frame, sent_in}
use Rattle.wdf_law.specs.Run.{states}
use Rattle.wdf_law.specs.Ports.{conductance_at}

-- the sum of g·z² over the elements of a kind in a tree with the factor f, z being a value by the element's number
abbrev pub energy_in : (Kind → Bool) → ℕ → (ℕ → ℤ) → ℕ → AdaptorTree → ℕ
energy_in is q z f (leaf i k flip) = if is k then conductance q f (leaf i k flip) * square (z i) else 0
energy_in is q z f (series m l r) = energy_in is q z (series_first q f m r) l + energy_in is q z (series_second q f m l) r
energy_in is q z f (parallel m l r) = energy_in is q z (parallel_first q f m r) l + energy_in is q z (parallel_second q f m l) r

-- and of g·d², d being the wave that is sent there
abbrev pub sent_energy_in : (Kind → Bool) → ℕ → ℕ → AdaptorTree → Waves → ℕ
sent_energy_in is q f (leaf i k flip) (ends u d) = if is k then conductance q f (leaf i k flip) * square d else 0
sent_energy_in is q f (leaf i k flip) (forks u d b1 b2 b wl wr) = 0
sent_energy_in is q f (series m l r) (ends u d) = 0
sent_energy_in is q f (series m l r) (forks u d b1 b2 b wl wr) = sent_energy_in is q (series_first q f m r) l wl + sent_energy_in is q (series_second q f m l) r wr
sent_energy_in is q f (parallel m l r) (ends u d) = 0
sent_energy_in is q f (parallel m l r) (forks u d b1 b2 b wl wr) =
    sent_energy_in is q (parallel_first q f m r) l wl + sent_energy_in is q (parallel_second q f m l) r wr

-- the energy stored in a tree at the states x, that sent in at the sources' values e, and that taken up by resistors and
-- sources
abbrev pub stored_in : ℕ → (ℕ → ℤ) → ℕ → AdaptorTree → ℕ
stored_in q x f t = energy_in is_reactance q x f t

abbrev pub incident_in : ℕ → (ℕ → ℤ) → ℕ → AdaptorTree → ℕ
incident_in q e f t = energy_in is_source q e f t

abbrev pub absorbed_in : ℕ → ℕ → AdaptorTree → Waves → ℕ
absorbed_in q f t w = sent_energy_in is_absorbing q f t w

-- the energy stored in the states zs, in netlist order
abbrev pub stored : Network → List ℤ → ℕ
stored n zs = stored_in (unit_of n) (states n zs) (left_factor n) n.left + stored_in (unit_of n) (states n zs) (right_factor n) n.right

-- the energy sent in and taken up in one step
abbrev pub incident : Network → (ℕ → ℤ) → ℕ
incident n e = incident_in (unit_of n) e (left_factor n) n.left + incident_in (unit_of n) e (right_factor n) n.right

abbrev pub absorbed : Network → Frame → ℕ
absorbed n s = absorbed_in (unit_of n) (left_factor n) n.left s.left + absorbed_in (unit_of n) (right_factor n) n.right s.right

-- and in all steps of a run
abbrev pub all_incident : Network → List (ℕ → ℤ) → ℕ
all_incident n [] = 0
all_incident n (e ∷ es) = incident n e + all_incident n es

abbrev pub all_absorbed : Network → List Frame → ℕ
all_absorbed n [] = 0
all_absorbed n (s ∷ ss) = absorbed n s + all_absorbed n ss

-- g·d² at the resistor or source with the number j, 0 where there is none
abbrev pub taken : Network → ℕ → Frame → ℕ
taken n j s = if has_absorbing (elements n) j then conductance_at n j * square (sent_in n s j) else 0

-- g times the sum of d² over a run
abbrev pub all_taken : Network → ℕ → List Frame → ℕ
all_taken n j [] = 0
all_taken n j (s ∷ ss) = taken n j s + all_taken n j ss
