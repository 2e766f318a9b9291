-- What the ports of a network are in every step, and its energies as sums over them.
use Rattle.std.specs.Prelude.{◌≡◌, ℕ, ◌*◌, ◌<◌, ◌≤◌, true, ℤ, unsigned_abs, List, length, map}
use Rattle.std.specs.List.{sum_by}
use Rattle.wdf_algebra.specs.Squares.{square}
use Rattle.wdf_law.specs.Network.{Network, elements, reactances, has_source, source_numbers, absorbing_numbers}
use Rattle.wdf_law.specs.Step.{Frame, IsStep, sent_in}
use Rattle.wdf_law.specs.Run.{states}
use Rattle.wdf_law.specs.Energy.{stored, incident, absorbed}
use Rattle.wdf_law.specs.Ports.{Port, ports, port_at, conductance_at, source_conductance}

pub record HasPorts (n : Network) : Type 0 where
  -- in a step there is a port for each element, in the elements' order, with what the network has at its number
  pub each : (x e : ℕ → ℤ) (s : Frame) → IsStep n x e s → ports n s ≡ map (port_at n s) (elements n)
  -- so the elements of the ports are the network's
  pub whose : (x e : ℕ → ℤ) (s : Frame) → IsStep n x e s → map (λ (p : Port). p.element) (ports n s) ≡ elements n
  pub positive : (i : ℕ) → i < length (elements n) → 0 < conductance_at n i
  pub some_source : 0 < source_conductance n
  -- the energies, over the numbers in netlist order
  pub stored_sum : (zs : List ℤ) → stored n zs ≡ sum_by (λ (i : ℕ). conductance_at n i * square (states n zs i)) (reactances n)
  pub incident_sum : (e : ℕ → ℤ) → incident n e ≡ sum_by (λ (i : ℕ). conductance_at n i * square (e i)) (source_numbers n)
  pub absorbed_sum : (x e : ℕ → ℤ) (s : Frame) → IsStep n x e s
      → absorbed n s ≡ sum_by (λ (i : ℕ). conductance_at n i * square (sent_in n s i)) (absorbing_numbers n)
  -- where no source's value is larger than c
  pub incident_most : (e : ℕ → ℤ) (c : ℕ) → ((i : ℕ) → has_source (elements n) i ≡ true → unsigned_abs (e i) ≤ c) → incident n e ≤ source_conductance n * (c * c)
