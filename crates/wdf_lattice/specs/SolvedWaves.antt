-- The load waves of samples, solved: what the runs of all channels give from given states, and the states that they
-- leave behind.
use Rattle.std.specs.Prelude.{ℕ, ℤ, List, [], length, unwrap_or, option_map}
use Rattle.wdf_law.specs.declared.side.Side.{Side}
use Rattle.wdf_law.specs.Network.{Network}
use Rattle.wdf_law.specs.Run.{at_rest, at_end}
use Rattle.wdf_law.specs.Solved.{solved_run}
use Rattle.wdf_lattice.specs.declared.networks.Networks.{Networks}
use Rattle.wdf_lattice.specs.Sides.{network_at}
use Rattle.wdf_lattice.specs.Waves.{Family, frames_of, inputs_for, waves_of}

-- the states of the reactances of all runs, by the side of their network and the number of the run
abbrev pub States : Type 0
States = Side → ℕ → List ℤ

-- what a side's network gives, nothing where the form has no such side
abbrev pub of_side : {X : Type 0} → Networks → Side → (Network → List X) → List X
of_side ns side f = unwrap_or (option_map f (network_at ns side)) []

-- the steps of the runs from the states zs
abbrev pub solved_family : Networks → ℕ → States → List (List ℤ) → Family
solved_family ns guard zs frames side run = of_side ns side (λ n. solved_run n (zs side run) (inputs_for ns guard run n frames))

-- all states are those of networks at rest
abbrev pub all_at_rest : Networks → States
all_at_rest ns side run = of_side ns side at_rest

-- the states that the frames leave behind
abbrev pub states_behind : Networks → ℕ → States → List (List ℤ) → States
states_behind ns guard zs frames side run = of_side ns side (λ n. at_end n (zs side run) (solved_run n (zs side run) (inputs_for ns guard run n frames)))

-- the load waves of frames from the states zs
abbrev pub waves_from : Networks → ℕ → ℕ → States → List (List ℤ) → List ℤ
waves_from ns guard runs zs frames = waves_of ns (length frames) runs (solved_family ns guard zs frames)

-- and of samples from rest
abbrev pub waves_for : Networks → ℕ → ℕ → List ℤ → List ℤ
waves_for ns guard runs samples = waves_from ns guard runs (all_at_rest ns) (frames_of ns runs samples)
