-- Which load waves samples give. A run takes its samples of a frame from the place where those of the runs before it
-- end, so that source j of run r is driven by the sample r·sources + j of each frame.
use Rattle.std.specs.Prelude.{◌≡◌, ℕ, ◌*◌, ◌/◌, ◌<◌, ℤ, pos, ◌-ℤ◌, List, length, map, flat_map, take, drop, get_or, Some}
use Rattle.std.specs.List.{range_with_len}
use Rattle.wdf_algebra.specs.Pieces.{pieces}
use Rattle.wdf_law.specs.declared.side.Side.{Side}
use Rattle.wdf_law.specs.declared.side.Side.TheVariants.{Whole, A, B}
use Rattle.wdf_law.specs.Network.{Network}
use Rattle.wdf_law.specs.Step.{Frame}
use Rattle.wdf_law.specs.Run.{IsRun, at_rest}
use Rattle.wdf_law.specs.RunOutputs.{inputs, load_waves}
use Rattle.wdf_lattice.specs.declared.networks.Networks.{Networks}
use Rattle.wdf_lattice.specs.declared.networks.Networks.TheVariants.{Ladder, Lattice}
use Rattle.wdf_lattice.specs.Sides.{network_at, sources_driven}

-- ---- samples

-- the frames of interleaved samples: a sample for each source of each run
abbrev pub frames_of : Networks → ℕ → List ℤ → List (List ℤ)
frames_of ns runs samples = pieces (length samples / (runs * sources_driven ns)) (runs * sources_driven ns) samples

-- the samples of one run, in one frame
abbrev pub samples_for : ℕ → ℕ → List ℤ → List ℤ
samples_for sources run frame = take sources (drop (run * sources) frame)

-- and what they send into its network, in all frames
abbrev pub inputs_for : Networks → ℕ → ℕ → Network → List (List ℤ) → List (ℕ → ℤ)
inputs_for ns guard run n frames = inputs guard n (map (samples_for (sources_driven ns) run) frames)

-- ---- runs

-- the steps of all runs, by the side of their network and the number of the run
abbrev pub Family : Type 0
Family = Side → ℕ → List Frame

-- each run is a reference run of its side's network from rest, on its own samples
pub record AreRuns (ns : Networks) (guard runs : ℕ) (frames : List (List ℤ)) (family : Family) : Type 0 where
  pub each : (side : Side) (n : Network) → network_at ns side ≡ Some n → (run : ℕ) → run < runs
      → IsRun n (at_rest n) (inputs_for ns guard run n frames) (family side run)

-- ---- load waves

-- the load wave of one frame of a run
abbrev pub wave_in : Network → List Frame → ℕ → ℤ
wave_in n steps frame = get_or (load_waves n steps) frame (pos 0)

-- a lattice gives the wave at branch B's source less that at branch A's
abbrev pub wave_at : Networks → Family → ℕ → ℕ → ℤ
wave_at (Ladder n) family frame run = wave_in n (family Whole run) frame
wave_at (Lattice a b) family frame run = wave_in b (family B run) frame -ℤ wave_in a (family A run) frame

-- values by frame and run, frame after frame, and in each frame run after run
abbrev pub interleaved : ℕ → ℕ → (ℕ → ℕ → ℤ) → List ℤ
interleaved frames runs value = flat_map (λ frame. map (value frame) (range_with_len 0 runs)) (range_with_len 0 frames)

abbrev pub waves_of : Networks → ℕ → ℕ → Family → List ℤ
waves_of ns frames runs family = interleaved frames runs (wave_at ns family)

-- the samples give these load waves: there are such runs, and all such runs have these waves
pub record GivesWaves (ns : Networks) (guard runs : ℕ) (samples waves : List ℤ) : Type 0 where
  pub some : (family : Family) × AreRuns ns guard runs (frames_of ns runs samples) family
  pub each : (family : Family) → AreRuns ns guard runs (frames_of ns runs samples) family
      → waves_of ns (length (frames_of ns runs samples)) runs family ≡ waves
