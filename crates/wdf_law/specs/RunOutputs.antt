-- One run of a network from samples to output values: each frame has a sample for each source, in netlist order, and
-- gives one load wave and one output value.
use Rattle.std.specs.Prelude.{◌≡◌, ℕ, ℤ, List, map}
use Rattle.wdf_law.specs.Network.{Network}
use Rattle.wdf_law.specs.Step.{Frame}
use Rattle.wdf_law.specs.Run.{IsRun, at_rest}
use Rattle.wdf_law.specs.OutputRule.{drive, load_wave, output_of}

-- the input of each frame
abbrev pub inputs : ℕ → Network → List (List ℤ) → List (ℕ → ℤ)
inputs guard n samples = map (drive guard n) samples

-- the load wave of each frame
abbrev pub load_waves : Network → List Frame → List ℤ
load_waves n steps = map (load_wave n) steps

-- its output value, at this number of bits
abbrev pub outputs : ℕ → ℕ → Network → List Frame → List ℤ
outputs down_shift bits n steps = map (output_of down_shift bits) (load_waves n steps)

-- there is a reference run from rest on the samples, and each such run has these output values
pub record GivesOutputs (guard down_shift bits : ℕ) (n : Network) (samples : List (List ℤ)) (values : List ℤ) : Type 0 where
  pub run : (steps : List Frame) × IsRun n (at_rest n) (inputs guard n samples) steps
  pub each : (steps : List Frame) → IsRun n (at_rest n) (inputs guard n samples) steps → outputs down_shift bits n steps ≡ values
