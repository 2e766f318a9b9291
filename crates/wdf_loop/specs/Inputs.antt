-- What the sources of several runs may be driven by: values of samples that a plan allows.
use Rattle.std.specs.Prelude.{◌≡◌, ℕ, ◌+◌, ◌*◌, ◌<◌, ◌≤◌, ℤ, pos, unsigned_abs, List, [], length, slice_index_or}
use Rattle.wdf_law.specs.OutputRule.{scaled_up}
use Rattle.wdf_bounds.specs.Plans.{PlanOf, greatest_input}
use Rattle.wdf_loop.specs.RunCells.{wave_in}

-- no value is larger than the plan's greatest sample with its guard bits
abbrev pub AreAllowed : ℕ → PlanOf → List (List ℤ) → Type 0
AreAllowed runs plan rows = (i c : ℕ) → i < length rows → c < runs → unsigned_abs (wave_in (slice_index_or rows i []) c) ≤ greatest_input plan

-- a row holds, with the guard's bits, the samples at every `stride`th place from `at` on, one for each run
abbrev pub HoldsSamples : (runs guard stride : ℕ) → List ℤ → ℕ → List ℤ → Type 0
HoldsSamples runs guard stride samples at row = (c : ℕ) → c < runs → wave_in row c ≡ scaled_up guard (slice_index_or samples (at + c * stride) (pos 0))

-- Rows hold those of `runs` runs from `first` on, of `all`: of each of `count` frames a row for each source, source 0 first.
abbrev pub HoldFrames : (runs guard all first sources count : ℕ) → List ℤ → List (List ℤ) → Type 0
HoldFrames runs guard all first sources count samples rows =
    (f i : ℕ) → f < count → i < sources → HoldsSamples runs guard sources samples ((f * all + first) * sources + i) (slice_index_or rows (f * sources + i) [])
