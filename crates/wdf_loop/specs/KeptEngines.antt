-- What the type of an engine keeps, by its fields, and the engine as clauses see it.
use Rattle.std.specs.Prelude.{ℕ, ◌+◌, ◌*◌, ◌^◌, ◌<◌, ◌≤◌, ℤ, List, length, take, drop}
use Rattle.wdf_law.specs.Network.{source_numbers}
use Rattle.wdf_loop.specs.declared.groups.Groups.{Groups}
use Rattle.wdf_loop.specs.declared.setting.Setting.{Setting}
use Rattle.wdf_loop.specs.AllRuns.{AreAt, all_slots, run_count}
use Rattle.wdf_loop.specs.Engines.{EngineValue}
use Rattle.wdf_loop.specs.Settings.{IsSetting}

abbrev pub engine_of : Setting → Groups → ℕ → EngineValue
engine_of t g done = record { schedule = t.schedule; plan = t.plan; done = done; slots = all_slots t g }

-- there are 1 to 8 runs, each of which has come so far
pub record IsEngine (t : Setting) (g : Groups) (done : ℕ) : Type 0 where
  pub setting : IsSetting t
  pub at : AreAt t done g
  pub frames : done ≤ t.plan.frames
  pub some : 1 ≤ run_count g
  pub few : run_count g ≤ 8

-- ---- a piece of a block

-- so many frames from `at` on lie within the samples and the load waves, and the plan has as many left
pub record IsWithin (t : Setting) (g : Groups) (done at count : ℕ) (input output : List ℤ) : Type 0 where
  pub samples : (at + count) * (run_count g * length (source_numbers t.schedule.net)) ≤ length input
  pub places : (at + count) * run_count g ≤ length output
  pub few : at + count < 2 ^ 64
  pub left : done + count ≤ t.plan.frames

-- their samples and load waves
abbrev pub input_from : Setting → Groups → (at count : ℕ) → List ℤ → List ℤ
input_from t g at count input = take (count * (run_count g * length (source_numbers t.schedule.net))) (drop (at * (run_count g * length (source_numbers t.schedule.net))) input)

abbrev pub output_from : Groups → (at count : ℕ) → List ℤ → List ℤ
output_from g at count output = take (count * run_count g) (drop (at * run_count g) output)
