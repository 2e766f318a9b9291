-- What the types of this crate keep.
use Rattle.std.specs.Prelude.{◌≡◌, ℕ, ◌*◌, ◌/◌, ◌<◌, ◌≤◌, IsTrue}
use Rattle.wdf_bounds.specs.Plans.{PlanOf, is_sample_width}
use Rattle.wdf_lattice.specs.Sides.{sources_driven, run_count, down_shift_of}
use Rattle.wdf_lattice.specs.Runners.{RunnerValue}
use Rattle.wdf_wav.specs.declared.head.Head.{Head}
use Rattle.wdf_wav.specs.Header.{block_align, data_size}

-- a round: its runner, plan and head belong together, and its buffers hold a block
pub record IsShaped (r : RunnerValue) (plans : PlanOf) (form : Head) (down runs limited samples waves : ℕ) : Type 0 where
  pub plan_is : r.plan ≡ plans
  pub runs_are : r.runs ≡ runs
  pub for_channels : runs ≡ run_count r.networks form.channels
  pub some_run : 1 ≤ runs
  pub few_runs : runs ≤ 8
  pub driven : form.channels ≡ runs * sources_driven r.networks
  pub some_channel : 1 ≤ form.channels
  pub few_channels : form.channels ≤ 8
  pub bits_are : form.bits ≡ plans.bits
  pub width : IsTrue (is_sample_width form.bits)
  pub down_is : down ≡ down_shift_of r.networks plans.guard plans.shift
  pub few_down : down ≤ 33
  pub samples_room : samples ≡ 4096 * form.channels
  pub waves_room : waves ≡ 4096 * runs
  pub few_limited : limited ≤ r.done * runs

-- a run: its buffers hold the bytes of a block, what is kept of the head is that of a wave that is written, and the
-- plan has at least its frames
pub record HasRoom (r : RunnerValue) (form : Head) (runs frames made : ℕ) : Type 0 where
  pub frames_room : frames ≡ 4096 * block_align form
  pub made_room : made ≡ 4096 * (runs * (form.bits / 8))
  pub rate : form.rate ≤ 1000000
  pub size : data_size form < 0xFFFFFF00
  pub most : form.frames ≤ r.plan.frames
