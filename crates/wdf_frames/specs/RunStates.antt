-- A run of a wave as its callers see it.
use Rattle.std.specs.Prelude.{◌≡◌, ℕ, Option}
use Rattle.wdf_law.specs.declared.side.Side.{Side}
use Rattle.wdf_energy.specs.declared.totals.Totals.{Totals}
use Rattle.wdf_lattice.specs.Runners.{totals_by as runner_totals}
use Rattle.wdf_frames.specs.declared.wave_run.WaveRun.{WaveRun}
use Rattle.wdf_frames.specs.Setting.{Setting}
use Rattle.wdf_frames.specs.Progress.{IsBegunRound, round_setting}

abbrev pub setting_of : WaveRun → Setting
setting_of run = round_setting run.round.value

-- how many output samples were limited so far
abbrev pub limited_by : WaveRun → ℕ
limited_by run = run.round.value.limited

-- where the energy of the frames so far went, by the side of a network and the number of a run
abbrev pub totals_by : WaveRun → Side → ℕ → Option Totals
totals_by run = runner_totals run.round.value.runner

-- it is at rest, and has read and written nothing
abbrev pub IsFresh : WaveRun → Type 0
IsFresh run = IsBegunRound run.round.value (setting_of run)

pub record IsReady (s : Setting) (run : WaveRun) : Type 0 where
  pub set : setting_of run ≡ s
  pub fresh : IsFresh run
