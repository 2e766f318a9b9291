-- Data worked by hand, against which the definitions of a run over bytes are checked.
use Rattle.std.specs.Prelude.{◌≡◌, ℕ, List, [], ◌∷◌, None, Some}
use Rattle.wdf_bounds.specs.Plans.{plan_of}
use Rattle.wdf_law.specs.declared.side.Side.{Side}
use Rattle.wdf_law.specs.declared.side.Side.TheVariants.{Whole, B}
use Rattle.wdf_law.specs.WorkedFrames.{capacitor_circuit}
use Rattle.wdf_energy.specs.declared.totals.Totals.{Totals}
use Rattle.wdf_lattice.specs.declared.networks.Networks.{Networks}
use Rattle.wdf_lattice.specs.declared.networks.Networks.TheVariants.{Ladder, Lattice}
use Rattle.wdf_lattice.specs.WorkedWaves.{divider, mixer, branch}
use Rattle.wdf_frames.specs.Setting.{Setting, setting, runs_of}
use Rattle.wdf_frames.specs.Progress.{data_for, limited_in, totals_for}

-- 16 bits
abbrev pub worked : Networks → (guard channels frames : ℕ) → Setting
worked ns guard channels frames = setting ns (plan_of 14 guard 0 1000 32768 16) (record { channels = channels; rate = 48000; bits = 16; frames = frames })

-- the bytes of these frames give these output samples
abbrev pub GivesData : Setting → (body samples : List ℕ) → Type 0
GivesData s body samples = data_for s body ≡ samples

-- and the energy of a run on them went there
abbrev pub GivesTotals : Setting → (body : List ℕ) → Side → (run : ℕ) → Totals → Type 0
GivesTotals s body side run totals = totals_for s body side run ≡ Some totals

-- 16384, -16384 and then zeros in three frames of two channels
abbrev pub pulses : List ℕ
pulses = 0 ∷ 64 ∷ 0 ∷ 192 ∷ 0 ∷ 0 ∷ 0 ∷ 0 ∷ 0 ∷ 0 ∷ 0 ∷ 0 ∷ []

pub record AreWorkedRuns : Type 0 where
  -- 1, -2
  pub divider : GivesData (worked (Ladder divider) 4 1 2) (1 ∷ 0 ∷ 254 ∷ 255 ∷ []) (1 ∷ 0 ∷ 254 ∷ 255 ∷ [])
  -- two channels, of 16384, -16384 and then 0, 0: 10922, -10922 and then 7281, -7281
  pub channels : GivesData (worked (Ladder capacitor_circuit) 0 2 2) (0 ∷ 64 ∷ 0 ∷ 192 ∷ 0 ∷ 0 ∷ 0 ∷ 0 ∷ []) (170 ∷ 42 ∷ 86 ∷ 213 ∷ 113 ∷ 28 ∷ 143 ∷ 227 ∷ [])
  -- two sources in one run: 3000 and 6000 give 6000, and 32767 twice comes to 43688, which is limited
  pub sources : GivesData (worked (Ladder mixer) 0 2 2) (184 ∷ 11 ∷ 112 ∷ 23 ∷ 255 ∷ 127 ∷ 255 ∷ 127 ∷ []) (112 ∷ 23 ∷ 255 ∷ 127 ∷ [])
  pub limited : limited_in (worked (Ladder mixer) 0 2 2) (184 ∷ 11 ∷ 112 ∷ 23 ∷ 255 ∷ 127 ∷ 255 ∷ 127 ∷ []) ≡ 1
  pub one_run : runs_of (worked (Ladder mixer) 0 2 2) ≡ 1
  -- a lattice: 1000 and -32768 give 999 and -32764
  pub lattice : GivesData (worked (Lattice (branch 1) (branch 16383)) 4 1 2) (232 ∷ 3 ∷ 0 ∷ 128 ∷ []) (231 ∷ 3 ∷ 4 ∷ 128 ∷ [])
  -- squares that sum to 88731881 at the source and 178188521 at the load, and 1214² at last in the capacitor, in each channel
  pub first_energy : GivesTotals (worked (Ladder capacitor_circuit) 0 2 3) pulses Whole 0 (record { incident = 268435456; absorbed = 266936716; stored = 1473930 })
  pub second_energy : GivesTotals (worked (Ladder capacitor_circuit) 0 2 3) pulses Whole 1 (record { incident = 268435456; absorbed = 266936716; stored = 1473930 })
  pub no_third : totals_for (worked (Ladder capacitor_circuit) 0 2 3) pulses Whole 2 ≡ None
  pub branch_energy : GivesTotals (worked (Lattice (branch 1) (branch 16383)) 4 1 2) (232 ∷ 3 ∷ 0 ∷ 128 ∷ []) B 0 (record { incident = 275133906944; absorbed = 275133905444; stored = 0 })
